use Rattle.std.proofs.Common.{Some, rules}
use Rattle.formula.proofs.Building.{or_some, disjoin_joins}
use Rattle.formula.proofs.builder.Builder.or.Goals as goal

pub returns-clause-is_true_where_one_is : goal.returns-clause-is_true_where_one_is
returns-clause-is_true_where_one_is c =
    let g = c.args.self.now in
    let f = c.args.list.now in
    let a = c.args.a in
    let b = c.args.b in
    let g' = c.and.new.self in
    let f' = c.and.new.list in
    disjoin_joins g f a b (Some _) g' f'
    (or_some g f a.0 b.0 c.opposite.result.0 c.opposite-2.result.0 c.opposite.ensures.is_the_other c.opposite-2.ensures.is_the_other g' f' c.in_ok-both.both _
    (search rules) c.in_ok-both.ensures.conjoins)
