use Rattle.std.proofs.Common.{Some, arith, rules}
use Rattle.std.proofs.lemmas.Grind.{common_steps}
use Rattle.formula.proofs.Building.{conjoin_joins}
use Rattle.formula.proofs.builder.Builder.and.Goals as goal

pub returns-in-Some-clause-is_true_where_both_are : goal.returns-in-Some-clause-is_true_where_both_are
returns-in-Some-clause-is_true_where_both_are c =
    conjoin_joins c.args.self.now c.args.list.now c.args.a c.args.b (Some c.in-Some.literal) c.args.self.now c.args.list.now (search rules)

pub returns-clause-is_true_where_both_are : goal.returns-clause-is_true_where_both_are
returns-clause-is_true_where_both_are c =
    conjoin_joins c.args.self.now c.args.list.now c.args.a c.args.b c.add_gate.result c.add_gate.new.self c.add_gate.new.list (grind (arith, common_steps))
