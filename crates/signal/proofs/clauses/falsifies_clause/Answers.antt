use Rattle.std.proofs.Common.{◌≡◌, true, not, ap, ◌∙◌}
use Rattle.std.proofs.lemmas.Bool.Decides.{Decides-at}
use Rattle.lists.specs.Counted.{counted}
use Rattle.signal.specs.Circuit.{clause_of}
use Rattle.signal.specs.Kinds.{tri_ops, may_tri}
use Rattle.signal.specs.declared.kinds.Tri.{Tri}
use Rattle.signal.proofs.Usual.{equals_zero, each_zero, each_false, no_completion}
use Rattle.signal.proofs.clauses.falsifies_clause.Goals as goal

pub returns : goal.returns
returns c =
    let numbers = counted c.args.numbers.now in
    let literals = counted c.args.literals.now in
    let r = c.eq.result in
    let zero = not (may_tri (clause_of tri_ops numbers literals) 0 true) in
    let is : r ≡ zero =
    equals_zero r c.clause_value.result c.eq.ensures
    ∙ ap (λ (x : Tri). not (may_tri x 0 true)) c.clause_value.ensures.is_the_clause in
    record {
      is_only_zero = is;
      when_each_literal_is_zero = Decides-at r zero is (each_zero numbers literals);
      when_each_literal_is_false = Decides-at r zero is (each_false numbers literals);
      when_no_completion_satisfies = Decides-at r zero is (no_completion numbers literals);
    }
