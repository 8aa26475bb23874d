use Rattle.std.proofs.Common.{◌≡◌, true, false, rules, tests, subst}
use Rattle.std.proofs.lemmas.Iterator.{first_from_Range}
use Rattle.signal.specs.Truth.{bits_of}
use Rattle.answer.specs.Assignments.{lowest_false}
use Rattle.answer.proofs.Faulting.{truth, lowest_is}
use Rattle.answer.proofs.assignments.lowest_false_clause.Goals as goal

pub returns : goal.returns
returns c =
    let q = c.args.question.now in
    let xs = c.args.assignment.now in
    subst (λ n. c.find.result ≡ lowest_false q (bits_of xs) 0 n) c.clause_count.ensures (lowest_is q xs _ _ (
    first_from_Range _ _ _ c.find.result (λ k. truth q xs k ≡ false) (λ k. truth q xs k ≡ true) c.find.ensures.ran
    (λ x p k. search (rules, tests)) (λ x p k. search (rules, tests))))
