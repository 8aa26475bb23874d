use Rattle.std.proofs.Common.{◌<◌, ◌≤◌, rules, sym, ◌∙◌}
use Rattle.std.proofs.lemmas.Iterator.{IsFirst-from_position, YieldsList-from_slice}
use Rattle.answer.proofs.Faulting.{first_is}
use Rattle.answer.proofs.assignments.first_non_bit.Goals as goal

pub returns-in_err-variable : goal.returns-in_err-variable
returns-in_err-variable c =
    c.from_residual.ensures
    ∙ sym c.in_err-variable.was
    ∙ first_is c.args.assignment.now _ (
    IsFirst-from_position _ _ _ (λ x. 1 < x) (λ x. x ≤ 1) c.position.ensures.ran (YieldsList-from_slice c.args.assignment.now cc) (λ x q k. search rules) (λ x q k. search rules))

pub returns : goal.returns
returns c =
    sym c.in_ok-variable.was
    ∙ first_is c.args.assignment.now _ (
    IsFirst-from_position _ _ _ (λ x. 1 < x) (λ x. x ≤ 1) c.position.ensures.ran (YieldsList-from_slice c.args.assignment.now cc) (λ x q k. search rules) (λ x q k. search rules))
