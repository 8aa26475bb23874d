use Rattle.std.proofs.Common.{◌≡◌, ℕ, List, Result, Decides, is_ok, ap, ◌∙◌}
use Rattle.lists.specs.Counted.{counted}
use Rattle.sheet.specs.declared.fault.Fault.{Fault}
use Rattle.answer.specs.Assignments.{judged, Satisfying}
use Rattle.answer.specs.Reasons.{AssignmentReasoned}
use Rattle.answer.proofs.Judging.{judged_means}
use Rattle.answer.proofs.Faulting.{judged_reasoned}
use Rattle.answer.proofs.assignments.satisfies.Goals as goal

-- what was judged is the part of each list that counts
module _ (q n q' n' : List ℕ) (r : Result (Unit {0}) Fault) (is : r ≡ judged q' n') (a : q' ≡ counted q) (b : n' ≡ counted n) where
  in_order : r ≡ judged (counted q) (counted n)
  in_order = is ∙ ap (λ v. judged v n') a ∙ ap (λ v. judged (counted q) v) b

  means : Decides (is_ok r) (Satisfying (counted q) (counted n))
  means = judged_means (counted q) (counted n) r in_order

  reasoned : AssignmentReasoned (counted q) (counted n) r
  reasoned = judged_reasoned (counted q) (counted n) r in_order

pub returns-clause-judges_in_order : goal.returns-clause-judges_in_order
returns-clause-judges_in_order c =
    in_order c.args.question.now c.args.assignment.now c.counted.result.now c.counted-2.result.now c.judge.result c.judge.ensures
    c.counted.ensures.value c.counted-2.ensures.value

pub returns-clause-accepts_exactly_satisfying_bits : goal.returns-clause-accepts_exactly_satisfying_bits
returns-clause-accepts_exactly_satisfying_bits c =
    means c.args.question.now c.args.assignment.now c.counted.result.now c.counted-2.result.now c.judge.result c.judge.ensures
    c.counted.ensures.value c.counted-2.ensures.value

pub returns-clause-gives_the_reason : goal.returns-clause-gives_the_reason
returns-clause-gives_the_reason c =
    reasoned c.args.question.now c.args.assignment.now c.counted.result.now c.counted-2.result.now c.judge.result c.judge.ensures
    c.counted.ensures.value c.counted-2.ensures.value
