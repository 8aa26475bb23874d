use Rattle.std.proofs.Common.{List, ap, ◌∙◌, ℕ}
use Rattle.lists.specs.Counted.{counted}
use Rattle.signal.specs.Truth.{bits_of, holds}
use Rattle.answer.proofs.Faulting.{truth_is}
use Rattle.answer.proofs.assignments.is_true.Goals as goal

pub returns : goal.returns
returns c =
    let q = c.args.question.now in
    let xs = c.args.assignment.now in
    c.satisfies_clause.ensures.is_the_truth
    ∙ ap (λ (ls : List ℕ). holds (bits_of (counted xs)) (counted ls)) c.clause.ensures.is_the_clause
    ∙ truth_is q xs c.args.k c.requires.few c.requires.short
