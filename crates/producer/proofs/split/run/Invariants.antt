use Rattle.std.proofs.Common.{◌≤◌, [], length}
use Rattle.producer.specs.Procedure.{split}
use Rattle.producer.specs.Machine.{Stood, turns}
use Rattle.producer.proofs.split.run.Given as goal

abbrev pub invariant-loop-next : goal.invariant-loop-next
invariant-loop-next l =
    let n = length l.initial.answer in
    Stood l.question n l.v l.work l.answer l.at (split l.question n l.v [] []) × (l.at.depth ≤ l.v) × (l.at.steps ≤ 16777216)

abbrev pub decreases-loop-next : goal.decreases-loop-next
decreases-loop-next l = turns l.v l.work l.at
