use Rattle.std.proofs.Common.{◌≡◌, ◌+◌, length}
use Rattle.answer.specs.Joint.{joint, repeats, clashing}
use Rattle.answer.proofs.obstacles.clash.Given as goal

abbrev pub invariant-loop-literal : goal.invariant-loop-literal
invariant-loop-literal l = repeats l.last (joint l.first l.second l.pivot) ≡ clashing l.initial.first l.initial.second l.pivot

abbrev pub decreases-loop-literal : goal.decreases-loop-literal
decreases-loop-literal l = length l.first + length l.second
