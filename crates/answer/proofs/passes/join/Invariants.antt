use Rattle.std.proofs.Common.{◌≤◌, ◌+◌, ℕ, List, Option, length}
use Rattle.answer.proofs.Passing.{Ends}
use Rattle.answer.proofs.passes.join.Given as goal

-- what comes of the literals that are left comes of all
abbrev pub invariant-loop-first : goal.invariant-loop-first
invariant-loop-first l = record {
  within : l.tally.count ≤ length l.free;
  ends : (v : List ℕ) (n : Option ℕ) → Ends l.tally l.free v l.first l.second n → Ends l.initial.tally l.initial.free v l.initial.first l.initial.second n;
}

abbrev pub decreases-loop-first : goal.decreases-loop-first
decreases-loop-first l = length l.first + length l.second
