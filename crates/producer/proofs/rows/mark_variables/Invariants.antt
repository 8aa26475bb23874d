use Rattle.std.proofs.Common.{◌≡◌, ℕ, ◌<◌, cond, length, get_or, drop}
use Rattle.producer.specs.Procedure.{mentions}
use Rattle.producer.specs.Machine.{mark}
use Rattle.producer.proofs.rows.mark_variables.Given as goal

abbrev pub invariant-loop-x : goal.invariant-loop-x
invariant-loop-x l = (j : ℕ) → j < length l.marks → cond (mentions j (drop l.x-index l.literals)) 1 (get_or l.marks j 0) ≡ mark j l.literals
