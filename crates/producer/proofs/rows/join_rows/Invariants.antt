use Rattle.std.proofs.Common.{◌≡◌, ℕ, ◌<◌, ◌≤◌, cond, eqb, get_or}
use Rattle.producer.proofs.rows.join_rows.Given as goal

abbrev pub invariant-loop-x : goal.invariant-loop-x
invariant-loop-x l =
    ((j : ℕ) → j < l.x → get_or l.marks j 0 ≡ cond (eqb (get_or l.others j 0) 0) (get_or l.initial.marks j 0) 1)
    × ((j : ℕ) → l.x ≤ j → get_or l.marks j 0 ≡ get_or l.initial.marks j 0)
