-- How the clauses of a refutation lie in the working list. Assumes nothing.
use Rattle.std.specs.Prelude.{◌≡◌, ℕ, ◌+◌, ◌<◌, ◌≤◌, List, length, slice_index, slice_index_or}
use Rattle.question.specs.Questions.{span}

-- the n + 1 places of n clauses, the clauses behind them one after the other, and zeros
pub record Lays (n : ℕ) (w : List ℕ) : Type 0 where
  pub begins : slice_index_or w 0 0 ≡ n + 1
  pub next : (i : ℕ) → i < n → slice_index w (i + 1) ≡ slice_index w i + length (span w i)
  pub ends : slice_index_or w n 0 ≤ length w
  pub rest : (k : ℕ) → slice_index w n ≤ k → slice_index w k ≡ 0
