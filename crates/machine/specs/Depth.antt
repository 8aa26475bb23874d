-- The reverse depth: the largest, over the states from which a bad state can be reached, of the fewest steps to one.
-- Assumes nothing.
use Rattle.std.specs.Prelude.{◌≡◌, ℕ, ◌^◌, ◌≤◌, ◌⊎◌}
use Rattle.sheet.specs.Sheets.{Sheet}
use Rattle.sheet.specs.Trip.{Iff}
use Rattle.machine.specs.Runs.{State, Starts, BadIn, last_frame, Run, BadRun, BadState, Reaches}

-- each state that can reach a bad one does so within r steps
abbrev pub Within : Sheet → ℕ → Type 0
Within s r = (c : State s) (m : ℕ) → Reaches s c m → (q : ℕ) × (q ≤ r) × Reaches s c q

-- and no smaller number will do
pub record ReverseDepth (s : Sheet) (r : ℕ) : Type 0 where
  pub within : Within s r
  pub least : (q : ℕ) → Within s q → r ≤ q

-- m is the fewest steps from a state to a bad one
pub record Fewest (s : Sheet) (c : State s) (m : ℕ) : Type 0 where
  pub reaches : Reaches s c m
  pub no_fewer : (q : ℕ) → Reaches s c q → m ≤ q

-- A sheet has exactly one, which is at most 2 ^ latches. It is the fewest steps from some state, or 0, and 0 where no bad
-- state can be reached.
pub record HasReverseDepth (s : Sheet) : Type 0 where
  pub depth : ℕ
  pub is_depth : ReverseDepth s depth
  pub only : (r : ℕ) → ReverseDepth s r → r ≡ depth
  pub bounded : depth ≤ 2 ^ s.latches
  pub attained : (depth ≡ 0) ⊎ ((c : State s) × Fewest s c depth)
  pub none : ((c : State s) (m : ℕ) → Reaches s c m → ⊥) → depth ≡ 0

-- bad states and bad runs, and how far a bad run has to go
pub record BadRuns (s : Sheet) : Type 0 where
  pub bad_states_reach_at_once : (c : State s) → Iff (BadState s c) (Reaches s c 0)
  pub bad_runs_end_bad : (m : ℕ) → Iff (BadRun s m) ((r : Run s m) × BadIn s (last_frame r.first r.later))
  pub bad_runs_start : (m : ℕ) → Iff (BadRun s m) ((c : State s) × Starts s c × Reaches s c m)
  pub within_the_depth : (r m : ℕ) → ReverseDepth s r → BadRun s m → (q : ℕ) × (q ≤ r) × BadRun s q
