-- Ends that are reached, so that what is said of every series of calls is not said of none. Assumes nothing.
use Rattle.std.specs.Prelude.{◌≡◌, ℕ, List, [], ◌∷◌, length, replicate, Ok}
use Rattle.checker.specs.declared.Lack.TheVariants.{Formula, Question, LineValues}
use Rattle.checker.specs.declared.Ended.{Ended}
use Rattle.checker.specs.declared.report.Verdict.{Verdict}
use Rattle.checker.specs.declared.report.Verdict.TheVariants.{Safe, Run, Undecided, Spent, Short}
use Rattle.checker.specs.declared.report.Report.{Report}
use Rattle.checker.specs.Lists.{Lists}
use Rattle.checker.specs.Reports.{read_off}
use Rattle.checker.specs.Series.{at_ended, Series}

abbrev pub report : Verdict → ℕ → ℕ → Report
report v k n = record { verdict = v; bound = k; turns = n }

-- A series of calls on a check of the sheet list l, with the limits K and Q, comes to an end that is read off as the verdict v, the
-- bound k and n answers. What is written of a run is `run`.
abbrev pub EndsWith : List ℕ → ℕ → ℕ → Verdict → ℕ → ℕ → List ℕ → Type 0
EndsWith l K Q v k n run =
    (e : Ended) × (xs : List ℕ) × (x : Lists) × Series l K Q (at_ended e xs) x n
    × (read_off l e xs (replicate (length run) 0) ≡ (Ok (report v k n), run))

-- ---- sheet lists, each of a machine that is bad when its first latch is set
-- a latch that begins clear, and is cleared at each step
abbrev pub stays_clear : List ℕ
stays_clear = 0 ∷ 1 ∷ 0 ∷ 2 ∷ 0 ∷ 0 ∷ []

-- a latch that begins clear, and turns over at each step
abbrev pub turns_over : List ℕ
turns_over = 0 ∷ 1 ∷ 0 ∷ 2 ∷ 3 ∷ 0 ∷ []

-- two latches that begin clear, and both take the second one's bit
abbrev pub take_the_second : List ℕ
take_the_second = 0 ∷ 2 ∷ 0 ∷ 2 ∷ 4 ∷ 0 ∷ 4 ∷ 0 ∷ []

-- a latch that begins clear, and keeps its bit
abbrev pub keeps_its_bit : List ℕ
keeps_its_bit = 0 ∷ 1 ∷ 0 ∷ 2 ∷ 2 ∷ 0 ∷ []

-- a latch that begins clear, and takes the bit of an input
abbrev pub takes_the_input : List ℕ
takes_the_input = 1 ∷ 1 ∷ 0 ∷ 4 ∷ 2 ∷ 0 ∷ []

-- Checks end in every way that there is: safe; with a run, here from a clear latch to a set one; undecided, where the step limit
-- is too low, and safe where it is one higher; with their answers used up; and for want of room in each of the lists.
pub record Happens : Type 0 where
  pub ends_safe : EndsWith stays_clear 0 10 Safe 0 3 []
  pub ends_run : EndsWith turns_over 0 10 (Run 1) 0 2 (0 ∷ 1 ∷ [])
  pub ends_undecided : EndsWith take_the_second 0 10 Undecided 0 4 []
  pub ends_safe_deeper : EndsWith take_the_second 1 10 Safe 1 6 []
  pub ends_spent : EndsWith keeps_its_bit 0 1 Spent 0 1 []
  pub ends_short_of_question : EndsWith takes_the_input 0 10 (Short Question) 0 1 []
  pub ends_short_of_values : EndsWith stays_clear 0 10 (Short LineValues) 0 2 []
  pub ends_short_of_formula : EndsWith take_the_second 0 10 (Short Formula) 0 3 []
