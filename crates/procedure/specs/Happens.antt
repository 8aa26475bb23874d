-- Ends that are reached, so that the theorem is not said of nothing. Assumes nothing.
use Rattle.std.specs.Prelude.{ℕ, zero, suc, ◌+◌, Bool, true, false, ◌&&◌, [], ◌∷◌, refl}
use Rattle.sheet.specs.Sheets.{Sheet, Start, set, unset, sheet_of}
use Rattle.signal.specs.Sets.{exactly}
use Rattle.machine.specs.Bits.{Bits, bit}
use Rattle.machine.specs.Depth.{ReverseDepth}
use Rattle.procedure.specs.Procedure.{Region, StartRegion, Series, ended, safe, run, undecided, spent}

-- whether a bit is one that a latch starts with
abbrev pub starts_with : Start → Bool → Bool
starts_with (set b) x = exactly b x
starts_with unset x = true

-- whether the first n latches have bits that they start with
abbrev pub starting : (s : Sheet) → ℕ → Region s
starting s zero c = true
starting s (suc n) c = starting s n c && starts_with (s.start n) (bit c n)

-- the start states
abbrev pub starters : (s : Sheet) → Region s
starters s = starting s s.latches

-- a latch that stays clear, and no state is bad
abbrev pub quiet : Sheet
quiet = sheet_of (0 ∷ 1 ∷ 0 ∷ 0 ∷ 0 ∷ 0 ∷ [])

-- a latch that begins clear and turns over at each step, and is bad when it is set
abbrev pub flips : Sheet
flips = sheet_of (0 ∷ 1 ∷ 0 ∷ 2 ∷ 3 ∷ 0 ∷ [])

-- Two latches that begin clear and both take the second one's bit, bad when the first is set. The states with the first clear
-- are more than can be reached.
abbrev pub leaps : Sheet
leaps = sheet_of (0 ∷ 2 ∷ 0 ∷ 2 ∷ 4 ∷ 0 ∷ 4 ∷ 0 ∷ [])

abbrev pub one_bit : Bool → Bits 1
one_bit b = record { bits = b ∷ []; sized = refl }

-- Each machine has its start region. Checks end safe, and with a run of one step; one ends undecided where the step limit is less
-- than the reverse depth, and safe where it is not; and one has its turns spent.
pub record Happens : Type 0 where
  pub has_start_region : (s : Sheet) → StartRegion s (starters s)
  pub ends_safe : Series quiet (starters quiet) (λ k. k + 1) 0 10 (ended safe 3)
  pub ends_run : Series flips (starters flips) (λ k. k + 1) 0 10 (ended (run (one_bit false) 1) 2)
  pub depth_one : ReverseDepth leaps 1
  pub ends_undecided : Series leaps (starters leaps) (λ k. k + 1) 0 10 (ended undecided 4)
  pub ends_safe_deeper : Series leaps (starters leaps) (λ k. k + 1) 1 10 (ended safe 6)
  pub ends_spent : Series leaps (starters leaps) (λ k. k + 1) 0 2 (ended spent 2)
