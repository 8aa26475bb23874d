-- What is read off a check that has ended. Assumes nothing.
use Rattle.std.specs.Prelude.{ℕ, zero, suc, ◌+◌, ◌-◌, ◌*◌, Bool, cond, List, [], ◌∷◌, ◌++◌, map, length, take, replicate, codes, Ok, Err, Result, nat_le, slice_index}
use Rattle.std.specs.List.{range_with_len}
use Rattle.lists.specs.Counted.{counted, on_counted}
use Rattle.lists.specs.Stretch.{stretch}
use Rattle.signal.specs.Truth.{lit, bits_of}
use Rattle.sheet.specs.Faults.{fault}
use Rattle.sheet.specs.Render.{well_formed}
use Rattle.sheet.specs.Sheets.{Sheet, sheet_of}
use Rattle.sheet.specs.declared.fault.Cause.TheVariants.{RunTooShort}
use Rattle.sheet.specs.declared.fault.Fault.{Fault}
use Rattle.sheet.specs.declared.fault.Layer.TheVariants.{ReadOff}
use Rattle.machine.specs.Runs.{Frame}
use Rattle.formula.specs.Formulas.{width}
use Rattle.formula.specs.Framing.{in_frame}
use Rattle.checker.specs.declared.Lack.{Lack}
use Rattle.checker.specs.declared.Lack.TheVariants.{Formula, Question, LineValues}
use Rattle.checker.specs.declared.End.{End}
use Rattle.checker.specs.declared.End.TheVariants.{Safe, Run, Undecided, Spent, Short}
use Rattle.checker.specs.declared.Ended.{Ended}
use Rattle.checker.specs.declared.report.Verdict.{Verdict}
use Rattle.checker.specs.declared.report.Verdict.TheVariants.{Safe as is-safe, Run as is-run, Undecided as is-undecided, Spent as is-spent, Short as is-short}
use Rattle.checker.specs.declared.report.Report.{Report}

-- the number by which a list that was too short is named
abbrev pub lack_number : Lack → ℕ
lack_number Formula = 1
lack_number Question = 2
lack_number LineValues = 3

-- ---- a run as numbers
abbrev pub bit_number : Bool → ℕ
bit_number b = cond b 1 0

-- the latches, then the inputs, of each frame
abbrev pub frame_written : {s : Sheet} → Frame s → List ℕ
frame_written f = map bit_number f.state.bits ++ map bit_number f.inputs.bits

abbrev pub run_written : {s : Sheet} → Frame s → List (Frame s) → List ℕ
run_written f [] = frame_written f
run_written f (g ∷ gs) = frame_written f ++ run_written g gs

-- ---- the same from an assignment
-- the first of the frames from t to t + n in which `bad` is 1; where it is in none, the last
abbrev pub first_bad : Sheet → List ℕ → ℕ → ℕ → ℕ
first_bad s xs zero t = t
first_bad s xs (suc n) t = cond (lit (bits_of xs) (in_frame (width s) t s.bad)) t (first_bad s xs n (t + 1))

-- n numbers from place i on; a place that the list lacks counts as 0
abbrev pub numbers_from : List ℕ → ℕ → ℕ → List ℕ
numbers_from xs i n = map (λ j. slice_index xs j) (range_with_len i n)

abbrev pub frame_numbers : Sheet → List ℕ → ℕ → List ℕ
frame_numbers s xs t = numbers_from xs (t * width s + 1 + s.inputs) s.latches ++ numbers_from xs (t * width s + 1) s.inputs

abbrev pub run_numbers : Sheet → List ℕ → ℕ → List ℕ
run_numbers s xs m = stretch (frame_numbers s xs) 0 (m + 1)

abbrev pub run_size : Sheet → ℕ → ℕ
run_size s m = (m + 1) * (s.latches + s.inputs)

-- the steps of the run, and the run list; or there is no room for it
abbrev pub run_in : Sheet → List ℕ → ℕ → List ℕ → Result ℕ Fault × List ℕ
run_in s xs m run =
    cond (nat_le (run_size s m) (length run))
    (Ok m, run_numbers s xs m ++ replicate (length run - run_size s m) 0)
    (Err (fault ReadOff RunTooShort 0), run)

-- a list that lays out no sheet has no frames to write
abbrev pub run_off : List ℕ → List ℕ → ℕ → List ℕ → Result ℕ Fault × List ℕ
run_off l xs last run =
    cond (well_formed l) (run_in (sheet_of l) xs (first_bad (sheet_of l) xs last 0) run) (Ok last, replicate (length run) 0)

-- ---- how a verdict is written
abbrev pub verdict_word : Verdict → List ℕ
verdict_word is-safe = codes "safe"
verdict_word (is-run m) = codes "run"
verdict_word is-undecided = codes "undecided"
verdict_word is-spent = codes "spent"
verdict_word (is-short which) = codes "short"

-- ---- the call
abbrev pub reported : Verdict → Ended → Report
reported v e = record { verdict = v; bound = e.bound; turns = e.turns }

abbrev pub reported_run : Ended → Result ℕ Fault → Result Report Fault
reported_run e (Ok m) = Ok (reported (is-run m) e)
reported_run e (Err f) = Err f

-- the assignment that was shown is the first v places of the list that is lent
abbrev pub read_by : End → List ℕ → Ended → List ℕ → List ℕ → Result Report Fault × List ℕ
read_by Safe l e lent run = (Ok (reported is-safe e), run)
read_by (Run last v) l e lent run =
    let p = on_counted (run_off (counted l) (take v (counted lent)) last) run in
    (reported_run e p.0, p.1)
read_by Undecided l e lent run = (Ok (reported is-undecided e), run)
read_by Spent l e lent run = (Ok (reported is-spent e), run)
read_by (Short which) l e lent run = (Ok (reported (is-short which) e), run)

abbrev pub read_off : List ℕ → Ended → List ℕ → List ℕ → Result Report Fault × List ℕ
read_off l e lent run = read_by e.end l e lent run
