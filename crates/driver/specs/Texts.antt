-- What is said in text of a check that has ended, and of a refusal. Assumes nothing.
use Rattle.std.specs.Prelude.{◌≡◌, ℕ, zero, suc, ◌^◌, ◌<◌, List, [], ◌∷◌, ◌++◌, map, length, drop, codes, decimal, ◌≢◌}
use Rattle.lists.specs.Counted.{counted}
use Rattle.sheet.specs.Sheets.{Sheet, input_count, latch_count}
use Rattle.sheet.specs.Faults.{cause_number, fault_words}
use Rattle.sheet.specs.declared.fault.Fault.{Fault}
use Rattle.machine.specs.Runs.{Frame}
use Rattle.checker.specs.Points.{sheet_in}
use Rattle.checker.specs.Reports.{bit_number, run_written, numbers_from, verdict_word}
use Rattle.checker.specs.declared.Lack.TheVariants.{Formula}
use Rattle.checker.specs.declared.report.Verdict.{Verdict}
use Rattle.checker.specs.declared.report.Verdict.TheVariants.{Safe, Run, Undecided, Spent, Short}
use Rattle.checker.specs.declared.report.Report.{Report}

-- each number after one space, and the line's end
abbrev pub numbers_text : List ℕ → List ℕ
numbers_text [] = 10 ∷ []
numbers_text (n ∷ ns) = 32 ∷ (decimal n ++ numbers_text ns)

-- a line: its word and its numbers
abbrev pub line_text : List ℕ → List ℕ → List ℕ
line_text word ns = word ++ numbers_text ns

abbrev pub report_text : Report → List ℕ
report_text r = line_text (verdict_word r.verdict) (r.bound ∷ r.turns ∷ [])

-- a frame's latches and its inputs, which lie one behind the other at the beginning of a list; a place that it lacks counts as 0
abbrev pub frame_text : ℕ → ℕ → List ℕ → List ℕ
frame_text latches inputs xs = line_text (codes "s") (numbers_from xs 0 latches) ++ line_text (codes "i") (numbers_from (drop latches xs) 0 inputs)

-- the first m frames of a list
abbrev pub frames_text : ℕ → ℕ → ℕ → List ℕ → List ℕ
frames_text zero latches inputs xs = []
frames_text (suc m) latches inputs xs = frame_text latches inputs xs ++ frames_text m latches inputs (drop inputs (drop latches xs))

-- a run of m steps has m + 1 frames
abbrev pub run_text : Verdict → ℕ → ℕ → List ℕ → List ℕ
run_text Safe latches inputs xs = []
run_text (Run m) latches inputs xs = frames_text (suc m) latches inputs xs
run_text Undecided latches inputs xs = []
run_text Spent latches inputs xs = []
run_text (Short which) latches inputs xs = []

-- a report, and the run of a sheet list that was read off with it
abbrev pub ended_text : Report → List ℕ → List ℕ → List ℕ
ended_text r l run = report_text r ++ run_text r.verdict (latch_count (counted l)) (input_count (counted l)) (counted run)

-- the line of a refusal with any number, also one that no check has
abbrev pub refusal_line : ℕ → ℕ → List ℕ
refusal_line n p = line_text (codes "no") (n ∷ p ∷ [])

abbrev pub fault_text : Fault → List ℕ
fault_text f = fault_words f ++ (10 ∷ [])

-- ---- what a text tells
-- a verdict, as far as a text names it: not which list was too short
abbrev pub as_told : Verdict → Verdict
as_told Safe = Safe
as_told (Run m) = Run m
as_told Undecided = Undecided
as_told Spent = Spent
as_told (Short which) = Short Formula

-- whatever the lists: no other verdict, bound or count of turns has this text, and no refusal
pub record TellsReport (r : Report) (text : List ℕ) : Type 0 where
  pub verdict : (q : Report) (l run : List ℕ) → text ≡ ended_text q l run → as_told r.verdict ≡ as_told q.verdict
  pub counts : (q : Report) (l run : List ℕ) → q.bound < 2 ^ 32 → q.turns < 2 ^ 32 → text ≡ ended_text q l run → (r.bound ≡ q.bound) × (r.turns ≡ q.turns)
  pub no_refusal : (f : Fault) → text ≢ fault_text f
  pub no_number : (n p : ℕ) → text ≢ refusal_line n p

-- no other number or place has this text, and no verdict
pub record TellsFault (f : Fault) (text : List ℕ) : Type 0 where
  pub numbers : (g : Fault) → g.place < 2 ^ 32 → text ≡ fault_text g → (cause_number f.cause ≡ cause_number g.cause) × (f.place ≡ g.place)
  pub any_number : (n p : ℕ) → n < 2 ^ 32 → p < 2 ^ 32 → text ≡ refusal_line n p → (cause_number f.cause ≡ n) × (f.place ≡ p)
  pub no_verdict : (r : Report) (l run : List ℕ) → text ≢ ended_text r l run

-- ---- what is shown of a run
-- a frame: the bits of its state, and of its inputs
abbrev pub frame_lines : {s : Sheet} → Frame s → List ℕ
frame_lines f = line_text (codes "s") (map bit_number f.state.bits) ++ line_text (codes "i") (map bit_number f.inputs.bits)

abbrev pub run_lines : {s : Sheet} → Frame s → List (Frame s) → List ℕ
run_lines f [] = frame_lines f
run_lines f (g ∷ gs) = frame_lines f ++ run_lines g gs

-- where frames of the sheet were written into the run list, whatever lies behind them, each is shown, in order, and no more
abbrev pub ShowsRun : Report → List ℕ → List ℕ → List ℕ → Type 0
ShowsRun r l run text = (f : Frame (sheet_in l)) (fs : List (Frame (sheet_in l))) (rest : List ℕ) → r.verdict ≡ Run (length fs) → counted run ≡ run_written f fs ++ rest
    → text ≡ report_text r ++ run_lines f fs
