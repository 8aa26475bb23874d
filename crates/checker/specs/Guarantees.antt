-- What is promised of every series of calls on a check. Assumes nothing.
use Rattle.std.specs.Prelude.{◌≡◌, ℕ, ◌+◌, ◌-◌, ◌<◌, ◌≤◌, ◌⊎◌, List, [], ◌++◌, length, take, replicate, Ok, Err}
use Rattle.lists.specs.Counted.{counted, uncounted}
use Rattle.sheet.specs.Faults.{fault}
use Rattle.sheet.specs.declared.fault.Cause.TheVariants.{RunTooShort}
use Rattle.sheet.specs.declared.fault.Layer.TheVariants.{ReadOff}
use Rattle.machine.specs.Runs.{BadRun}
use Rattle.checker.specs.declared.End.TheVariants.{Safe as SafeEnd, Run as RunEnd, Undecided as UndecidedEnd, Spent as SpentEnd, Short as ShortEnd}
use Rattle.checker.specs.declared.Asked.{Asked}
use Rattle.checker.specs.declared.Weighed.{Weighed}
use Rattle.checker.specs.declared.Ended.{Ended}
use Rattle.checker.specs.declared.Lack.{Lack}
use Rattle.checker.specs.declared.report.Report.{Report}
use Rattle.checker.specs.declared.report.Verdict.{Verdict}
use Rattle.checker.specs.declared.report.Verdict.TheVariants.{Safe, Run, Undecided, Spent, Short}
use Rattle.checker.specs.Lists.{Lists, restored, said_part}
use Rattle.checker.specs.Opening.{opened}
use Rattle.checker.specs.Calls.{shown, weighed, taken, set_aside}
use Rattle.checker.specs.Points.{sheet_in}
use Rattle.checker.specs.Promises.{Begins, ShownTo, WeighedTo}
use Rattle.checker.specs.Reports.{run_size, run_written, read_off}
use Rattle.checker.specs.Series.{Stage, at_asked, at_weighed, at_ended, reached, Series}

-- a report with a verdict
abbrev pub reports : Verdict → Ended → ℕ → Report
reports v e n = record { verdict = v; bound = e.bound; turns = n }

-- a check has ended with a verdict: whatever lists are lent, read off says so and leaves the run list
abbrev pub Says : List ℕ → Ended → ℕ → Verdict → Type 0
Says l e n v = (lent run : List ℕ) → read_off l e lent run ≡ (Ok (reports v e n), run)

-- A check has ended with a run of m steps, bad, and no bad run is shorter. Where the assignment xs that was shown last is lent, and
-- the run list has room, read off names the steps and writes that run, with zeros behind; where there is no room it refuses.
pub record Runs (l : List ℕ) (e : Ended) (xs : List ℕ) (n : ℕ) : Type 0 where
  pub steps : ℕ
  pub bad_run : BadRun (sheet_in l) steps
  pub shortest : (m : ℕ) → BadRun (sheet_in l) m → steps ≤ m
  pub handed_out : (lent run : List ℕ) → take (length xs) (counted lent) ≡ xs → run_size (sheet_in l) steps ≤ length (counted run)
      → read_off l e lent run
      ≡ (Ok (reports (Run steps) e n), (run_written bad_run.first bad_run.later ++ replicate (length (counted run) - run_size (sheet_in l) steps) 0) ++ uncounted run)
  pub held_back : (lent run : List ℕ) → take (length xs) (counted lent) ≡ xs → length (counted run) < run_size (sheet_in l) steps
      → read_off l e lent run ≡ (Err (fault ReadOff RunTooShort 0), run)

-- ---- how a check ended
abbrev pub EndedSafe : Ended → Type 0
EndedSafe e = e.end ≡ SafeEnd

abbrev pub EndedRun : Ended → Type 0
EndedRun e = (last : ℕ) × (variables : ℕ) × (e.end ≡ RunEnd last variables)

abbrev pub EndedUndecided : Ended → Type 0
EndedUndecided e = e.end ≡ UndecidedEnd

abbrev pub EndedSpent : Ended → Type 0
EndedSpent e = e.end ≡ SpentEnd

abbrev pub EndedShort : Lack → Ended → Type 0
EndedShort which e = e.end ≡ ShortEnd which

-- where limits suffice
abbrev pub Decided : Ended → Type 0
Decided e = EndedSafe e ⊎ (EndedRun e ⊎ ((which : Lack) × EndedShort which e))

-- every check that has ended did so in one of five ways, and read off says which
pub record ReadsOff (l : List ℕ) (e : Ended) (n : ℕ) : Type 0 where
  pub ends : Decided e ⊎ (EndedUndecided e ⊎ EndedSpent e)
  pub says_safe : EndedSafe e → Says l e n Safe
  pub says_undecided : EndedUndecided e → Says l e n Undecided
  pub says_spent : EndedSpent e → Says l e n Spent
  pub says_short : (which : Lack) → EndedShort which e → Says l e n (Short which)

-- each call, and each of its outcomes, goes on from where a series led
pub record GoesOn (l : List ℕ) (K Q : ℕ) : Type 0 where
  pub opens : (f q : List ℕ) → (let p = opened l K Q f q in Begins l K Q p.0 p.1 p.2)
  pub fetches : (a : Asked) (x : Lists) (n : ℕ) → Series l K Q (at_asked a) x n → Series l K Q (at_asked a) x n
  pub shows : (a : Asked) (x : Lists) (n : ℕ) (answer : List ℕ) → Series l K Q (at_asked a) x n
      → (let p = shown l a answer x in ShownTo l K Q n answer p.0 p.1)
  pub weighs : (a : Asked) (x : Lists) (n : ℕ) (t w : List ℕ) → Series l K Q (at_asked a) x n
      → WeighedTo l K Q x n t (weighed a x.question t w).0
  pub takes : (d : Weighed) (x : Lists) (n : ℕ) (t : List ℕ) → Series l K Q (at_weighed d (said_part t)) x n
      → (let p = taken l d t x in Series l K Q (reached p.0 []) p.1 (n + 1))
  pub sets_aside : (d : Weighed) (said : List ℕ) (x : Lists) (n : ℕ) → Series l K Q (at_weighed d said) x n → Series l K Q (at_asked (set_aside d)) x n
  pub reads_off : (e : Ended) (xs : List ℕ) (x : Lists) (n : ℕ) (lent run-list : List ℕ) → Series l K Q (at_ended e xs) x n → Series l K Q (at_ended e xs) x n

-- the turns that a check says it has had
abbrev pub turns_of : Stage → ℕ
turns_of (at_asked a) = a.turns
turns_of (at_weighed d said) = d.asked.turns
turns_of (at_ended e xs) = e.turns

-- a question stands, or a refutation of it was weighed
abbrev pub Going : Stage → Type 0
Going (at_asked a) = Unit {0}
Going (at_weighed d said) = Unit {0}
Going (at_ended e xs) = ⊥

-- ---- how a check was opened
-- The lists that were lent, and the check and the lists that came of it. The check a goes back to that region and, from the formula
-- list f, to that formula list, whenever its bound is raised.
pub record GoesBack (l : List ℕ) (K Q : ℕ) (a : Asked) (f : List ℕ) : Type 0 where
  pub lent_formula : List ℕ
  pub lent_question : List ℕ
  pub asked : Asked
  pub formula : List ℕ
  pub question : List ℕ
  pub opens : opened l K Q lent_formula lent_question ≡ (Ok asked, formula, question)
  pub region : a.opening ≡ asked.region
  pub restores : restored a.opening.gates f ≡ formula
