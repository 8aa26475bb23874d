-- The guarantee: what holds of every check of a sheet, and of the one that is run. Assumes nothing.
use Rattle.std.specs.Prelude.{◌≡◌, ℕ, ◌<◌, ◌≤◌, Bool, true, ◌⊎◌, List, length, take, Ok, Err, Result}
use Rattle.lists.specs.Counted.{counted}
use Rattle.sheet.specs.Faults.{fault}
use Rattle.sheet.specs.Sheets.{Legal, sheet_of}
use Rattle.sheet.specs.declared.fault.Cause.TheVariants.{WorkTooShort, NoAnswer}
use Rattle.sheet.specs.declared.fault.Fault.{Fault}
use Rattle.sheet.specs.declared.fault.Layer.TheVariants.{Run}
use Rattle.machine.specs.Depth.{ReverseDepth, HasReverseDepth}
use Rattle.machine.specs.Runs.{BadRun}
use Rattle.procedure.specs.Procedure.{most}
use Rattle.question.specs.Questions.{variable_count}
use Rattle.answer.specs.Steps.{refused}
use Rattle.producer.specs.Honesty.{Honest}
use Rattle.producer.specs.Replying.{Replies, Wanting}
use Rattle.producer.specs.declared.interface.Reply.TheVariants.{TooLong}
use Rattle.checker.specs.declared.Asked.{Asked}
use Rattle.checker.specs.declared.Ended.{Ended}
use Rattle.checker.specs.declared.Refused.{Refused}
use Rattle.checker.specs.Lists.{Lists, lists}
use Rattle.checker.specs.Opening.{opened}
use Rattle.checker.specs.Calls.{fetched}
use Rattle.checker.specs.Points.{sheet_in}
use Rattle.checker.specs.Series.{Stage, at_asked, at_ended, Series}
use Rattle.checker.specs.Guarantees.{Runs, EndedSafe, EndedRun, EndedUndecided, EndedSpent, Decided, ReadsOff, GoesOn, GoesBack, turns_of, Going}
use Rattle.checker.specs.Happens.{Happens}
use Rattle.driver.specs.Driving.{Marked, Driven}
use Rattle.driver.specs.declared.drive.Stopped.{Stopped}
use Rattle.driver.specs.declared.drive.Stopped.TheVariants.{Unopened, Refused as StoppedAt}

-- ---- what driving comes to
-- the check of a refusal stands on a series; a check that has ended does too, and the assignment that was shown last begins the
-- answer list
abbrev pub OnSeries : List ℕ → ℕ → ℕ → Result Ended Refused → Lists → List ℕ → Type 0
OnSeries l K Q (Ok e) x b = (xs : List ℕ) × (n : ℕ) × Series l K Q (at_ended e xs) x n × (take (length xs) (counted b) ≡ xs)
OnSeries l K Q (Err r) x b = (n : ℕ) × Series l K Q (at_asked r.asked) x n

-- the same of an honest producer: the check is decided or a list was too short; or the judge had no room for a refutation; or the
-- question that stands is beyond what the mark promises
pub record Unanswered (l : List ℕ) (K Q : ℕ) (r : Refused) (x : Lists) (b w : List ℕ) : Type 0 where
  pub turns : ℕ
  pub series : Series l K Q (at_asked r.asked) x turns
  pub why : ((i : ℕ) × (r.fault ≡ refused WorkTooShort i))
      ⊎ ((r.fault ≡ fault Run NoAnswer turns) × Wanting (variable_count (counted (fetched r.asked x.question))) (length (counted b)) (length (counted w)))

abbrev pub HonestEnd : List ℕ → ℕ → ℕ → Result Ended Refused → Lists → List ℕ → List ℕ → Type 0
HonestEnd l K Q (Ok e) x b w = Decided e
HonestEnd l K Q (Err r) x b w = Unanswered l K Q r x b w

-- the producer said that it has no answer
pub record SaysTooLong {S : Type 0} (R : Replies S) : Type 0 where
  pub state : S
  pub question : List ℕ
  pub answer : List ℕ
  pub work : List ℕ
  pub answer' : List ℕ
  pub work' : List ℕ
  pub state' : S
  pub says : R state question answer work TooLong answer' work' state'

-- ---- the run itself
abbrev pub stopped_at : Result Ended Refused → Result Ended Stopped
stopped_at (Ok e) = Ok e
stopped_at (Err r) = Err (StoppedAt r)

-- either the check was not opened, for the reason that opening has, and nothing was touched; or it was opened and driven by the
-- producer's replies, and what came of it is on a series
pub data RunIsOne {S : Type 0} (R : Replies S) (l : List ℕ) (K Q : ℕ) (x : Lists) (b w : List ℕ) (s : S) : Result Ended Stopped → Lists → List ℕ → List ℕ → S → Type 0 where
  unopened : (e : Fault) → opened l K Q x.formula x.question ≡ (Err e, x.formula, x.question)
      → RunIsOne R l K Q x b w s (Err (Unopened e)) x b w s
  driven : (a : Asked) (f q : List ℕ) (o : Result Ended Refused) (x' : Lists) (b' w' : List ℕ) (s' : S)
      → opened l K Q x.formula x.question ≡ (Ok a, f, q) → Driven R l a (lists f x.values q) b w s o x' b' w' s'
      → OnSeries l K Q o x' b' → RunIsOne R l K Q x b w s (stopped_at o) x' b' w' s'

-- a drive from a check that stands on a series
pub record DriveIsOne {S : Type 0} (R : Replies S) (l : List ℕ) (K Q : ℕ) (a : Asked) (x : Lists) (b w : List ℕ) (s : S) (o : Result Ended Refused) (x' : Lists) (b' w' : List ℕ) (s' : S) : Type 0 where
  pub driven : Driven R l a x b w s o x' b' w' s'
  pub on_series : OnSeries l K Q o x' b'

-- ---- the guarantee, of every check of the sheet list l with the step limit K and the turn limit Q, for a producer with the
-- replies R and its mark; `This` is what the call at hand came to
pub record Guarantee {S : Type 0} (R : Replies S) (honest : Bool) (l : List ℕ) (K Q : ℕ) (This : Type 0) : Type 0 where
  -- every check is of a list as reading writes it, and all that follows speaks of the sheet that this list lays out
  pub the_sheet_is_the_one_read : (g : Stage) (x : Lists) (n : ℕ) → Series l K Q g x n → Legal (counted l) × (sheet_in l ≡ sheet_of (counted l))
  -- each call on a check, and each of its outcomes, leads from a series to a series
  pub every_call_goes_on : GoesOn l K Q
  -- ended SAFE: no run of the sheet, of any length, is bad
  pub safe_means_no_bad_run : (e : Ended) (xs : List ℕ) (x : Lists) (n : ℕ) → Series l K Q (at_ended e xs) x n → EndedSafe e
      → (m : ℕ) → BadRun (sheet_in l) m → ⊥
  -- ended RUN: there is a bad run, none is shorter, and read off hands out that run
  pub run_is_a_shortest_bad_run : (e : Ended) (xs : List ℕ) (x : Lists) (n : ℕ) → Series l K Q (at_ended e xs) x n → EndedRun e → Runs l e xs n
  -- read off says how the check ended, and it ended in one of five ways
  pub read_off_says_the_end : (e : Ended) (xs : List ℕ) (x : Lists) (n : ℕ) → Series l K Q (at_ended e xs) x n → ReadsOff l e n
  -- a raised bound begins with the region and the formula list that opening wrote
  pub a_raised_bound_begins_as_opened : (a : Asked) (x : Lists) (n : ℕ) → Series l K Q (at_asked a) x n → GoesBack l K Q a x.formula
  -- the turns of a check are the answers shown or taken in its series
  pub the_count_is_true : (g : Stage) (x : Lists) (n : ℕ) → Series l K Q g x n → turns_of g ≡ n
  -- they are at most 1 + (r + 1) * 2 ^ (latches + 1), for r the reverse depth, and fewer before the end
  pub turns_are_bounded : (r : ℕ) → ReverseDepth (sheet_in l) r → (g : Stage) (x : Lists) (n : ℕ) → Series l K Q g x n
      → (n ≤ most (sheet_in l).latches r) × (Going g → n < most (sheet_in l).latches r)
  -- a step limit of the reverse depth is never the end, nor is a turn limit of that number
  pub steps_suffice : (r : ℕ) → ReverseDepth (sheet_in l) r → r ≤ K
      → (e : Ended) (xs : List ℕ) (x : Lists) (n : ℕ) → Series l K Q (at_ended e xs) x n → EndedUndecided e → ⊥
  pub turns_suffice : (r : ℕ) → ReverseDepth (sheet_in l) r → most (sheet_in l).latches r ≤ Q
      → (e : Ended) (xs : List ℕ) (x : Lists) (n : ℕ) → Series l K Q (at_ended e xs) x n → EndedSpent e → ⊥
  -- every sheet has exactly one reverse depth
  pub a_depth_exists : HasReverseDepth (sheet_in l)
  -- what the call at hand came to
  pub this_run_is_one : This
  -- a producer that is honest, with limits that suffice, decides every check from wherever its question stands, unless a list is too
  -- short, the judge has no room, or the question is beyond the mark
  pub honest_producers_decide : honest ≡ true → (r : ℕ) → ReverseDepth (sheet_in l) r → r ≤ K → most (sheet_in l).latches r ≤ Q
      → (a : Asked) (x : Lists) (n : ℕ) → Series l K Q (at_asked a) x n
      → (b w : List ℕ) (s : S) (o : Result Ended Refused) (x' : Lists) (b' w' : List ℕ) (s' : S)
      → Driven (Marked R honest) l a x b w s o x' b' w' s' → HonestEnd l K Q o x' b' w'
  -- any producer is said not to have answered only if it said so
  pub unanswered_only_if_too_long : (a : Asked) (x : Lists) (n : ℕ) → Series l K Q (at_asked a) x n
      → (b w : List ℕ) (s : S) (r : Refused) (x' : Lists) (b' w' : List ℕ) (s' : S)
      → Driven (Marked R honest) l a x b w s (Err r) x' b' w' s' → r.fault.layer ≡ Run → SaysTooLong R
  -- every end is reached by some check, and there is an honest producer: splitting
  pub it_happens : Happens × Honest
