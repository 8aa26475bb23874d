-- Every series of calls of one check. Assumes nothing.
use Rattle.std.specs.Prelude.{◌≡◌, ℕ, ◌+◌, List, [], Ok, Err}
use Rattle.lists.specs.Counted.{counted}
use Rattle.sheet.specs.declared.fault.Fault.{Fault}
use Rattle.checker.specs.declared.Asked.{Asked}
use Rattle.checker.specs.declared.Weighed.{Weighed}
use Rattle.checker.specs.declared.Ended.{Ended}
use Rattle.checker.specs.declared.Moved.{Moved}
use Rattle.checker.specs.declared.Moved.TheVariants.{Asked as goes_on, Ended as is-over}
use Rattle.checker.specs.declared.Refused.{Refused}
use Rattle.checker.specs.declared.report.Report.{Report}
use Rattle.checker.specs.Lists.{Lists, lists, said_part}
use Rattle.checker.specs.Opening.{opened}
use Rattle.checker.specs.Calls.{fetched, shown, weighed, taken, set_aside}
use Rattle.checker.specs.Reports.{read_off}

-- What the caller has between two calls: a check whose question stands; a check that has weighed a refutation, and that
-- refutation; or a check that has ended, and the assignment that was shown last, if its end came of one.
pub data Stage : Type 0 where
  at_asked : Asked → Stage
  at_weighed : Weighed → List ℕ → Stage
  at_ended : Ended → List ℕ → Stage

abbrev pub reached : Moved → List ℕ → Stage
reached (goes_on a) answer = at_asked a
reached (is-over e) answer = at_ended e answer

-- A series of calls on a check of the sheet list l with the limits K and Q has come to a stage, lists, and so many answers shown
-- or taken. Each call is any that the stage offers, with any other lists, and comes to what its contract says.
pub data Series (l : List ℕ) (K Q : ℕ) : Stage → Lists → ℕ → Type 0 where
  opens : (f vs q : List ℕ) (a : Asked) (f' q' : List ℕ)
      → opened l K Q f q ≡ (Ok a, f', q') → Series l K Q (at_asked a) (lists f' vs q') 0
  fetches : (a : Asked) (x : Lists) (n : ℕ) (question : List ℕ)
      → Series l K Q (at_asked a) x n → fetched a x.question ≡ question → Series l K Q (at_asked a) x n
  show_refused : (a : Asked) (x : Lists) (n : ℕ) (answer : List ℕ) (r : Refused) (x' : Lists)
      → Series l K Q (at_asked a) x n → shown l a answer x ≡ (Err r, x') → Series l K Q (at_asked r.asked) x' n
  shows : (a : Asked) (x : Lists) (n : ℕ) (answer : List ℕ) (m : Moved) (x' : Lists)
      → Series l K Q (at_asked a) x n → shown l a answer x ≡ (Ok m, x') → Series l K Q (reached m (counted answer)) x' (n + 1)
  weigh_refused : (a : Asked) (x : Lists) (n : ℕ) (t w : List ℕ) (r : Refused) (w' : List ℕ)
      → Series l K Q (at_asked a) x n → weighed a x.question t w ≡ (Err r, w') → Series l K Q (at_asked r.asked) x n
  weighs : (a : Asked) (x : Lists) (n : ℕ) (t w : List ℕ) (d : Weighed) (w' : List ℕ)
      → Series l K Q (at_asked a) x n → weighed a x.question t w ≡ (Ok d, w') → Series l K Q (at_weighed d (said_part t)) x n
  takes : (d : Weighed) (x : Lists) (n : ℕ) (t : List ℕ) (m : Moved) (x' : Lists)
      → Series l K Q (at_weighed d (said_part t)) x n → taken l d t x ≡ (m, x') → Series l K Q (reached m []) x' (n + 1)
  sets_aside : (d : Weighed) (said : List ℕ) (x : Lists) (n : ℕ) (a : Asked)
      → Series l K Q (at_weighed d said) x n → set_aside d ≡ a → Series l K Q (at_asked a) x n
  read_off_refused : (e : Ended) (shown-last : List ℕ) (x : Lists) (n : ℕ) (lent run : List ℕ) (f : Fault) (run' : List ℕ)
      → Series l K Q (at_ended e shown-last) x n → read_off l e lent run ≡ (Err f, run') → Series l K Q (at_ended e shown-last) x n
  reads_off : (e : Ended) (shown-last : List ℕ) (x : Lists) (n : ℕ) (lent run : List ℕ) (r : Report) (run' : List ℕ)
      → Series l K Q (at_ended e shown-last) x n → read_off l e lent run ≡ (Ok r, run') → Series l K Q (at_ended e shown-last) x n
