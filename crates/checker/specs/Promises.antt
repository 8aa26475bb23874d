-- What each call of a check promises where a series of calls led to it. Assumes nothing.
use Rattle.std.specs.Prelude.{◌≡◌, ℕ, ◌+◌, ◌-◌, ◌<◌, List, [], Ok, Err, Result}
use Rattle.lists.specs.Counted.{counted}
use Rattle.sheet.specs.declared.fault.Fault.{Fault}
use Rattle.checker.specs.declared.Asked.{Asked}
use Rattle.checker.specs.declared.Weighed.{Weighed}
use Rattle.checker.specs.declared.Moved.{Moved}
use Rattle.checker.specs.declared.Moved.TheVariants.{Asked as goes_on, Ended as is-over}
use Rattle.checker.specs.declared.Refused.{Refused}
use Rattle.checker.specs.Lists.{Lists, lists, said_part}
use Rattle.checker.specs.Points.{Answers, StandsFor}
use Rattle.checker.specs.Series.{at_asked, at_weighed, reached, Series}

-- ---- every call goes on: where a series led to it, a series leads to what it comes to
-- `open`, whatever the line value list holds
abbrev pub Begins : List ℕ → ℕ → ℕ → Result Asked Fault → List ℕ → List ℕ → Type 0
Begins l K Q (Ok a) f q = (vs : List ℕ) → Series l K Q (at_asked a) (lists f vs q) 0
Begins l K Q (Err e) f q = Unit {0}

-- `show`, of the assignment xs
abbrev pub ShownTo : List ℕ → ℕ → ℕ → ℕ → List ℕ → Result Moved Refused → Lists → Type 0
ShownTo l K Q n xs (Ok m) x = Series l K Q (reached m (counted xs)) x (n + 1)
ShownTo l K Q n xs (Err r) x = Series l K Q (at_asked r.asked) x n

abbrev pub ShowGoesOn : List ℕ → Asked → List ℕ → Lists → Result Moved Refused → Lists → Type 0
ShowGoesOn l a xs x r x' = (K Q n : ℕ) → Series l K Q (at_asked a) x n → ShownTo l K Q n xs r x'

-- `weigh`, of the refutation t; the lists of the check are not touched
abbrev pub WeighedTo : List ℕ → ℕ → ℕ → Lists → ℕ → List ℕ → Result Weighed Refused → Type 0
WeighedTo l K Q x n t (Ok d) = Series l K Q (at_weighed d (said_part t)) x n
WeighedTo l K Q x n t (Err r) = Series l K Q (at_asked r.asked) x n

abbrev pub WeighGoesOn : Asked → List ℕ → List ℕ → Result Weighed Refused → Type 0
WeighGoesOn a q t r =
    (l : List ℕ) (K Q n : ℕ) (f vs : List ℕ) → Series l K Q (at_asked a) (lists f vs q) n → WeighedTo l K Q (lists f vs q) n t r

-- `take`, of the refutation t
abbrev pub TakeGoesOn : List ℕ → Weighed → List ℕ → Lists → Moved → Lists → Type 0
TakeGoesOn l d t x m x' = (K Q n : ℕ) → Series l K Q (at_weighed d (said_part t)) x n → Series l K Q (reached m []) x' (n + 1)

-- `set aside`
abbrev pub AsideGoesOn : Weighed → Asked → Type 0
AsideGoesOn d a = (l : List ℕ) (K Q n : ℕ) (said : List ℕ) (x : Lists) → Series l K Q (at_weighed d said) x n → Series l K Q (at_asked a) x n

-- ---- an answer that was shown or taken is an answer of the procedure
abbrev pub ShownAnswersAt : List ℕ → ℕ → ℕ → Asked → Lists → ℕ → List ℕ → Result Moved Refused → Lists → Type 0
ShownAnswersAt l K Q a x n xs (Ok m) x' = Answers l K Q (at_asked a) x n (reached m (counted xs)) x'
ShownAnswersAt l K Q a x n xs (Err r) x' = Unit {0}

abbrev pub ShownAnswers : List ℕ → Asked → List ℕ → Lists → Result Moved Refused → Lists → Type 0
ShownAnswers l a xs x r x' = (K Q n : ℕ) → Series l K Q (at_asked a) x n → ShownAnswersAt l K Q a x n xs r x'

abbrev pub TakenAnswers : List ℕ → Weighed → List ℕ → Lists → Moved → Lists → Type 0
TakenAnswers l d t x m x' =
    (K Q n : ℕ) → Series l K Q (at_weighed d (said_part t)) x n → Answers l K Q (at_weighed d (said_part t)) x n (reached m []) x'

-- ---- `fetch`: the question that stands asks what it should, and the series goes on
abbrev pub FetchedStands : Asked → List ℕ → List ℕ → Type 0
FetchedStands a q lent =
    (l : List ℕ) (K Q n : ℕ) (f vs : List ℕ) → Series l K Q (at_asked a) (lists f vs q) n
    → StandsFor l a f lent × Series l K Q (at_asked a) (lists f vs q) n

-- ---- the count of a check is the count of its series
abbrev pub CountsTurns : Asked → ℕ → Type 0
CountsTurns a turns = (l : List ℕ) (K Q n : ℕ) (x : Lists) → Series l K Q (at_asked a) x n → turns ≡ n

-- ---- a check that goes on may be given fewer answers than before
abbrev pub answers_left : Asked → ℕ
answers_left a = a.limits.turns - a.turns

abbrev pub MovedFewer : Asked → Moved → Type 0
MovedFewer a (goes_on b) = answers_left b < answers_left a
MovedFewer a (is-over e) = Unit {0}

abbrev pub ShownFewer : Asked → Result Moved Refused → Type 0
ShownFewer a (Ok m) = MovedFewer a m
ShownFewer a (Err r) = Unit {0}

-- a check that is weighed is the one that was asked
abbrev pub WeighedSame : Asked → Result Weighed Refused → Type 0
WeighedSame a (Ok d) = d.asked ≡ a
WeighedSame a (Err r) = r.asked ≡ a
