-- What each call of a check answers, with the lists that it leaves. Assumes nothing.
use Rattle.std.specs.Prelude.{ℕ, List, Ok, Err, Result}
use Rattle.lists.specs.Counted.{counted, on_counted}
use Rattle.sheet.specs.declared.fault.Fault.{Fault}
use Rattle.answer.specs.Assignments.{judged}
use Rattle.answer.specs.Runs.{checked}
use Rattle.checker.specs.declared.Answer.TheVariants.{Assignment, Refutation}
use Rattle.checker.specs.declared.Asked.{Asked}
use Rattle.checker.specs.declared.Weighed.{Weighed}
use Rattle.checker.specs.declared.Moved.{Moved}
use Rattle.checker.specs.declared.Refused.{Refused}
use Rattle.checker.specs.Lists.{Lists, used_part, said_part}
use Rattle.checker.specs.Turns.{moved_by}

-- the check as it was, with what was wrong
abbrev pub handed_back : Asked → Fault → Refused
handed_back a e = record { asked = a; fault = e }

-- the question that stands
abbrev pub fetched : Asked → List ℕ → List ℕ
fetched a q = used_part a.size q

-- an assignment is shown: refused, or a turn
abbrev pub showing : Result (Unit {0}) Fault → List ℕ → Asked → List ℕ → Lists → Result Moved Refused × Lists
showing (Err e) l a answer x = (Err (handed_back a e), x)
showing (Ok _) l a answer x =
    let p = moved_by Assignment l a answer x in
    (Ok p.0, p.1)

abbrev pub shown : List ℕ → Asked → List ℕ → Lists → Result Moved Refused × Lists
shown l a answer x = showing (judged (counted (fetched a x.question)) (counted answer)) l a answer x

-- a refutation is weighed: refused, or accepted; and the working list
abbrev pub weighing : Result (Unit {0}) Fault → Asked → Result Weighed Refused
weighing (Err e) a = Err (handed_back a e)
weighing (Ok _) a = Ok (record { asked = a })

abbrev pub weighed : Asked → List ℕ → List ℕ → List ℕ → Result Weighed Refused × List ℕ
weighed a q t w =
    let p = on_counted (checked (counted (fetched a q)) (counted t)) w in
    (weighing p.0 a, p.1)

-- the refutation that was weighed is taken: a turn
abbrev pub taken : List ℕ → Weighed → List ℕ → Lists → Moved × Lists
taken l w t x = moved_by Refutation l w.asked (said_part t) x

-- or it is set aside, and the question stands as before
abbrev pub set_aside : Weighed → Asked
set_aside w = w.asked
