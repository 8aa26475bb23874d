-- A check that is driven by a producer. Assumes nothing.
use Rattle.std.specs.Prelude.{◌≡◌, ℕ, Bool, List, take, Ok, Err, Result}
use Rattle.lists.specs.Counted.{counted}
use Rattle.sheet.specs.Faults.{fault}
use Rattle.sheet.specs.declared.fault.Cause.TheVariants.{NoAnswer}
use Rattle.sheet.specs.declared.fault.Layer.TheVariants.{Run}
use Rattle.question.specs.Questions.{variable_count}
use Rattle.producer.specs.Replying.{Replies, KeepsWord}
use Rattle.producer.specs.declared.interface.Reply.{Reply}
use Rattle.producer.specs.declared.interface.Reply.TheVariants.{Assignment, Refutation, TooLong}
use Rattle.checker.specs.declared.Asked.{Asked}
use Rattle.checker.specs.declared.Weighed.{Weighed}
use Rattle.checker.specs.declared.Ended.{Ended}
use Rattle.checker.specs.declared.Moved.{Moved}
use Rattle.checker.specs.declared.Moved.TheVariants.{Asked as goes_on, Ended as is-over}
use Rattle.checker.specs.declared.Refused.{Refused}
use Rattle.checker.specs.Lists.{Lists}
use Rattle.checker.specs.Calls.{handed_back, fetched, shown, weighed, taken}

-- what a producer may do, and the word of its mark
abbrev pub Marked : {S : Type 0} → Replies S → Bool → Replies S
Marked R honest = λ s q b w r b' w' s'. R s q b w r b' w' s' × KeepsWord honest q b' w' r

-- what was answered is shown, or weighed and taken; the check's lists and the working list then
abbrev pub Turn : Type 0
Turn = Result Moved Refused × Lists × List ℕ

-- an assignment is the first places of the answer list, one for each variable
abbrev pub assignment_in : Asked → Lists → List ℕ → List ℕ
assignment_in a x b = take (variable_count (counted (fetched a x.question))) (counted b)

abbrev pub weighed_turn : List ℕ → List ℕ → Lists → Result Weighed Refused → List ℕ → Turn
weighed_turn l b x (Ok d) w = let p = taken l d b x in (Ok p.0, p.1, w)
weighed_turn l b x (Err r) w = (Err r, x, w)

-- the producer gave no answer
abbrev pub unanswered : Asked → Refused
unanswered a = handed_back a (fault Run NoAnswer a.turns)

abbrev pub answered : List ℕ → Asked → Reply → List ℕ → List ℕ → Lists → Turn
answered l a Assignment b w x = let p = shown l a (assignment_in a x b) x in (p.0, p.1, w)
answered l a Refutation b w x = let p = weighed a x.question b w in weighed_turn l b x p.0 p.1
answered l a TooLong b w x = (Err (unanswered a), x, w)

-- The producer is asked the question that stands, and what it answers comes to this: a turn, the check's lists, the answer list,
-- the working list, and the producer.
pub record Asking {S : Type 0} (R : Replies S) (l : List ℕ) (a : Asked) (x : Lists) (b w : List ℕ) (s : S) (t : Result Moved Refused) (x' : Lists) (b' w' : List ℕ) (s' : S) : Type 0 where
  pub reply : Reply
  pub work : List ℕ
  pub replies : R s (fetched a x.question) b w reply b' work s'
  pub comes : (t, x', w') ≡ answered l a reply b' work x

-- The check is driven on while a question stands, to its end or to the first refusal.
pub data Driven {S : Type 0} (R : Replies S) (l : List ℕ) : Asked → Lists → List ℕ → List ℕ → S → Result Ended Refused → Lists → List ℕ → List ℕ → S → Type 0 where
  stops : {a : Asked} {x x' : Lists} {b w b' w' : List ℕ} {s s' : S} {r : Refused}
      → Asking R l a x b w s (Err r) x' b' w' s' → Driven R l a x b w s (Err r) x' b' w' s'
  ends : {a : Asked} {x x' : Lists} {b w b' w' : List ℕ} {s s' : S} {e : Ended}
      → Asking R l a x b w s (Ok (is-over e)) x' b' w' s' → Driven R l a x b w s (Ok e) x' b' w' s'
  goes : {a a' : Asked} {x x' x'' : Lists} {b w b' w' b'' w'' : List ℕ} {s s' s'' : S} {o : Result Ended Refused}
      → Asking R l a x b w s (Ok (goes_on a')) x' b' w' s' → Driven R l a' x' b' w' s' o x'' b'' w'' s''
      → Driven R l a x b w s o x'' b'' w'' s''
