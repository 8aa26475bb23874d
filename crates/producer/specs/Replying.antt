-- What a reply to a question means. Assumes nothing.
use Rattle.std.specs.Prelude.{◌≡◌, ℕ, ◌+◌, ◌-◌, ◌*◌, ◌^◌, ◌<◌, Bool, true, ◌⊎◌, List, length, take, Ok, Err, Result}
use Rattle.lists.specs.Counted.{counted}
use Rattle.sheet.specs.declared.fault.Cause.TheVariants.{WorkTooShort}
use Rattle.sheet.specs.declared.fault.Fault.{Fault}
use Rattle.question.specs.Questions.{variable_count, IsQuestion}
use Rattle.answer.specs.Assignments.{judged}
use Rattle.answer.specs.Runs.{checked}
use Rattle.answer.specs.Steps.{refused}
use Rattle.producer.specs.declared.interface.Reply.{Reply}
use Rattle.producer.specs.declared.interface.Reply.TheVariants.{Assignment, Refutation, TooLong}

-- what a producer in the state S may do: the question, the answer list and the working list before; the reply, both lists and
-- its state after
abbrev pub Replies : Type 0 → Type 1
Replies S = S → List ℕ → List ℕ → List ℕ → Reply → List ℕ → List ℕ → S → Type 0

-- nothing is wrong with a refutation, unless a step finds no room in the working list
abbrev pub Stands : Result (Unit {0}) Fault → Type 0
Stands (Ok _) = Unit {0}
Stands (Err f) = (i : ℕ) × (f ≡ refused WorkTooShort i)

-- the room that was wanting: v variables, an answer list of n places and a working list of m
abbrev pub Wanting : ℕ → ℕ → ℕ → Type 0
Wanting v n m = (24 < v) ⊎ ((n < 1 + 3 * (2 ^ v - 1)) ⊎ (m < (v + 4) * (v + 4)))

-- the reply is true of the answer list a, with a working list of m places
abbrev pub Upheld : List ℕ → List ℕ → ℕ → Reply → Type 0
Upheld q a m Assignment = judged q (take (variable_count q) a) ≡ Ok tt
Upheld q a m Refutation = (w : List ℕ) → Stands (checked q a w).0
Upheld q a m TooLong = Wanting (variable_count q) (length a) m

-- the word of a producer: its replies to questions are true, if it is honest
pub record KeepsWord (honest : Bool) (q a w : List ℕ) (r : Reply) : Type 0 where
  pub word : honest ≡ true → IsQuestion (counted q) → Upheld (counted q) (counted a) (length (counted w)) r
