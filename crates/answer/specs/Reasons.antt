-- Why an answer is refused: what each cause says of the assignment or of the refutation, and at which place. Assumes nothing.
use Rattle.std.specs.Prelude.{◌≡◌, ℕ, ◌+◌, ◌-◌, ◌<◌, true, false, ◌⊎◌, List, [], length, Ok, Err, Result, ◌≢◌, slice_index}
use Rattle.sheet.specs.declared.fault.Cause.{Cause}
use Rattle.sheet.specs.declared.fault.Cause.TheVariants.{WrongCount, NotABit, FalseClause, NotWhole, LaterLine, PivotNotOpposed, Clash, WorkTooShort, NotEmpty}
use Rattle.sheet.specs.declared.fault.Fault.{Fault}
use Rattle.sheet.specs.declared.fault.Layer.{Layer}
use Rattle.sheet.specs.declared.fault.Layer.TheVariants.{Assignment, Refutation}
use Rattle.signal.specs.Truth.{holds, bits_of}
use Rattle.question.specs.Questions.{variable_count, clause_count, clause_of}
use Rattle.answer.specs.Derivations.{Opposes, ComeBefore, Makes, MakesAll, Whole, Room, ClashesAt}
use Rattle.answer.specs.Lines.{line_of}
use Rattle.answer.specs.Steps.{step_count, step_of}

-- an accepted answer has no reason for a refusal; a refusal has the reason for its cause at its place, and there is no reason for
-- another cause, or at another place
abbrev pub Reasoned : Layer → (Cause → ℕ → Type 0) → Result (Unit {0}) Fault → Type 0
Reasoned y Reason (Ok _) = (c : Cause) (i : ℕ) → Reason c i → ⊥
Reasoned y Reason (Err f) =
    (f.layer ≡ y) × Reason f.cause f.place × ((c : Cause) (i : ℕ) → Reason c i → (c ≡ f.cause) × (i ≡ f.place))

-- ---- assignments
abbrev pub Bit : ℕ → Type 0
Bit x = (x ≡ 0) ⊎ (x ≡ 1)

-- there is a number for each variable, and those of the first i are bits
pub record BitsBefore (q numbers : List ℕ) (i : ℕ) : Type 0 where
  pub whole : length numbers ≡ variable_count q
  pub bits : (j : ℕ) → j < i → Bit (slice_index numbers j)

-- why an assignment is refused with cause c at place i: there are not as many numbers as variables; that of the variable i is
-- the first that is no bit; the clause i is the lowest that is false
pub data NotSatisfying (q numbers : List ℕ) (c : Cause) (i : ℕ) : Type 0 where
  not_as_many : c ≡ WrongCount → i ≡ 0 → (length numbers ≢ variable_count q) → NotSatisfying q numbers c i
  no_bit : c ≡ NotABit → i < variable_count q → BitsBefore q numbers i → (Bit (slice_index numbers i) → ⊥) → NotSatisfying q numbers c i
  false_clause : c ≡ FalseClause → i < clause_count q → BitsBefore q numbers (variable_count q)
      → ((k : ℕ) → k < i → holds (bits_of numbers) (clause_of q k) ≡ true) → holds (bits_of numbers) (clause_of q i) ≡ false
      → NotSatisfying q numbers c i

abbrev pub AssignmentReasoned : List ℕ → List ℕ → Result (Unit {0}) Fault → Type 0
AssignmentReasoned q numbers r = Reasoned Assignment (NotSatisfying q numbers) r

-- ---- refutations
-- the first i steps are right, for a working list of m places: each makes the resolvent of two earlier lines, and there is room
-- for its clause
pub record RightBefore (q t : List ℕ) (m i : ℕ) (derived : ℕ → List ℕ) : Type 0 where
  pub whole : Whole t
  pub makes : MakesAll q t i derived
  pub room : (j : ℕ) → j < i → Room t m (j + 1) derived

-- what cause c says of the step i: one of its lines is not earlier; the pivot is not plain in the first and negated in the second;
-- another variable is plain in one and negated in the other; there is no room for the resolvent
pub data WrongStep (q t : List ℕ) (m : ℕ) (derived : ℕ → List ℕ) (c : Cause) (i : ℕ) : Type 0 where
  not_earlier : c ≡ LaterLine → (ComeBefore q i (step_of t i) → ⊥) → WrongStep q t m derived c i
  no_pivot : c ≡ PivotNotOpposed → ComeBefore q i (step_of t i)
      → (Opposes (line_of q derived (step_of t i).first) (line_of q derived (step_of t i).second) (step_of t i).pivot → ⊥)
      → WrongStep q t m derived c i
  clash : c ≡ Clash → ClashesAt q derived i (step_of t i) → WrongStep q t m derived c i
  no_room : c ≡ WorkTooShort → Makes q derived i (step_of t i) → (Room t m (i + 1) derived → ⊥) → WrongStep q t m derived c i

-- why a refutation is refused with cause c at place i: it has no steps, too many, or not all of them; the step i is the first that
-- is wrong; all steps are right, and the clause of the last is not empty
pub data NotRefuting (q t : List ℕ) (m : ℕ) (c : Cause) (i : ℕ) : Type 0 where
  not_whole : c ≡ NotWhole → i ≡ 0 → (Whole t → ⊥) → NotRefuting q t m c i
  wrong_step : (derived : ℕ → List ℕ) → RightBefore q t m i derived → i < step_count t → WrongStep q t m derived c i → NotRefuting q t m c i
  not_empty : c ≡ NotEmpty → i ≡ step_count t - 1 → (derived : ℕ → List ℕ) → RightBefore q t m (step_count t) derived → (derived i ≢ [])
      → NotRefuting q t m c i

abbrev pub RefutationReasoned : List ℕ → List ℕ → ℕ → Result (Unit {0}) Fault → Type 0
RefutationReasoned q t m r = Reasoned Refutation (NotRefuting q t m) r
