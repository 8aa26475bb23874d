-- Refutations in the words of resolution: by the literals of clauses, and not by how they are joined. Assumes nothing.
use Rattle.std.specs.Prelude.{◌≡◌, ℕ, zero, suc, ◌+◌, ◌-◌, ◌*◌, ◌/◌, ◌<◌, ◌≤◌, ◌⊎◌, List, [], length, ◌≢◌}
use Rattle.question.specs.Questions.{clause_count, Mem, Clause}
use Rattle.answer.specs.Lines.{line_of}
use Rattle.answer.specs.Steps.{step_count, step_of}
use Rattle.answer.specs.declared.steps.Step.{Step}

-- the pivot stands plain in xs and negated in ys
abbrev pub Opposes : List ℕ → List ℕ → ℕ → Type 0
Opposes xs ys p = Mem (2 * p) xs × Mem (2 * p + 1) ys

-- zs is the resolvent of xs and ys on the variable p: a clause, so that no variable is in it both plain and negated, of the
-- literals of either that are not of the variable p
pub record Resolves (xs ys : List ℕ) (p : ℕ) (zs : List ℕ) : Type 0 where
  pub opposes : Opposes xs ys p
  pub proper : Clause zs
  pub only : (z : ℕ) → Mem z zs → (Mem z xs ⊎ Mem z ys) × (z / 2 ≢ p)
  pub every : (z : ℕ) → Mem z xs ⊎ Mem z ys → (z / 2 ≢ p) → Mem z zs

-- both lines of the step i come before it
abbrev pub ComeBefore : List ℕ → ℕ → Step → Type 0
ComeBefore q i s = (s.first < clause_count q + i) × (s.second < clause_count q + i)

-- the step i makes the resolvent of two earlier lines
pub record Makes (q : List ℕ) (derived : ℕ → List ℕ) (i : ℕ) (s : Step) : Type 0 where
  pub earlier : ComeBefore q i s
  pub resolves : Resolves (line_of q derived s.first) (line_of q derived s.second) s.pivot (derived i)

-- the first n steps make the clauses `derived 0`, `derived 1`, ..
abbrev pub MakesAll : List ℕ → List ℕ → ℕ → (ℕ → List ℕ) → Type 0
MakesAll q t n derived = (i : ℕ) → i < n → Makes q derived i (step_of t i)

-- all steps do, and the last of the clauses is empty
pub record Derives (q t : List ℕ) (derived : ℕ → List ℕ) : Type 0 where
  pub steps : MakesAll q t (step_count t) derived
  pub empty : derived (step_count t - 1) ≡ []

-- how many literals the first n clauses have
abbrev pub total : (ℕ → List ℕ) → ℕ → ℕ
total derived zero = 0
total derived (suc n) = total derived n + length (derived n)

-- there are from 1 to 16777216 steps, and all their numbers are there
pub record Whole (t : List ℕ) : Type 0 where
  pub some : 1 ≤ step_count t
  pub few : step_count t ≤ 16777216
  pub there : 1 + 3 * step_count t ≤ length t

-- the places and the literals of the first n clauses have room in a working list of m places
abbrev pub Room : List ℕ → ℕ → ℕ → (ℕ → List ℕ) → Type 0
Room t m n derived = step_count t + 1 + total derived n ≤ m

-- a refutation within the limits, for a working list of m places
pub record Refutes (q t : List ℕ) (m : ℕ) : Type 0 where
  pub whole : Whole t
  pub derived : ℕ → List ℕ
  pub derives : Derives q t derived
  pub room : Room t m (step_count t) derived

-- another variable than p stands plain in one clause and negated in the other
pub record Clashes (xs ys : List ℕ) (p : ℕ) : Type 0 where
  pub variable : ℕ
  pub another : variable ≡ p → ⊥
  pub apart : Opposes xs ys variable ⊎ Opposes ys xs variable

-- the step i would join two earlier lines that oppose each other in its pivot, and in another variable too
pub record ClashesAt (q : List ℕ) (derived : ℕ → List ℕ) (i : ℕ) (s : Step) : Type 0 where
  pub earlier : ComeBefore q i s
  pub opposes : Opposes (line_of q derived s.first) (line_of q derived s.second) s.pivot
  pub clashes : Clashes (line_of q derived s.first) (line_of q derived s.second) s.pivot

-- the steps before i are right, with a working list of m places, and step i would cancel two variables
pub record CancelsTwo (q t : List ℕ) (m i : ℕ) : Type 0 where
  pub whole : Whole t
  pub among : i < step_count t
  pub derived : ℕ → List ℕ
  pub before : MakesAll q t i derived
  pub room : 0 < i → Room t m i derived
  pub here : ClashesAt q derived i (step_of t i)
