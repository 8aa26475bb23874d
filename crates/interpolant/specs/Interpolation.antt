-- Interpolants of a refutation of a question in two parts: what they are, line by line. Assumes nothing.
use Rattle.std.specs.Prelude.{◌≡◌, ℕ, ◌+◌, ◌-◌, ◌/◌, ◌<◌, ◌≤◌, Bool, true, false, ◌&&◌, ◌||◌, ◌⊎◌, List, Decides}
use Rattle.signal.specs.Truth.{lit, holds}
use Rattle.question.specs.Questions.{clause_count, clause_of, Mem, IsQuestion}
use Rattle.answer.specs.Derivations.{Derives}
use Rattle.answer.specs.Steps.{step_count, step_of}

-- where a question is cut in two: how many clauses are of the first part, and tests for the variables that both parts share and
-- for those that are local to the first
pub record Cut : Type 0 where
  pub first : ℕ
  pub shared : ℕ → Bool
  pub local : ℕ → Bool

-- the variables are where the cut says: those of the first part are local or shared, none of the second is local, and what is
-- shared is not local
pub record Parted (q : List ℕ) (u : Cut) : Type 0 where
  pub first : (k x : ℕ) → k < clause_count q → k < u.first → Mem x (clause_of q k) → (u.local (x / 2) ≡ true) ⊎ (u.shared (x / 2) ≡ true)
  pub second : (k x : ℕ) → k < clause_count q → u.first ≤ k → Mem x (clause_of q k) → u.local (x / 2) ≡ false
  pub apart : (v : ℕ) → u.shared v ≡ true → u.local v ≡ false

-- an assignment makes a shared literal of a clause true
abbrev pub Shares : Cut → (ℕ → Bool) → List ℕ → Type 0
Shares u α xs = (x : ℕ) × Mem x xs × (u.shared (x / 2) ≡ true) × (lit α x ≡ true)

-- p k is the value of the partial interpolant of line k under the assignment α, for the first n lines
pub record Partial (q t : List ℕ) (u : Cut) (α : ℕ → Bool) (n : ℕ) (p : ℕ → Bool) : Type 0 where
  -- a clause of the first part: the OR of its shared literals
  pub first : (k : ℕ) → k < n → k < clause_count q → k < u.first → Decides (p k) (Shares u α (clause_of q k))
  -- a clause of the second part: true
  pub second : (k : ℕ) → k < n → k < clause_count q → u.first ≤ k → p k ≡ true
  -- a step on a local variable: the OR of its two lines
  pub disjoined : (i : ℕ) → clause_count q + i < n → u.local (step_of t i).pivot ≡ true
      → p (clause_count q + i) ≡ (p (step_of t i).first || p (step_of t i).second)
  -- a step on any other: the AND
  pub conjoined : (i : ℕ) → clause_count q + i < n → u.local (step_of t i).pivot ≡ false
      → p (clause_count q + i) ≡ (p (step_of t i).first && p (step_of t i).second)

-- how many lines a refutation has, those of the question among them
abbrev pub line_count : List ℕ → List ℕ → ℕ
line_count q t = clause_count q + step_count t

-- a derivation's lines have these values and no others
abbrev pub Determined : Type 0
Determined =
    (q t : List ℕ) (derived : ℕ → List ℕ) (u : Cut) → Derives q t derived → (α p p' : ℕ → Bool)
    → Partial q t u α (line_count q t) p → Partial q t u α (line_count q t) p' → (k : ℕ) → k < line_count q t → p k ≡ p' k

-- an assignment makes the first part true, or the second
abbrev pub First : List ℕ → Cut → (ℕ → Bool) → Type 0
First q u α = (k : ℕ) → k < clause_count q → k < u.first → holds α (clause_of q k) ≡ true

abbrev pub Second : List ℕ → Cut → (ℕ → Bool) → Type 0
Second q u α = (k : ℕ) → k < clause_count q → u.first ≤ k → holds α (clause_of q k) ≡ true

-- the partial interpolant of the last line is true where the first part is, and false where the second is
abbrev pub Separates : Type 0
Separates =
    (q t : List ℕ) (derived : ℕ → List ℕ) (u : Cut) → IsQuestion q → Parted q u → 1 ≤ step_count t → Derives q t derived
    → (α p : ℕ → Bool) → Partial q t u α (line_count q t) p
    → (First q u α → p (line_count q t - 1) ≡ true) × (Second q u α → p (line_count q t - 1) ≡ false)
