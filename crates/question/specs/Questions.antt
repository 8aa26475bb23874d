-- A question: clauses in a list. How many variables, clauses, and clauses of the first part there are; the places where clauses
-- start and where the last one ends; the literals. Assumes nothing.
use Rattle.std.specs.Prelude.{◌≡◌, ℕ, ◌+◌, ◌-◌, ◌/◌, ◌<◌, ◌≤◌, Bool, true, ◌⊎◌, List, [], ◌∷◌, length, take, drop, slice_index, slice_index_or}
use Rattle.signal.specs.Truth.{holds}

abbrev pub variable_count : List ℕ → ℕ
variable_count q = slice_index q 0

abbrev pub clause_count : List ℕ → ℕ
clause_count q = slice_index q 1

abbrev pub first_count : List ℕ → ℕ
first_count q = slice_index q 2

-- the part of a list from the place that stands at i to the one that stands after it
abbrev pub span : List ℕ → ℕ → List ℕ
span xs i = take (slice_index xs (i + 1) - slice_index xs i) (drop (slice_index xs i) xs)

-- clause k of a question
abbrev pub clause_of : List ℕ → ℕ → List ℕ
clause_of q k = span q (3 + k)

-- a literal of a clause
abbrev pub Mem : ℕ → List ℕ → Type 0
Mem x [] = ⊥
Mem x (y ∷ ys) = (x ≡ y) ⊎ Mem x ys

-- literals ascend, and no variable comes twice: each literal is of a greater variable than those before it
abbrev pub Clause : List ℕ → Type 0
Clause [] = Unit {0}
Clause (x ∷ xs) = ((y : ℕ) → Mem y xs → x / 2 < y / 2) × Clause xs

-- what every question is
pub record IsQuestion (q : List ℕ) : Type 0 where
  pub parts : first_count q ≤ clause_count q
  pub begins : slice_index_or q 3 0 ≡ 4 + clause_count q
  pub none_empty : (k : ℕ) → k < clause_count q → slice_index q (3 + k) < slice_index q (4 + k)
  pub ends : slice_index_or q (3 + clause_count q) 0 ≡ length q
  pub clauses : (k : ℕ) → k < clause_count q → Clause (clause_of q k)
  pub variables : (k x : ℕ) → k < clause_count q → Mem x (clause_of q k) → x / 2 < variable_count q

-- an assignment of bits makes every clause true
abbrev pub Satisfies : (ℕ → Bool) → List ℕ → Type 0
Satisfies α q = (k : ℕ) → k < clause_count q → holds α (clause_of q k) ≡ true

abbrev pub Satisfiable : List ℕ → Type 0
Satisfiable q = (α : ℕ → Bool) × Satisfies α q
