-- What a list says of the clauses that it lays out. Assumes nothing.
use Rattle.std.specs.Prelude.{◌≡◌, ℕ, ◌/◌, ◌<◌, ◌≤◌, Bool, true, false, ◌||◌, List, [], length, slice_index_or}
use Rattle.sheet.specs.Sheets.{Sheet}
use Rattle.sheet.specs.Trip.{Iff}
use Rattle.question.specs.Questions.{variable_count, clause_count, first_count, clause_of, Mem, Satisfies}
use Rattle.question.specs.Meaning.{AllHold, is_local, is_shared}

-- the list q has v variables and the clauses cs, a of them in the first part; an assignment satisfies it exactly if it makes them true
pub record Lays (q : List ℕ) (v a : ℕ) (cs : List (List ℕ)) : Type 0 where
  pub variables : variable_count q ≡ v
  pub count : clause_count q ≡ length cs
  pub first : first_count q ≡ a
  pub clauses : (k : ℕ) → k < length cs → clause_of q k ≡ slice_index_or cs k []
  pub satisfied : (α : ℕ → Bool) → Iff (Satisfies α q) (AllHold α cs)

-- every assignment that satisfies q is as P says
abbrev pub Tells : ((ℕ → Bool) → Type 0) → List ℕ → Type 0
Tells P q = (α : ℕ → Bool) → Satisfies α q → P α

-- which variables the parts of the path question at bound k have: the first one those of frame 0, of formula gates and of the latches
-- of frame 1, the second one those of the frames 1 to k + 1
pub record Parted (s : Sheet) (k : ℕ) (q : List ℕ) : Type 0 where
  pub first : (i x : ℕ) → i < first_count q → Mem x (clause_of q i) → (is_local s k (x / 2) || is_shared s (x / 2)) ≡ true
  pub second : (i x : ℕ) → first_count q ≤ i → i < clause_count q → Mem x (clause_of q i) → is_local s k (x / 2) ≡ false
