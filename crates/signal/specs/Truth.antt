-- Literals and clauses under an assignment, which gives each variable a bit. Assumes nothing.
use Rattle.std.specs.Prelude.{◌≡◌, ℕ, ◌/◌, ◌%◌, ◌<◌, Bool, false, cond, not, ◌||◌, List, [], ◌∷◌, length, ◌==◌, slice_index}
use Rattle.std.specs.List.{HoldsAt}

-- the literal x is of the variable x / 2, and negated if x is odd
abbrev pub lit : (ℕ → Bool) → ℕ → Bool
lit α x = cond (x % 2 == 0) (α (x / 2)) (not (α (x / 2)))

-- some literal of the clause is true
abbrev pub holds : (ℕ → Bool) → List ℕ → Bool
holds α [] = false
holds α (x ∷ xs) = lit α x || holds α xs

-- the variable has the bit that makes the literal true: 1 for an even literal, 0 for an odd one
abbrev pub True : (ℕ → Bool) → ℕ → Type 0
True α x = α (x / 2) ≡ (x % 2 == 0)

-- a true literal stands somewhere in the clause
abbrev pub Satisfied : (ℕ → Bool) → List ℕ → Type 0
Satisfied α xs = (k : ℕ) × (k < length xs) × HoldsAt (True α) xs k

-- the assignment that a list of numbers is: variable k has the bit 0 if the number at k is 0 or is not there, else 1
abbrev pub bits_of : List ℕ → ℕ → Bool
bits_of numbers k = not (slice_index numbers k == 0)

-- the assignment has the bit of each variable that the numbers set: those whose number is 0, is not there, or is 1
abbrev pub Completes : List ℕ → (ℕ → Bool) → Type 0
Completes numbers α = (k : ℕ) (b : Bool) → slice_index numbers k ≡ cond b 1 0 → α k ≡ b

-- the numbers set the literal's variable to the bit that makes the literal false: 0 for an even literal, 1 for an odd one
abbrev pub False : List ℕ → ℕ → Type 0
False numbers x = slice_index numbers (x / 2) ≡ x % 2
