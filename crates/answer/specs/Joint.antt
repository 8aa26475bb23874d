-- Two clauses joined without a variable. Assumes nothing.
use Rattle.std.specs.Prelude.{ℕ, ◌+◌, ◌*◌, ◌/◌, min, Bool, true, false, cond, ◌&&◌, List, [], ◌∷◌, Some, None, Option, ◌==◌, nat_lt}

-- a literal x before the union of what follows it with a list
abbrev pub into : ℕ → (List ℕ → List ℕ) → List ℕ → List ℕ
into x more [] = x ∷ more []
into x more (y ∷ ys) = cond (nat_lt x y) (x ∷ more (y ∷ ys)) (cond (nat_lt y x) (y ∷ into x more ys) (x ∷ more ys))

-- the ascending union of two ascending lists
abbrev pub union : List ℕ → List ℕ → List ℕ
union [] ys = ys
union (x ∷ xs) ys = into x (union xs) ys

-- the lower of the literals that two lists begin with
abbrev pub lowest : List ℕ → List ℕ → Option ℕ
lowest [] [] = None
lowest [] (y ∷ ys) = Some y
lowest (x ∷ xs) [] = Some x
lowest (x ∷ xs) (y ∷ ys) = Some (min x y)

-- the literals of other variables than p
abbrev pub without : ℕ → List ℕ → List ℕ
without p [] = []
without p (x ∷ xs) = cond (x / 2 == p) (without p xs) (x ∷ without p xs)

-- whether a variable comes twice in a row, v having come before the first
abbrev pub repeats : ℕ → List ℕ → Bool
repeats v [] = false
repeats v (x ∷ xs) = cond (x / 2 == v) true (repeats (x / 2) xs)

-- two clauses joined, without the pivot's variable
abbrev pub joint : List ℕ → List ℕ → ℕ → List ℕ
joint xs ys p = without p (union xs ys)

-- whether some variable stays in the joint clause both plain and negated: no literal that is left has the variable p
abbrev pub clashing : List ℕ → List ℕ → ℕ → Bool
clashing xs ys p = repeats p (joint xs ys p)

-- whether a clause has a literal
abbrev pub has : ℕ → List ℕ → Bool
has x [] = false
has x (y ∷ ys) = cond (y == x) true (has x ys)

-- whether the pivot stands plain in the first clause and negated in the second
abbrev pub opposes : List ℕ → List ℕ → ℕ → Bool
opposes xs ys p = has (2 * p) xs && has (2 * p + 1) ys
