-- The list of a question, and the questions that fit. Assumes nothing.
use Rattle.std.specs.Prelude.{ℕ, ◌+◌, ◌-◌, ◌*◌, ◌^◌, Bool, cond, ◌&&◌, List, [], ◌∷◌, ◌++◌, length, replicate, Some, None, Option, nat_le, nat_lt}
use Rattle.std.specs.List.{list_all}
use Rattle.lists.specs.Counted.{counted, on_counted}
use Rattle.sheet.specs.Sheets.{Sheet}
use Rattle.sheet.specs.Render.{well_formed}
use Rattle.formula.specs.Formulas.{width}
use Rattle.question.specs.Clauses.{start_clauses, first_clauses, path_clauses, inclusion_clauses}

-- the literals of all clauses, one behind the other
abbrev pub flat : List (List ℕ) → List ℕ
flat [] = []
flat (c ∷ cs) = c ++ flat cs

-- where clauses start, the first at p
abbrev pub starts : ℕ → List (List ℕ) → List ℕ
starts p [] = []
starts p (c ∷ cs) = p ∷ starts (p + length c) cs

-- v variables; a clauses are of the first part
abbrev pub encode : ℕ → ℕ → List (List ℕ) → List ℕ
encode v a cs =
    v ∷ length cs ∷ a ∷ (starts (4 + length cs) cs ++ ((4 + length cs + length (flat cs)) ∷ flat cs))

abbrev pub start_list : Sheet → List ℕ → ℕ → ℕ → List ℕ
start_list s f n r = encode (width s + n) 0 (start_clauses s f n r)

abbrev pub path_list : Sheet → List ℕ → ℕ → ℕ → ℕ → List ℕ
path_list s f n r k = encode ((k + 2) * width s + n) (length (first_clauses s f n r k)) (path_clauses s f n r k)

abbrev pub inclusion_list : Sheet → List ℕ → ℕ → ℕ → ℕ → List ℕ
inclusion_list s f n p r = encode (width s + n) 0 (inclusion_clauses s f n p r)

-- each number is below m
abbrev pub all_below : ℕ → List ℕ → Bool
all_below m xs = list_all (λ x. nat_lt x m) xs

-- how long a question is, and a list of n places with it in front and zeros behind
abbrev pub written : List ℕ → ℕ → ℕ × List ℕ
written q n = (length q, q ++ replicate (n - length q) 0)

-- a question in a lent list, with zeros behind, if there is room and each number has 32 bits; the result is its length
abbrev pub posed : List ℕ → List ℕ → Option ℕ × List ℕ
posed q old =
    cond (nat_le (length q) (length old) && all_below (2 ^ 32) q)
    (Some (length q), q ++ replicate (length old - length q) 0)
    (None, old)

-- what a builder is given: a sheet list, and a formula list that has n gates
abbrev pub given : List ℕ → List ℕ → ℕ → Bool
given l f n = well_formed (counted l) && nat_le (2 * n) (length (counted f))

abbrev pub posed_if : Bool → List ℕ → List ℕ → Option ℕ × List ℕ
posed_if b q old = cond b (on_counted (posed q) old) (None, old)
