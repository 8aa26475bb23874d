-- Where the clauses of a question lie, and their last literals. Assumes nothing.
use Rattle.std.proofs.Common.{◌≡◌, ℕ, zero, suc, ◌+◌, ◌-◌, ◌/◌, ◌<◌, ◌≤◌, List, [], ◌∷◌, length, get_or, drop, sym, refl, ap, subst, inl, inr, ⊎_elim, arith, length-drop, length-take}
use Rattle.question.specs.Questions.{clause_count, clause_of, Mem, Clause, IsQuestion}

module _ (q : List ℕ) (is : IsQuestion q) where
  places_rise : (k j : ℕ) → k + j ≤ clause_count q → get_or q (3 + k) 0 + j ≤ get_or q (3 + (k + j)) 0
  places_rise k zero l = let e : 3 + (k + 0) ≡ 3 + k = omega arith in let same = ap (λ (i : ℕ). get_or q i 0) e in omega arith
  places_rise k (suc j) l =
      let h = places_rise k j (omega arith) in
      let n = is.none_empty (k + j) (omega arith) in
      let e : 4 + (k + j) ≡ 3 + (k + suc j) = omega arith in
      let same = ap (λ (i : ℕ). get_or q i 0) e in
      omega arith

  pub few_clauses : clause_count q ≤ length q
  few_clauses =
      let h = places_rise 0 (clause_count q) (omega arith) in
      let e : 3 + (0 + clause_count q) ≡ 3 + clause_count q = omega arith in
      let same = ap (λ (i : ℕ). get_or q i 0) e in
      let b = is.begins in
      let d = is.ends in
      omega arith

  pub clause_some : (k : ℕ) → k < clause_count q → 0 < length (clause_of q k)
  clause_some k l =
      let s : ℕ = get_or q (3 + k) 0 in
      let h = places_rise k (clause_count q - k) (omega arith) in
      let e : 3 + (k + (clause_count q - k)) ≡ 3 + clause_count q = omega arith in
      let same = ap (λ (i : ℕ). get_or q i 0) e in
      let d = is.ends in
      let n = is.none_empty k l in
      let f : 3 + k + 1 ≡ 4 + k = omega arith in
      let next = ap (λ (i : ℕ). get_or q i 0) f in
      omega (arith, length-take (get_or q (3 + k + 1) 0 - s) (drop s q), length-drop s q)

-- ---- the last literal
last_mem : (x : ℕ) (xs : List ℕ) → Mem (get_or (x ∷ xs) (length xs) 0) (x ∷ xs)
last_mem x [] = inl refl
last_mem x (y ∷ ys) = inr (last_mem y ys)

last_top : (x : ℕ) (xs : List ℕ) → Clause (x ∷ xs) → (y : ℕ) → Mem y (x ∷ xs) → y / 2 ≤ get_or (x ∷ xs) (length xs) 0 / 2
last_top x [] h y m = ⊎_elim (λ (e : y ≡ x). let s = ap (λ k. k / 2) e in omega arith) (λ n. absurd n) m
last_top x (z ∷ zs) h y m = ⊎_elim
    (λ (e : y ≡ x). let s = ap (λ k. k / 2) e in omega (arith, h.0 (get_or (z ∷ zs) (length zs) 0) (last_mem z zs)))
    (λ n. last_top z zs h.1 y n)
    m

abbrev pub last : List ℕ → ℕ
last c = get_or c (length c - 1) 0

pub last_in : (c : List ℕ) → 0 < length c → Mem (last c) c
last_in [] h = absurd (omega arith)
last_in (x ∷ xs) h = let e : length (x ∷ xs) - 1 ≡ length xs = omega arith in subst (λ (i : ℕ). Mem (get_or (x ∷ xs) i 0) (x ∷ xs)) (sym e) (last_mem x xs)

pub last_highest : (c : List ℕ) → Clause c → (y : ℕ) → Mem y c → y / 2 ≤ last c / 2
last_highest [] h y m = absurd m
last_highest (x ∷ xs) h y m =
    let e : length (x ∷ xs) - 1 ≡ length xs = omega arith in subst (λ (i : ℕ). y / 2 ≤ get_or (x ∷ xs) i 0 / 2) (sym e) (last_top x xs h y m)
