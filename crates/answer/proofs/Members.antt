-- The literals of a union, and of a union without a variable. Assumes nothing.
use Rattle.std.proofs.Common.{◌≡◌, ℕ, ◌/◌, ◌<◌, ◌≤◌, Bool, true, false, cond, eqb, ltb, ◌||◌, ◌⊎◌, List, [], ◌∷◌, sym, refl, ap, ◌∙◌, inl, inr, ⊎_elim, arith}
use Rattle.std.proofs.lemmas.Bool.{cond_both, ltb-true, ltb-false, eqb-true, eqb-false}
use Rattle.std.specs.List.{list_any}
use Rattle.question.specs.Questions.{Mem, Clause}
use Rattle.answer.specs.Joint.{union, without, repeats, has}

pub mem_union : (xs ys : List ℕ) (z : ℕ) → Mem z (union xs ys) → Mem z xs ⊎ Mem z ys
mem_union [] ys z = λ h. inr h
mem_union (x ∷ xs) [] z = λ h. ⊎_elim (λ e. inl (inl e)) (λ m. ⊎_elim (λ k. inl (inr k)) (λ k. inr k) (mem_union xs [] z m)) h
mem_union (x ∷ xs) (y ∷ ys) z =
    cond_both (ltb x y) _ _ (λ u. Mem z u → Mem z (x ∷ xs) ⊎ Mem z (y ∷ ys))
    (λ _ h. ⊎_elim (λ e. inl (inl e)) (λ m. ⊎_elim (λ k. inl (inr k)) (λ k. inr k) (mem_union xs (y ∷ ys) z m)) h)
    (λ _. cond_both (ltb y x) _ _ (λ u. Mem z u → Mem z (x ∷ xs) ⊎ Mem z (y ∷ ys))
    (λ _ h. ⊎_elim (λ e. inr (inl e)) (λ m. ⊎_elim (λ k. inl k) (λ k. inr (inr k)) (mem_union (x ∷ xs) ys z m)) h)
    (λ _ h. ⊎_elim (λ e. inl (inl e)) (λ m. ⊎_elim (λ k. inl (inr k)) (λ k. inr (inr k)) (mem_union xs ys z m)) h))

pub union_mem : (xs ys : List ℕ) (z : ℕ) → Mem z xs ⊎ Mem z ys → Mem z (union xs ys)
union_mem [] ys z h = ⊎_elim (λ k. absurd k) (λ k. k) h
union_mem (x ∷ xs) [] z h = ⊎_elim (λ k. ⊎_elim (λ e. inl e) (λ m. inr (union_mem xs [] z (inl m))) k) (λ k. absurd k) h
union_mem (x ∷ xs) (y ∷ ys) z h =
    cond_both (ltb x y) _ _ (λ u. Mem z u)
    (λ _. ⊎_elim (λ k. ⊎_elim (λ e. inl e) (λ m. inr (union_mem xs (y ∷ ys) z (inl m))) k) (λ k. inr (union_mem xs (y ∷ ys) z (inr k))) h)
    (λ p. cond_both (ltb y x) _ _ (λ u. Mem z u)
    (λ _. ⊎_elim (λ k. inr (union_mem (x ∷ xs) ys z (inl k))) (λ k. ⊎_elim (λ e. inl e) (λ m. inr (union_mem (x ∷ xs) ys z (inr m))) k) h)
    (λ q. let same : x ≡ y = omega (arith, ltb-false x y p, ltb-false y x q) in
    ⊎_elim (λ k. ⊎_elim (λ e. inl e) (λ m. inr (union_mem xs ys z (inl m))) k) (λ k. ⊎_elim (λ e. inl (e ∙ sym same)) (λ m. inr (union_mem xs ys z (inr m))) k) h))

-- ascending literals
abbrev pub Asc : List ℕ → Type 0
Asc [] = Unit {0}
Asc (x ∷ xs) = ((y : ℕ) → Mem y xs → x < y) × Asc xs

pub clause_asc : (xs : List ℕ) → Clause xs → Asc xs
clause_asc [] h = tt
clause_asc (x ∷ xs) h = (λ y m. let l : x / 2 < y / 2 = h.0 y m in omega arith, clause_asc xs h.1)

pub asc_union : (xs ys : List ℕ) → Asc xs → Asc ys → Asc (union xs ys)
asc_union [] ys a b = b
asc_union (x ∷ xs) [] a b = (λ z m. ⊎_elim (λ k. a.0 z k) (λ k. absurd k) (mem_union xs [] z m), asc_union xs [] a.1 b)
asc_union (x ∷ xs) (y ∷ ys) a b =
    cond_both (ltb x y) _ _ Asc
    (λ p. let l : x < y = ltb-true x y p in (
      λ z m. ⊎_elim (λ k. a.0 z k) (λ k. ⊎_elim (λ e. omega arith) (λ n. let g : y < z = b.0 z n in omega arith) k) (mem_union xs (y ∷ ys) z m),
      asc_union xs (y ∷ ys) a.1 b,
    ))
    (λ p. cond_both (ltb y x) _ _ Asc
    (λ q. let l : y < x = ltb-true y x q in (
      λ z m. ⊎_elim (λ k. ⊎_elim (λ e. omega arith) (λ n. let g : x < z = a.0 z n in omega arith) k) (λ k. b.0 z k) (mem_union (x ∷ xs) ys z m),
      asc_union (x ∷ xs) ys a b.1,
    ))
    (λ q. let same : x ≡ y = omega (arith, ltb-false x y p, ltb-false y x q) in (
      λ z m. ⊎_elim (λ k. a.0 z k) (λ k. let g : y < z = b.0 z k in omega arith) (mem_union xs ys z m),
      asc_union xs ys a.1 b.1,
    )))

pub mem_without : (p : ℕ) (xs : List ℕ) (z : ℕ) → Mem z (without p xs) → Mem z xs × (z / 2 ≡ p → ⊥)
mem_without p [] z = λ h. absurd h
mem_without p (x ∷ xs) z =
    cond_both (eqb (x / 2) p) _ _ (λ u. Mem z u → Mem z (x ∷ xs) × (z / 2 ≡ p → ⊥))
    (λ _ h. let k = mem_without p xs z h in (inr k.0, k.1))
    (λ e h. ⊎_elim (λ s. (inl s, λ q. eqb-false (x / 2) p e (ap (λ n. n / 2) (sym s) ∙ q))) (λ m. let k = mem_without p xs z m in (inr k.0, k.1)) h)

pub without_mem : (p : ℕ) (xs : List ℕ) (z : ℕ) → Mem z xs → (z / 2 ≡ p → ⊥) → Mem z (without p xs)
without_mem p [] z h ne = absurd h
without_mem p (x ∷ xs) z h ne =
    cond_both (eqb (x / 2) p) _ _ (λ u. Mem z u)
    (λ e. ⊎_elim (λ s. absurd (ne (ap (λ n. n / 2) s ∙ eqb-true (x / 2) p e))) (λ m. without_mem p xs z m ne) h)
    (λ _. ⊎_elim (λ s. inl s) (λ m. inr (without_mem p xs z m ne)) h)

pub asc_without : (p : ℕ) (xs : List ℕ) → Asc xs → Asc (without p xs)
asc_without p [] a = tt
asc_without p (x ∷ xs) a =
    cond_both (eqb (x / 2) p) _ _ Asc (λ _. asc_without p xs a.1) (λ _. (λ z m. a.0 z (mem_without p xs z m).0, asc_without p xs a.1))

-- ascending literals with no variable twice in a row are a clause
pub quiet : (v : ℕ) (xs : List ℕ) → Asc xs → ((y : ℕ) → Mem y xs → v ≤ y / 2) → repeats v xs ≡ false → ((y : ℕ) → Mem y xs → v < y / 2) × Clause xs
quiet v [] a h = λ r. (λ y m. absurd m, tt)
quiet v (x ∷ xs) a h =
    cond_both (eqb (x / 2) v) _ _ (λ b. b ≡ false → ((y : ℕ) → Mem y (x ∷ xs) → v < y / 2) × Clause (x ∷ xs))
    (λ _ r. let z : ◌≡◌ {A = ℕ} 0 1 = cc in absurd (omega arith))
    (λ e r.
    let l : v ≤ x / 2 = h x (inl refl) in
    let n = eqb-false (x / 2) v e in
    let k = quiet (x / 2) xs a.1 (λ y m. let g : x < y = a.0 y m in omega arith) r in
    (λ y m. ⊎_elim (λ s. let s2 : y / 2 ≡ x / 2 = ap (λ n. n / 2) s in omega arith) (λ m. let g : x / 2 < y / 2 = k.0 y m in omega arith) m, k))

pub proper_from : (p : ℕ) (xs : List ℕ) → Asc xs → repeats p xs ≡ false → Clause xs
proper_from p [] a = λ r. tt
proper_from p (x ∷ xs) a =
    cond_both (eqb (x / 2) p) _ _ (λ b. b ≡ false → Clause (x ∷ xs))
    (λ _ r. let z : ◌≡◌ {A = ℕ} 0 1 = cc in absurd (omega arith))
    (λ e r. quiet (x / 2) xs a.1 (λ y m. let g : x < y = a.0 y m in omega arith) r)

pub quiet_from : (v : ℕ) (xs : List ℕ) → Clause xs → ((y : ℕ) → Mem y xs → y / 2 ≡ v → ⊥) → repeats v xs ≡ false
quiet_from v [] c h = refl
quiet_from v (x ∷ xs) c h =
    cond_both (eqb (x / 2) v) _ _ (λ b. b ≡ false)
    (λ e. absurd (h x (inl refl) (eqb-true (x / 2) v e)))
    (λ _. quiet_from (x / 2) xs c.1 (λ y m e. let g : x / 2 < y / 2 = c.0 y m in omega arith))

pub has_mem : (x : ℕ) (xs : List ℕ) → has x xs ≡ true → Mem x xs
has_mem x [] = λ h. let z : ◌≡◌ {A = ℕ} 0 1 = cc in absurd (omega arith)
has_mem x (y ∷ ys) =
    cond_both (eqb y x) _ _ (λ b. b ≡ true → Mem x (y ∷ ys)) (λ e _. inl (sym (eqb-true y x e))) (λ _ h. inr (has_mem x ys h))

pub mem_has : (x : ℕ) (xs : List ℕ) → Mem x xs → has x xs ≡ true
mem_has x [] h = absurd h
mem_has x (y ∷ ys) h =
    cond_both (eqb y x) _ _ (λ b. b ≡ true) (λ _. refl)
    (λ e. ⊎_elim (λ s. absurd (eqb-false y x e (sym s))) (λ m. mem_has x ys m) h)

-- ascending lists with the same members are the same
pub asc_same : (xs ys : List ℕ) → Asc xs → Asc ys → ((z : ℕ) → Mem z xs → Mem z ys) → ((z : ℕ) → Mem z ys → Mem z xs) → xs ≡ ys
asc_same [] [] a b f g = refl
asc_same [] (y ∷ ys) a b f g = absurd (g y (inl refl))
asc_same (x ∷ xs) [] a b f g = absurd (f x (inl refl))
asc_same (x ∷ xs) (y ∷ ys) a b f g =
    let same : x ≡ y = ⊎_elim (λ e. e) (λ m. ⊎_elim sym (λ n. let l : y < x = b.0 x m in let k : x < y = a.0 y n in omega arith) (g y (inl refl))) (f x (inl refl)) in
    let rest : xs ≡ ys = asc_same xs ys a.1 b.1
    (λ z m. ⊎_elim (λ e. let l : x < z = a.0 z m in absurd (omega arith)) (λ n. n) (f z (inr m)))
    (λ z m. ⊎_elim (λ e. let l : y < z = b.0 z m in absurd (omega arith)) (λ n. n) (g z (inr m))) in
    cc

cond_or : (b c : Bool) → cond b true c ≡ (b || c)
cond_or true c = refl
cond_or false c = refl

pub has_is : (x : ℕ) (ys : List ℕ) → has x ys ≡ list_any (λ y. eqb y x) ys
has_is x [] = refl
has_is x (y ∷ ys) = cond_or (eqb y x) (has x ys) ∙ ap (λ b. eqb y x || b) (has_is x ys)
