-- Two clauses clash where another variable than the pivot's is plain in one and negated in the other. Assumes nothing.
use Rattle.std.proofs.Common.{◌≡◌, ℕ, ◌+◌, ◌*◌, ◌/◌, ◌<◌, true, eqb, ◌⊎◌, List, [], ◌∷◌, refl, subst, inl, inr, ⊎_elim, arith}
use Rattle.std.proofs.lemmas.Bool.{cases_Bool, cond_both, eqb-true}
use Rattle.question.specs.Questions.{Mem, Clause}
use Rattle.answer.specs.Joint.{union, joint, repeats, clashing}
use Rattle.answer.specs.Derivations.{Clashes}
use Rattle.answer.proofs.Members.{Asc, mem_union, union_mem, mem_without, without_mem, proper_from}
use Rattle.answer.proofs.Resolving.{asc_joint, once}

-- ascending literals among which a variable comes twice in a row have both of its literals, unless it is the variable v before them
abbrev Twice : ℕ → List ℕ → Type 0
Twice v xs = ((y : ℕ) × Mem y xs × (y / 2 ≡ v)) ⊎ ((u : ℕ) × Mem (2 * u) xs × Mem (2 * u + 1) xs)

twice : (v : ℕ) (xs : List ℕ) → Asc xs → repeats v xs ≡ true → Twice v xs
twice v [] a = λ h. let z : ◌≡◌ {A = ℕ} 0 1 = cc in absurd (omega arith)
twice v (x ∷ xs) a =
    cond_both (eqb (x / 2) v) _ _ (λ b. b ≡ true → Twice v (x ∷ xs))
    (λ e _. inl (x, inl refl, eqb-true (x / 2) v e))
    (λ _ h. inr (⊎_elim
    (λ k.
    let y : ℕ = k.0 in
    let l : x < y = a.0 y k.1 in
    let same : y / 2 ≡ x / 2 = k.2 in
    let even : 2 * (x / 2) ≡ x = omega arith in
    let odd : y ≡ 2 * (x / 2) + 1 = omega arith in
    (x / 2, inl even, inr (subst (λ z. Mem z xs) odd k.1)))
    (λ k. (k.0, inr k.1, inr k.2))
    (twice (x / 2) xs a.1 h)))

module _ (xs ys : List ℕ) (p : ℕ) (cx : Clause xs) (cy : Clause ys) where
  stays : (z : ℕ) → Mem z xs ⊎ Mem z ys → (z / 2 ≡ p → ⊥) → Mem z (joint xs ys p)
  stays z m ne = without_mem p (union xs ys) z (union_mem xs ys z m) ne

  pub clashing_from : Clashes xs ys p → clashing xs ys p ≡ true
  clashing_from o =
      let v : ℕ = o.variable in
      let n0 : (2 * v) / 2 ≡ p → ⊥ = λ e. o.another (omega arith) in
      let n1 : (2 * v + 1) / 2 ≡ p → ⊥ = λ e. o.another (omega arith) in
      let even : Mem (2 * v) (joint xs ys p) = ⊎_elim (λ k. stays (2 * v) (inl k.0) n0) (λ k. stays (2 * v) (inr k.0) n0) o.apart in
      let odd : Mem (2 * v + 1) (joint xs ys p) = ⊎_elim (λ k. stays (2 * v + 1) (inr k.1) n1) (λ k. stays (2 * v + 1) (inl k.1) n1) o.apart in
      ⊎_elim (λ e. e)
      (λ quiet.
      let same : 2 * v ≡ 2 * v + 1 =
      once (joint xs ys p) (2 * v) (2 * v + 1) (proper_from p (joint xs ys p) (asc_joint xs ys p cx cy) quiet) even odd (omega arith) in
      absurd (omega arith))
      (cases_Bool (clashing xs ys p))

  -- and only there
  pub clashes_from : clashing xs ys p ≡ true → Clashes xs ys p
  clashes_from h =
      ⊎_elim
      (λ k. absurd ((mem_without p (union xs ys) k.0 k.1).1 k.2))
      (λ k.
      let u : ℕ = k.0 in
      let even = mem_without p (union xs ys) (2 * u) k.1 in
      let odd = mem_without p (union xs ys) (2 * u + 1) k.2 in
      let half : (2 * u) / 2 ≡ (2 * u + 1) / 2 = omega arith in
      record {
        variable = u;
        another = λ e. even.1 (omega arith);
        apart =
            ⊎_elim
            (λ a. ⊎_elim
            (λ b. let z : 2 * u ≡ 2 * u + 1 = once xs (2 * u) (2 * u + 1) cx a b half in absurd (omega arith))
            (λ b. inl (a, b))
            (mem_union xs ys (2 * u + 1) odd.0))
            (λ a. ⊎_elim
            (λ b. inr (a, b))
            (λ b. let z : 2 * u ≡ 2 * u + 1 = once ys (2 * u) (2 * u + 1) cy a b half in absurd (omega arith))
            (mem_union xs ys (2 * u + 1) odd.0))
            (mem_union xs ys (2 * u) even.0);
      })
      (twice p (joint xs ys p) (asc_joint xs ys p cx cy) h)
