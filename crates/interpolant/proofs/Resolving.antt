-- True literals of a resolvent, among those of one kind of variables. Assumes nothing.
use Rattle.std.proofs.Common.{◌≡◌, ℕ, ◌+◌, ◌*◌, ◌/◌, Bool, true, false, not, ◌⊎◌, List, [], ◌∷◌, sym, refl, ap, ◌∙◌, subst, inl, inr, ⊎_elim, arith}
use Rattle.std.proofs.lemmas.Bool.{cases_eq, or_cases, both_ways}
use Rattle.signal.specs.Truth.{lit, holds}
use Rattle.question.specs.Questions.{Mem, Clause}
use Rattle.question.proofs.Literals.{lit_next}
use Rattle.answer.specs.Derivations.{Resolves}
use Rattle.answer.proofs.Resolving.{once}

either_way : (b c : Bool) → b ≡ c → b ≡ not c → ⊥
either_way b true h k = let z : ◌≡◌ {A = ℕ} 0 1 = cc in omega arith
either_way b false h k = let z : ◌≡◌ {A = ℕ} 0 1 = cc in omega arith

-- a true clause has a true literal
pub holds_some : (α : ℕ → Bool) (xs : List ℕ) → holds α xs ≡ true → (x : ℕ) × Mem x xs × (lit α x ≡ true)
holds_some α [] h = let z : ◌≡◌ {A = ℕ} 0 1 = cc in absurd (omega arith)
holds_some α (x ∷ xs) h =
    ⊎_elim (λ e. (x, inl refl, e)) (λ e. let k = holds_some α xs e in (k.0, inr k.1, k.2)) (or_cases (lit α x) (holds α xs) h)

-- a true literal of a clause whose variable passes a test as b says
abbrev pub Some : (ℕ → Bool) → Bool → (ℕ → Bool) → List ℕ → Type 0
Some test b α xs = (x : ℕ) × Mem x xs × (test (x / 2) ≡ b) × (lit α x ≡ true)

module _ (test : ℕ → Bool) (b : Bool) (α : ℕ → Bool) (xs ys : List ℕ) (p : ℕ) (zs : List ℕ) (r : Resolves xs ys p zs) where
  -- one of the two has one, and the pivot is of the other kind
  pub one_has : test p ≡ not b → Some test b α xs ⊎ Some test b α ys → Some test b α zs
  one_has other h = ⊎_elim
      (λ (s : Some test b α xs). (s.0, r.every s.0 (inl s.1) (λ e. either_way (test p) b (sym (ap test e) ∙ s.2) other), s.2, s.3))
      (λ (s : Some test b α ys). (s.0, r.every s.0 (inr s.1) (λ e. either_way (test p) b (sym (ap test e) ∙ s.2) other), s.2, s.3))
      h

  -- both have one, and not both are of the pivot
  pub both_have : Clause xs → Clause ys → Some test b α xs → Some test b α ys → Some test b α zs
  both_have cx cy (x, mx, lx, tx) (y, my, ly, ty) =
      ⊎_elim
      (λ (e : x / 2 ≡ p). ⊎_elim
      (λ (f : y / 2 ≡ p).
      let sx : x ≡ 2 * p = once xs x (2 * p) cx mx r.opposes.0 (omega arith) in
      let sy : y ≡ 2 * p + 1 = once ys y (2 * p + 1) cy my r.opposes.1 (omega arith) in
      let plain : lit α (2 * p) ≡ true = subst (λ v. lit α v ≡ true) sx tx in
      let negated : lit α (2 * p + 1) ≡ true = subst (λ v. lit α v ≡ true) sy ty in
      absurd (both_ways (lit α (2 * p + 1)) (lit_next α (2 * p) (omega arith) ∙ ap not plain) negated))
      (λ n. (y, r.every y (inr my) n, ly, ty))
      (cases_eq (y / 2) p))
      (λ n. (x, r.every x (inl mx) n, lx, tx))
      (cases_eq (x / 2) p)
