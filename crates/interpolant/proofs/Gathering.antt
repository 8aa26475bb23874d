-- The OR of a clause's shared literals. Assumes nothing.
use Rattle.std.proofs.Common.{◌≡◌, ℕ, ◌+◌, ◌-◌, ◌*◌, ◌/◌, ◌%◌, ◌<◌, ◌≤◌, Bool, true, false, cond, not, ◌||◌, eqb, ◌⊎◌, List, [], ◌∷◌, Decides, sym, refl, ap, ◌∙◌, subst, inl, inr, ⊎_elim, arith}
use Rattle.std.proofs.lemmas.Bool.{cond_both, or_cases, or_left, or_right, both_ways}
use Rattle.sheet.specs.Sheets.{Sheet}
use Rattle.signal.specs.Truth.{lit}
use Rattle.formula.specs.Conjunction.{Outcome, grown, short, disjoin, Extends, Joins}
use Rattle.formula.specs.Formulas.{width, nodes_at, Formula, Gates}
use Rattle.formula.specs.Starting.{onward}
use Rattle.formula.proofs.Valued.{node_latch, extends_refl, extends_trans, Fine, disjoin_fine}
use Rattle.interpolant.specs.Drawing.{or_shared}
use Rattle.interpolant.specs.Interpolation.{Cut, Shares}
use Rattle.interpolant.specs.Meaning.{latches_at, value_under}

-- what is shared are latches of frame 1
abbrev pub Latched : Sheet → Cut → Type 0
Latched s u = (v : ℕ) → u.shared v ≡ true → (width s + s.inputs < v) × (v ≤ width s + s.inputs + s.latches)

module _ (s : Sheet) (u : Cut) (latched : Latched s u) where
  abbrev w : ℕ
  w = width s

  -- the latch of a shared literal
  latch_formula : (n x : ℕ) → u.shared (x / 2) ≡ true → Formula s n (x - 2 * w)
  latch_formula n x h = let l = latched (x / 2) h in inr (inl (omega (arith, l.0, l.1), omega (arith, l.0, l.1)))

  latch_is : (f : List ℕ) (n : ℕ) (α : ℕ → Bool) (x : ℕ) → u.shared (x / 2) ≡ true → value_under s f n α (x - 2 * w) ≡ lit α x
  latch_is f n α x h =
      let l = latched (x / 2) h in
      let low : w + s.inputs < x / 2 = l.0 in
      let high : x / 2 ≤ w + s.inputs + s.latches = l.1 in
      let i : ℕ = x / 2 - (w + 1 + s.inputs) in
      let sign : (x - 2 * w) % 2 ≡ x % 2 = omega arith in
      let node : (x - 2 * w) / 2 ≡ 1 + s.inputs + i = omega arith in
      let place : w + 1 + s.inputs + i ≡ x / 2 = omega arith in
      ap (λ (r : ℕ). cond (eqb r 0) (nodes_at s f n (latches_at s α) ((x - 2 * w) / 2)) (not (nodes_at s f n (latches_at s α) ((x - 2 * w) / 2)))) sign
      ∙ ap (λ (b : Bool). cond (eqb (x % 2) 0) b (not b))
      (ap (nodes_at s f n (latches_at s α)) node ∙ node_latch s f n (latches_at s α) i (omega arith) ∙ ap α place)

  -- z in the new list is the OR of y in the old one and of the shared literals of xs
  pub record Gathered (xs : List ℕ) (y n : ℕ) (f : List ℕ) (z n' : ℕ) (f' : List ℕ) : Type 0 where
    pub extends : Extends s f n f' n'
    pub formula : Formula s n' z
    pub is : (α : ℕ → Bool) → Decides (value_under s f' n' α z) ((value_under s f n α y ≡ true) ⊎ Shares u α xs)

  abbrev pub Gathers : List ℕ → ℕ → ℕ → List ℕ → Outcome → Type 0
  Gathers xs y n f (grown z n' f') = Gathered xs y n f z n' f'
  Gathers xs y n f short = Unit {0}

  -- a literal that is not shared
  skipped : (x : ℕ) (xs : List ℕ) (y n : ℕ) (f : List ℕ) → u.shared (x / 2) ≡ false → (o : Outcome) → Gathers xs y n f o → Gathers (x ∷ xs) y n f o
  skipped x xs y n f h short g = tt
  skipped x xs y n f h (grown z n' f') g =
      record {
        extends = g.extends;
        formula = g.formula;
        is = λ α. let d = g.is α in (
          λ e. ⊎_elim (λ p. inl p) (λ (m : Shares u α xs). inr (m.0, inr m.1, m.2, m.3)) (d.0 e),
          λ e. d.1 (⊎_elim
              (λ p. inl p)
              (λ (m : Shares u α (x ∷ xs)). ⊎_elim
              (λ (k : m.0 ≡ x). absurd (both_ways (u.shared (x / 2)) h (subst (λ (i : ℕ). u.shared (i / 2) ≡ true) k m.2)))
              (λ k. inr (m.0, k, m.2, m.3))
              m.1)
              e),
        );
      }

  -- one that is
  joined : (x : ℕ) (xs : List ℕ) (y n : ℕ) (f : List ℕ) → u.shared (x / 2) ≡ true → (y₁ n₁ : ℕ) (f₁ : List ℕ) → Joins ◌||◌ s f n y (x - 2 * w) f₁ n₁ y₁
      → (o : Outcome) → Gathers xs y₁ n₁ f₁ o → Gathers (x ∷ xs) y n f o
  joined x xs y n f h y₁ n₁ f₁ j short g = tt
  joined x xs y n f h y₁ n₁ f₁ j (grown z n' f') g =
      record {
        extends = extends_trans s f f₁ f' n n₁ n' j.extends g.extends;
        formula = g.formula;
        is = λ α.
            let d = g.is α in
            let a : Bool = value_under s f n α y in
            let v : value_under s f₁ n₁ α y₁ ≡ (a || lit α x) = j.value (latches_at s α) ∙ ap (λ b. a || b) (latch_is f n α x h) in (
              λ e. ⊎_elim
                  (λ p. ⊎_elim (λ k. inl k) (λ k. inr (x, inl refl, h, k)) (or_cases a (lit α x) (sym v ∙ p)))
                  (λ (m : Shares u α xs). inr (m.0, inr m.1, m.2, m.3))
                  (d.0 e),
              λ e. d.1 (⊎_elim
                  (λ p. inl (v ∙ or_left a (lit α x) p))
                  (λ (m : Shares u α (x ∷ xs)). ⊎_elim
                  (λ (k : m.0 ≡ x). inl (v ∙ or_right a (lit α x) (subst (λ (i : ℕ). lit α i ≡ true) k m.3)))
                  (λ k. inr (m.0, k, m.2, m.3))
                  m.1)
                  e),
            );
      }

  one_more : (x : ℕ) (xs : List ℕ) (y n : ℕ) (f : List ℕ) → u.shared (x / 2) ≡ true
      → ((y n : ℕ) (f : List ℕ) → Gates s f n → Formula s n y → Gathers xs y n f (or_shared w u xs y n f))
      → (o : Outcome) → Fine s ◌||◌ f n y (x - 2 * w) o → Gathers (x ∷ xs) y n f (onward o (λ y n f. or_shared w u xs y n f))
  one_more x xs y n f h rest (grown y₁ n₁ f₁) j = joined x xs y n f h y₁ n₁ f₁ j (or_shared w u xs y₁ n₁ f₁) (rest y₁ n₁ f₁ j.extends.gates j.formula)
  one_more x xs y n f h rest short j = tt

  pub shared_gathers : (xs : List ℕ) (y n : ℕ) (f : List ℕ) → Gates s f n → Formula s n y → Gathers xs y n f (or_shared w u xs y n f)
  shared_gathers [] y n f gates is_y =
      record {
        extends = extends_refl s f n gates;
        formula = is_y;
        is = λ α. (λ e. inl e, λ e. ⊎_elim (λ p. p) (λ (m : Shares u α []). absurd m.1) e);
      }
  shared_gathers (x ∷ xs) y n f gates is_y =
      cond_both (u.shared (x / 2)) _ _ (Gathers (x ∷ xs) y n f)
      (λ h. one_more x xs y n f h (shared_gathers xs) (disjoin w n f y (x - 2 * w)) (disjoin_fine s f n y (x - 2 * w) gates is_y (latch_formula n x h)))
      (λ h. skipped x xs y n f h (or_shared w u xs y n f) (shared_gathers xs y n f gates is_y))
