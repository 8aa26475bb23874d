-- Clauses that hold, as equations between bits. Assumes nothing.
use Rattle.std.proofs.Common.{◌≡◌, ℕ, zero, suc, ◌+◌, ◌%◌, ◌<◌, ◌≤◌, Bool, true, false, not, ◌&&◌, ◌||◌, [], ◌∷◌, sym, refl, ap, ◌∙◌, subst, ⊎_elim, arith}
use Rattle.std.proofs.lemmas.Bool.{false≢true, cases_eq, or_cases, or_left, or_right}
use Rattle.lists.specs.Stretch.{stretch}
use Rattle.signal.specs.Truth.{lit, holds}
use Rattle.formula.specs.Conjunction.{opposite}
use Rattle.formula.proofs.Valued.{lit_opposite}
use Rattle.question.specs.Clauses.{and_clauses}
use Rattle.question.specs.Meaning.{AllHold}
use Rattle.question.proofs.Literals.{lit_next}

-- ---- one literal
or_none : (b : Bool) → (b || false) ≡ b
or_none true = refl
or_none false = refl

pub unit_tells : (α : ℕ → Bool) (x : ℕ) → holds α (x ∷ []) ≡ true → lit α x ≡ true
unit_tells α x h = sym (or_none (lit α x)) ∙ h

pub unit_from : (α : ℕ → Bool) (x : ℕ) → lit α x ≡ true → holds α (x ∷ []) ≡ true
unit_from α x h = or_none (lit α x) ∙ h

-- ---- a gate and its three clauses
abbrev Three : Bool → Bool → Bool → Type 0
Three a b j = ((a || (not j || false)) ≡ true) × ((b || (not j || false)) ≡ true) × ((not b || (not a || (j || false))) ≡ true)

three_tell : (a b j : Bool) → Three a b j → j ≡ (a && b)
three_tell true true true h = refl
three_tell true true false h = absurd (false≢true h.2)
three_tell true false true h = absurd (false≢true h.1)
three_tell true false false h = refl
three_tell false b true h = absurd (false≢true h.0)
three_tell false b false h = refl

three_from : (a b : Bool) → Three a b (a && b)
three_from true true = (refl, refl, refl)
three_from true false = (refl, refl, refl)
three_from false true = (refl, refl, refl)
three_from false false = (refl, refl, refl)

or_same : {a b c d : Bool} → a ≡ c → b ≡ d → (a || (b || false)) ≡ (c || (d || false))
or_same p q = cc

or_same_3 : {a b c d e f : Bool} → a ≡ d → b ≡ e → c ≡ f → (a || (b || (c || false))) ≡ (d || (e || (f || false)))
or_same_3 p q r = cc

module _ (α : ℕ → Bool) (x p q : ℕ) (even : x % 2 ≡ 0) where
  left_is : holds α (p ∷ (x + 1) ∷ []) ≡ (lit α p || (not (lit α x) || false))
  left_is = or_same refl (lit_next α x even)

  right_is : holds α (q ∷ (x + 1) ∷ []) ≡ (lit α q || (not (lit α x) || false))
  right_is = or_same refl (lit_next α x even)

  own_is : holds α (opposite q ∷ opposite p ∷ x ∷ []) ≡ (not (lit α q) || (not (lit α p) || (lit α x || false)))
  own_is = or_same_3 (lit_opposite α q) (lit_opposite α p) refl

  pub and_tells : AllHold α (and_clauses x p q) → lit α x ≡ (lit α p && lit α q)
  and_tells h =
      three_tell (lit α p) (lit α q) (lit α x) (sym left_is ∙ h.0, sym right_is ∙ h.1.0, sym own_is ∙ h.1.1.0)

  pub and_from : lit α x ≡ (lit α p && lit α q) → AllHold α (and_clauses x p q)
  and_from is =
      let h = subst (Three (lit α p) (lit α q)) (sym is) (three_from (lit α p) (lit α q)) in
      (left_is ∙ h.0, (right_is ∙ h.1, (own_is ∙ h.2, tt)))

-- ---- two literals with the same value, and their two clauses
abbrev Two : Bool → Bool → Type 0
Two a b = ((a || (not b || false)) ≡ true) × ((not a || (b || false)) ≡ true)

two_tell : (a b : Bool) → Two a b → b ≡ a
two_tell true true h = refl
two_tell true false h = absurd (false≢true h.1)
two_tell false true h = absurd (false≢true h.0)
two_tell false false h = refl

two_from : (a : Bool) → Two a a
two_from true = (refl, refl)
two_from false = (refl, refl)

-- literals x and y, and their negations x' and y'
module _ (α : ℕ → Bool) (x x' y y' : ℕ) (other : lit α x' ≡ not (lit α x)) (odd : lit α y' ≡ not (lit α y)) where
  on_is : holds α (x ∷ y' ∷ []) ≡ (lit α x || (not (lit α y) || false))
  on_is = or_same refl odd

  off_is : holds α (x' ∷ y ∷ []) ≡ (not (lit α x) || (lit α y || false))
  off_is = or_same other refl

  pub same_tells : AllHold α ((x ∷ y' ∷ []) ∷ (x' ∷ y ∷ []) ∷ []) → lit α y ≡ lit α x
  same_tells h = two_tell (lit α x) (lit α y) (sym on_is ∙ h.0, sym off_is ∙ h.1.0)

  pub same_from : lit α y ≡ lit α x → AllHold α ((x ∷ y' ∷ []) ∷ (x' ∷ y ∷ []) ∷ [])
  same_from is = let h = subst (Two (lit α x)) (sym is) (two_from (lit α x)) in (on_is ∙ h.0, (off_is ∙ h.1, tt))

-- ---- a clause with one literal for each of n indices
module _ (α : ℕ → Bool) (f : ℕ → ℕ) where
  pub some_tells : (n i : ℕ) → holds α (stretch (λ t. f t ∷ []) i n) ≡ true → (t : ℕ) × (i ≤ t) × (t < i + n) × (lit α (f t) ≡ true)
  some_tells zero i h = absurd (false≢true h)
  some_tells (suc n) i h =
      ⊎_elim
      (λ e. (i, omega arith, omega arith, e))
      (λ e. let r = some_tells n (i + 1) e in (r.0, omega (arith, r.1), omega (arith, r.2), r.3))
      (or_cases (lit α (f i)) (holds α (stretch (λ t. f t ∷ []) (i + 1) n)) h)

  pub some_from : (n i t : ℕ) → i ≤ t → t < i + n → lit α (f t) ≡ true → holds α (stretch (λ t. f t ∷ []) i n) ≡ true
  some_from zero i t a b h = absurd (omega arith)
  some_from (suc n) i t a b h =
      let rest : Bool = holds α (stretch (λ t. f t ∷ []) (i + 1) n) in
      ⊎_elim
      (λ (e : t ≡ i). or_left (lit α (f i)) rest (sym (ap (λ j. lit α (f j)) e) ∙ h))
      (λ (e : t ≡ i → ⊥). or_right (lit α (f i)) rest (some_from n (i + 1) t (omega arith) (omega arith) h))
      (cases_eq t i)
