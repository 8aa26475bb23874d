-- AND gates in a chain, each over lower nodes: their values fit, and no others do. Assumes nothing.
use Rattle.std.proofs.Common.{◌≡◌, ℕ, zero, suc, ◌+◌, ◌-◌, ◌/◌, ◌%◌, ◌<◌, ◌≤◌, Bool, cond, not, ◌&&◌, eqb, sym, refl, ap, ◌∙◌, ⊎_elim, arith}
use Rattle.std.proofs.lemmas.Bool.{cond-true, cond-false, eq-eqb, ne_eqb, cases_eq}
use Rattle.signal.specs.Truth.{lit}
use Rattle.machine.specs.Values.{chain}

-- a literal has its value from its node alone
pub lit_same : (v w : ℕ → Bool) (x : ℕ) → v (x / 2) ≡ w (x / 2) → lit v x ≡ lit w x
lit_same v w x e = ap (λ b. cond (eqb (x % 2) 0) b (not b)) e

pub both_same : {a b c d : Bool} → a ≡ c → b ≡ d → (a && b) ≡ (c && d)
both_same p q = cc

-- each of n gates is above both of its operands
pub record Climbs (first : ℕ) (left right : ℕ → ℕ) (n : ℕ) : Type 0 where
  pub lefts : (g : ℕ) → g < n → left g / 2 < first + g
  pub rights : (g : ℕ) → g < n → right g / 2 < first + g

pub climbs_less : (first : ℕ) (left right : ℕ → ℕ) (m n : ℕ) → m ≤ n → Climbs first left right n → Climbs first left right m
climbs_less first left right m n h up =
    record { lefts = λ g k. up.lefts g (omega arith); rights = λ g k. up.rights g (omega arith) }

module _ (first : ℕ) (left right : ℕ → ℕ) (v : ℕ → Bool) where
  -- a later gate changes no earlier node
  keeps : (n g j : ℕ) → j < first + g → chain first left right v (g + n) j ≡ chain first left right v g j
  keeps zero g j h = let z : g + 0 ≡ g = omega arith in ap (λ m. chain first left right v m j) z
  keeps (suc n) g j h =
      let z : g + suc n ≡ suc (g + n) = omega arith in
      let ne : j ≡ first + (g + n) → ⊥ = λ e. omega arith in
      ap (λ m. chain first left right v m j) z ∙ cond-false _ _ _ (ne_eqb _ _ ne) ∙ keeps n g j h

  pub chain_kept : (n g j : ℕ) → g ≤ n → j < first + g → chain first left right v n j ≡ chain first left right v g j
  chain_kept n g j m h =
      let z : n ≡ g + (n - g) = omega arith in
      ap (λ k. chain first left right v k j) z ∙ keeps (n - g) g j h

  pub chain_below : (n j : ℕ) → j < first → chain first left right v n j ≡ v j
  chain_below n j h = chain_kept n 0 j (omega arith) (omega arith)

  -- the values fit
  pub chain_gate : (n : ℕ) → Climbs first left right n → (g : ℕ) → g < n
      → chain first left right v n (first + g) ≡ (lit (chain first left right v n) (left g) && lit (chain first left right v n) (right g))
  chain_gate n up g h =
      let w = chain first left right v n in
      let u = chain first left right v g in
      let same : (y : ℕ) → y / 2 < first + g → lit u y ≡ lit w y =
      λ y l. lit_same u w y (sym (chain_kept n g (y / 2) (omega arith) l)) in
      chain_kept n (suc g) (first + g) (omega arith) (omega arith)
      ∙ cond-true (eqb (first + g) (first + g)) _ (u (first + g)) (eq-eqb (first + g) (first + g) refl)
      ∙ both_same (same (left g) (up.lefts g h)) (same (right g) (up.rights g h))

  -- and no others do
  pub chain_only : (n : ℕ) → Climbs first left right n → (u : ℕ → Bool) → ((j : ℕ) → j < first → u j ≡ v j)
      → ((g : ℕ) → g < n → u (first + g) ≡ (lit u (left g) && lit u (right g)))
      → (j : ℕ) → j < first + n → u j ≡ chain first left right v n j
  chain_only zero up u base each j h = base j (omega arith)
  chain_only (suc n) up u base each j h =
      let w = chain first left right v n in
      let low = chain_only n (climbs_less first left right n (suc n) (omega arith) up) u base (λ g k. each g (omega arith)) in
      let same : (y : ℕ) → y / 2 < first + n → lit u y ≡ lit w y = λ y l. lit_same u w y (low (y / 2) l) in
      ⊎_elim
      (λ (e : j ≡ first + n).
      ap u e ∙ each n (omega arith) ∙ both_same (same (left n) (up.lefts n (omega arith))) (same (right n) (up.rights n (omega arith)))
      ∙ sym (cond-true _ _ _ (eq-eqb _ _ e)))
      (λ (e : j ≡ first + n → ⊥). low j (omega arith) ∙ sym (cond-false _ _ _ (ne_eqb _ _ e)))
      (cases_eq j (first + n))
