-- The values of a sheet's nodes are the only ones that fit its gates. Assumes nothing.
use Rattle.std.proofs.Common.{◌≡◌, ℕ, ◌-◌, ◌/◌, ◌<◌, ◌≤◌, Bool, false, ◌&&◌, List, sym, refl, ap, ◌∙◌, ⊎_elim, arith}
use Rattle.std.proofs.lemmas.Bool.{cond-true, cond-false, eq-eqb, ne_eqb, le-leb, lt-leb, cases_lt, cases_eq}
use Rattle.sheet.specs.Sheets.{Sheet, Legal, sheet_of}
use Rattle.signal.specs.Truth.{lit}
use Rattle.machine.specs.Fits.{input_at, latch_at, nodes, Settled, ValuesFit}
use Rattle.machine.specs.Values.{fed, first_gate, gate_at, values}
use Rattle.machine.proofs.Chains.{Climbs, chain_below, chain_gate, chain_only}

-- each gate is above its left operand, and that is above its right one
pub record Ascends (s : Sheet) : Type 0 where
  pub lefts : (g : ℕ) → g < s.gates → s.left g / 2 < gate_at s g
  pub rights : (g : ℕ) → g < s.gates → s.right g / 2 < s.left g / 2

pub legal_ascends : (l : List ℕ) → Legal l → Ascends (sheet_of l)
legal_ascends l legal = record { lefts = legal.lefts; rights = legal.rights }

module _ (s : Sheet) (c x : ℕ → Bool) where
  -- before any gate
  fed_constant : fed s c x 0 ≡ false
  fed_constant = refl

  fed_input : (i : ℕ) → i < s.inputs → fed s c x (input_at s i) ≡ x i
  fed_input i h =
      let ne : input_at s i ≡ 0 → ⊥ = λ z. omega arith in
      let p : input_at s i - 1 ≡ i = omega arith in
      let low : input_at s i ≤ s.inputs = omega arith in
      cond-false _ _ _ (ne_eqb _ _ ne) ∙ cond-true _ _ _ (le-leb _ _ low) ∙ ap x p

  fed_latch : (i : ℕ) → fed s c x (latch_at s i) ≡ c i
  fed_latch i =
      let ne : latch_at s i ≡ 0 → ⊥ = λ z. omega arith in
      let p : latch_at s i - 1 - s.inputs ≡ i = omega arith in
      let high : s.inputs < latch_at s i = omega arith in
      cond-false _ _ _ (ne_eqb _ _ ne) ∙ cond-false _ _ _ (lt-leb _ _ high) ∙ ap c p

  module _ (up : Ascends s) where
    climbs : Climbs (first_gate s) s.left s.right s.gates
    climbs =
        record {
          lefts = up.lefts;
          rights = λ g h.
              let a : s.left g / 2 < gate_at s g = up.lefts g h in
              let b : s.right g / 2 < s.left g / 2 = up.rights g h in
              omega arith;
        }

    before : (j : ℕ) → j < first_gate s → values s c x j ≡ fed s c x j
    before j h = chain_below (first_gate s) s.left s.right (fed s c x) s.gates j h

    -- the values fit
    pub settled : Settled s c x (values s c x)
    settled =
        record {
          constant = before 0 (omega arith) ∙ fed_constant;
          inputs = λ i h. before (input_at s i) (omega arith) ∙ fed_input i h;
          latches = λ i h. before (latch_at s i) (omega arith) ∙ fed_latch i;
          gates = chain_gate (first_gate s) s.left s.right (fed s c x) s.gates climbs;
        }

    settled_fed : (v : ℕ → Bool) → Settled s c x v → (j : ℕ) → j < first_gate s → v j ≡ fed s c x j
    settled_fed v ok j h =
        ⊎_elim
        (λ (e : j ≡ 0). ap v e ∙ ok.constant ∙ sym (cond-true _ _ _ (eq-eqb _ _ e)))
        (λ (e : j ≡ 0 → ⊥).
        ⊎_elim
        (λ (l : s.inputs < j).
        let p : latch_at s (j - 1 - s.inputs) ≡ j = omega arith in
        ap v (sym p) ∙ ok.latches (j - 1 - s.inputs) (omega arith)
        ∙ sym (cond-false _ _ _ (ne_eqb _ _ e) ∙ cond-false _ _ _ (lt-leb _ _ l)))
        (λ (l : j ≤ s.inputs).
        let p : input_at s (j - 1) ≡ j = omega arith in
        ap v (sym p) ∙ ok.inputs (j - 1) (omega arith)
        ∙ sym (cond-false _ _ _ (ne_eqb _ _ e) ∙ cond-true _ _ _ (le-leb _ _ l)))
        (cases_lt s.inputs j))
        (cases_eq j 0)

    -- and no others do
    pub only_settled : (v : ℕ → Bool) → Settled s c x v → (j : ℕ) → j < nodes s → v j ≡ values s c x j
    only_settled v ok j h =
        chain_only (first_gate s) s.left s.right (fed s c x) s.gates climbs v (settled_fed v ok) ok.gates j h

pub values_fit : (s : Sheet) → Ascends s → ValuesFit s
values_fit s up = record { fit = λ c x. settled s c x up; alone = λ c x. only_settled s c x up }

-- values that fit the gates are those of the bits that they have at the latches and the inputs
pub agree : (s : Sheet) → Ascends s → (v : ℕ → Bool) → v 0 ≡ false
    → ((g : ℕ) → g < s.gates → v (gate_at s g) ≡ (lit v (s.left g) && lit v (s.right g)))
    → (j : ℕ) → j < nodes s → v j ≡ values s (λ i. v (latch_at s i)) (λ i. v (input_at s i)) j
agree s up v none each =
    only_settled s (λ i. v (latch_at s i)) (λ i. v (input_at s i)) up v
    (record { constant = none; inputs = λ i h. refl; latches = λ i h. refl; gates = each })
