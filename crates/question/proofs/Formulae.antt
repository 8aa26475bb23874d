-- Values of formulas are the only ones that fit their gates. Assumes nothing.
use Rattle.std.proofs.Common.{◌≡◌, ℕ, ◌+◌, ◌-◌, ◌/◌, ◌<◌, ◌≤◌, Bool, false, cond, ◌&&◌, ltb, List, sym, ap, ◌∙◌, inl, inr, ⊎_elim, arith}
use Rattle.std.proofs.lemmas.Bool.{cond-true, cond-false, ne_eqb, lt-ltb, le-ltb}
use Rattle.sheet.specs.Sheets.{Sheet}
use Rattle.signal.specs.Truth.{lit}
use Rattle.machine.proofs.Chains.{Climbs, lit_same, both_same, chain_below, chain_gate, chain_only}
use Rattle.formula.specs.Formulas.{width, left_of, right_of, held, nodes_at, value_at, Named, Formula, Gates}

-- values that fit n formula gates at the latch bits c
pub record Rooted (s : Sheet) (f : List ℕ) (n : ℕ) (c u : ℕ → Bool) : Type 0 where
  pub constant : u 0 ≡ false
  pub latches : (i : ℕ) → i < s.latches → u (1 + s.inputs + i) ≡ c i
  pub gates : (g : ℕ) → g < n → u (width s + g) ≡ (lit u (left_of f g) && lit u (right_of f g))

module _ (s : Sheet) where
  abbrev w : ℕ
  w = width s

  pub named_low : (n j : ℕ) → Named s n j → j < w + n
  named_low n j = ⊎_elim (λ (a : (s.inputs < j) × (j ≤ s.inputs + s.latches)). omega arith) (λ (a : (w ≤ j) × (j < w + n)). a.1)

  pub named_more : (g n j : ℕ) → g ≤ n → Named s g j → Named s n j
  named_more g n j h =
      ⊎_elim (λ (a : (s.inputs < j) × (j ≤ s.inputs + s.latches)). inl a) (λ (a : (w ≤ j) × (j < w + g)). inr (a.0, omega arith))

  held_latch : (c : ℕ → Bool) (i : ℕ) → held s c (1 + s.inputs + i) ≡ c i
  held_latch c i =
      let ne : 1 + s.inputs + i ≡ 0 → ⊥ = λ z. omega arith in
      let at : 1 + s.inputs + i - 1 - s.inputs ≡ i = omega arith in
      cond-false _ _ _ (ne_eqb _ _ ne) ∙ ap c at

  module _ (f : List ℕ) (n : ℕ) (gates : Gates s f n) where
    climbs : Climbs w (left_of f) (right_of f) n
    climbs =
        record {
          lefts = λ g h. named_low g (left_of f g / 2) (gates.lefts g h);
          rights = λ g h. named_low g (right_of f g / 2) (gates.rights g h);
        }

    -- the values fit
    pub nodes_rooted : (c : ℕ → Bool) → Rooted s f n c (nodes_at s f n c)
    nodes_rooted c =
        let below = chain_below w (left_of f) (right_of f) (held s c) n in
        record {
          constant = below 0 (omega arith);
          latches = λ i h. below (1 + s.inputs + i) (omega arith) ∙ held_latch c i;
          gates = chain_gate w (left_of f) (right_of f) (held s c) n climbs;
        }

    -- values that fit, at the nodes that formulas name
    module _ (c u : ℕ → Bool) (rooted : Rooted s f n c u) where
      -- the same, with what the state says at every node of the sheet
      abbrev filled : ℕ → Bool
      filled j = cond (ltb j w) (held s c j) (u j)

      filled_high : (j : ℕ) → w ≤ j → filled j ≡ u j
      filled_high j h = cond-false _ _ _ (le-ltb _ _ h)

      filled_named : (j : ℕ) → Named s n j → filled j ≡ u j
      filled_named j =
          ⊎_elim
          (λ (a : (s.inputs < j) × (j ≤ s.inputs + s.latches)).
          let at : 1 + s.inputs + (j - 1 - s.inputs) ≡ j = omega arith in
          let low : j < w = omega arith in
          let ne : j ≡ 0 → ⊥ = λ z. omega arith in
          cond-true _ _ _ (lt-ltb _ _ low) ∙ cond-false _ _ _ (ne_eqb _ _ ne) ∙ sym (rooted.latches (j - 1 - s.inputs) (omega arith)) ∙ ap u at)
          (λ (a : (w ≤ j) × (j < w + n)). filled_high j a.0)

      filled_gate : (g : ℕ) → g < n → filled (w + g) ≡ (lit filled (left_of f g) && lit filled (right_of f g))
      filled_gate g h =
          let same : (x : ℕ) → Named s g (x / 2) → lit u x ≡ lit filled x =
          λ x is. lit_same u filled x (sym (filled_named (x / 2) (named_more g n (x / 2) (omega arith) is))) in
          filled_high (w + g) (omega arith) ∙ rooted.gates g h
          ∙ both_same (same (left_of f g) (gates.lefts g h)) (same (right_of f g) (gates.rights g h))

      nodes_only : (j : ℕ) → j < w + n → filled j ≡ nodes_at s f n c j
      nodes_only = chain_only w (left_of f) (right_of f) (held s c) n climbs filled (λ j h. cond-true _ _ _ (lt-ltb _ _ h)) filled_gate

      pub rooted_value : (x : ℕ) → Formula s n x → lit u x ≡ value_at s f n c x
      rooted_value x is =
          lit_same u (nodes_at s f n c) x
          (⊎_elim
          (λ (z : x / 2 ≡ 0). ap u z ∙ rooted.constant ∙ sym (ap (nodes_at s f n c) z ∙ (nodes_rooted c).constant))
          (λ (a : Named s n (x / 2)). sym (filled_named (x / 2) a) ∙ nodes_only (x / 2) (named_low n (x / 2) a))
          is)

    -- values fit if they are such values at the nodes that formulas name
    pub rooted_like : (c u v : ℕ → Bool) → u 0 ≡ v 0 → ((i : ℕ) → i < s.latches → u (1 + s.inputs + i) ≡ v (1 + s.inputs + i))
        → ((g : ℕ) → g < n → u (w + g) ≡ v (w + g)) → Rooted s f n c v → Rooted s f n c u
    rooted_like c u v zero latches same rooted =
        let named : (j : ℕ) → Named s n j → u j ≡ v j =
        λ j. ⊎_elim
        (λ (a : (s.inputs < j) × (j ≤ s.inputs + s.latches)).
        let at : 1 + s.inputs + (j - 1 - s.inputs) ≡ j = omega arith in
        ap u (sym at) ∙ latches (j - 1 - s.inputs) (omega arith) ∙ ap v at)
        (λ (a : (w ≤ j) × (j < w + n)).
        let at : w + (j - w) ≡ j = omega arith in
        ap u (sym at) ∙ same (j - w) (omega arith) ∙ ap v at) in
        let lits : (g x : ℕ) → g < n → Named s g (x / 2) → lit v x ≡ lit u x =
        λ g x h is. lit_same v u x (sym (named (x / 2) (named_more g n (x / 2) (omega arith) is))) in
        record {
          constant = zero ∙ rooted.constant;
          latches = λ i h. latches i h ∙ rooted.latches i h;
          gates = λ g h. same g h ∙ rooted.gates g h ∙ both_same (lits g (left_of f g) h (gates.lefts g h)) (lits g (right_of f g) h (gates.rights g h));
        }
