-- A step at any kind of signal covers the steps of the machine: what the signals may be before it, their next ones may be after
-- it. Assumes nothing.
use Rattle.std.proofs.Common.{◌≡◌, ℕ, zero, suc, ◌+◌, ◌-◌, ◌/◌, ◌%◌, ◌<◌, ◌≤◌, Bool, true, false, cond, not, eqb, List, ◌++◌, length, get_or, replicate, sym, ap, ◌∙◌, ⊎_elim, arith}
use Rattle.std.proofs.lemmas.List.FromFn.{length-map-range_with_len, get_or-map-range_with_len}
use Rattle.std.proofs.lemmas.List.{get_or_append_left, get_or-append_right, length-append, length-replicate}
use Rattle.std.proofs.lemmas.Bool.{cases_lt}
use Rattle.sheet.specs.Sheets.{Legal, sheet_of, input_count, latch_count, gate_count, bad_of, next_of, literal_limit, gate_node, node_count, gate_pairs}
use Rattle.signal.specs.Circuit.{Ops, node_of}
use Rattle.signal.specs.Covers.{CoversTo}
use Rattle.signal.specs.Sets.{nots}
use Rattle.signal.specs.Sound.{Sound}
use Rattle.signal.specs.Truth.{lit}
use Rattle.signal.proofs.Cover.{covers_gated}
use Rattle.signal.proofs.Fixed.{length_gates}
use Rattle.machine.specs.Fits.{Settled}
use Rattle.machine.specs.Simulate.{fed_signals, node_signals, step_signals, MayBe, CoversStep}
use Rattle.machine.specs.Values.{values}
use Rattle.machine.proofs.Operands.{operands_length, operands_ordered, values_gated}
use Rattle.machine.proofs.Values.{legal_ascends, settled}

nots_has : (p : Bool → Bool) (b : Bool) → p b ≡ true → nots p (not b) ≡ true
nots_has p true h = h
nots_has p false h = h

module _ {S : Type 0} {o : Ops S} (may : S → ℕ → Bool → Bool) (i : ℕ) (sound : Sound o (λ x. may x i)) where
  may_phased : (even : Bool) (x : S) (a : Bool) → may x i a ≡ true → may (cond even x (o.negation x)) i (cond even a (not a)) ≡ true
  may_phased true x a h = h
  may_phased false x a h = sound.negation x (not a) ∙ nots_has (λ b. may x i b) a h

  -- a literal of signals that may be given bits may be the literal of the bits
  pub may_literal_of : (xs : List S) (v : ℕ → Bool) (y : ℕ) → MayBe may i xs v → y / 2 < length xs → may (node_of o xs y) i (lit v y) ≡ true
  may_literal_of xs v y h within =
      may_phased (eqb (y % 2) 0) (get_or xs (y / 2) (o.known false)) (v (y / 2)) (h (y / 2) (o.known false) within)

  module _ (l : List ℕ) (legal : Legal l) (inputs state : List S) (many : length inputs ≡ input_count l) (wide : length state ≡ latch_count l) where
    pub nodes_length : length (node_signals o l inputs state) ≡ node_count l
    nodes_length =
        length_gates o (gate_pairs l) (gate_node l 0) (fed_signals o l inputs state)
        ∙ simp (length-append, length-replicate) (omega arith)

    module _ (c x : ℕ → Bool) (at-latches : MayBe may i state c) (at_inputs : MayBe may i inputs x) where
      -- the values of the nodes at these bits
      abbrev v : ℕ → Bool
      v = values (sheet_of l) c x

      fit : Settled (sheet_of l) c x v
      fit = settled (sheet_of l) c x (legal_ascends l legal)

      at_latch : (j : ℕ) (d : S) → input_count l ≤ j → j < input_count l + latch_count l
          → may (get_or (inputs ++ (state ++ replicate (gate_count l) (o.known false))) j d) i (v (suc j)) ≡ true
      at_latch j d low high =
          let k = j - input_count l in
          let within : k < length state = omega arith in
          let node : 1 + input_count l + k ≡ suc j = omega arith in
          let bit : v (suc j) ≡ c k = ap v (sym node) ∙ fit.latches k (omega arith) in
          let place = get_or-append_right inputs (state ++ replicate (gate_count l) (o.known false)) (input_count l) j d many low in
          let there = get_or_append_left state (replicate (gate_count l) (o.known false)) d k within in
          rw (bit, place, there) (at-latches k d within)

      at_input : (j : ℕ) (d : S) → j < input_count l
          → may (get_or (inputs ++ (state ++ replicate (gate_count l) (o.known false))) j d) i (v (suc j)) ≡ true
      at_input j d low =
          let within : j < length inputs = omega arith in
          let node : 1 + j ≡ suc j = omega arith in
          let bit : v (suc j) ≡ x j = ap v (sym node) ∙ fit.inputs j low in
          let there = get_or_append_left inputs (state ++ replicate (gate_count l) (o.known false)) d j within in
          rw (bit, there) (at_inputs j d within)

      fed_covers : CoversTo may i (gate_node l 0) (fed_signals o l inputs state) v
      fed_covers zero d low within = rw fit.constant (sound.known false false)
      fed_covers (suc j) d low within =
          ⊎_elim (at_input j d) (λ (h : input_count l ≤ j). at_latch j d h (omega arith)) (cases_lt j (input_count l))

      pub nodes_cover : MayBe may i (node_signals o l inputs state) v
      nodes_cover k d within =
          covers_gated may i sound v (gate_pairs l) (gate_node l 0) (fed_signals o l inputs state)
          (operands_ordered l legal) (values_gated l legal c x) fed_covers
          k d (omega (arith, operands_length l legal, nodes_length)) within

      literal_covers : (y : ℕ) → y ≤ literal_limit l → may (node_of o (node_signals o l inputs state) y) i (lit v y) ≡ true
      literal_covers y h = may_literal_of (node_signals o l inputs state) v y nodes_cover (omega (arith, nodes_length))

      pub step_covers : CoversStep may i (sheet_of l) c x (step_signals o l inputs state).0 (step_signals o l inputs state).1
      step_covers =
          let next : ℕ → S = λ k. node_of o (node_signals o l inputs state) (next_of l k) in
          let long = length-map-range_with_len next 0 (latch_count l) in
          record {
            bad = literal_covers (bad_of l) legal.bad_literal;
            sized = long;
            latches = λ k d within.
                let low : k < latch_count l = omega (arith, long) in
                rw (get_or-map-range_with_len next 0 (latch_count l) k k d low (omega arith)) (literal_covers (next_of l k) (legal.next_literals k low));
          }
