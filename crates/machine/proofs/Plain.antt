-- At plain bits a step is the machine's own. Assumes nothing.
use Rattle.std.proofs.Common.{◌≡◌, ℕ, ◌<◌, Bool, true, false, cond, not, ◌&&◌, List, length, get_or, IfOk, Result, sym, refl, subst, ⊎_elim, arith}
use Rattle.std.proofs.lemmas.List.{get_or_default}
use Rattle.std.proofs.lemmas.Bool.{cases_Bool, cases_eq, not-true}
use Rattle.lists.specs.Counted.{counted, on_counted}
use Rattle.sheet.specs.Render.{well_formed}
use Rattle.sheet.specs.Sheets.{Sheet, Legal, sheet_of, input_count, latch_count, node_count}
use Rattle.sheet.specs.declared.fault.Fault.{Fault}
use Rattle.sheet.proofs.Legality.{well_formed_legal}
use Rattle.signal.specs.Kinds.{bit_ops, may_bit}
use Rattle.signal.specs.Sets.{exactly, nots, ands}
use Rattle.signal.specs.Sound.{Sound}
use Rattle.signal.proofs.Cover.{exactly_self}
use Rattle.machine.specs.Simulate.{node_signals, step_signals, simulated, MayBe, CoversStep, IsStep}
use Rattle.machine.specs.Values.{values}
use Rattle.machine.proofs.Covered.{nodes_length, nodes_cover, step_covers}
use Rattle.machine.proofs.Refusals.{not_legal, not_a_state, not_inputs, stepped_by}

exactly_same : (a b : Bool) → exactly a b ≡ true → a ≡ b
exactly_same true b h = sym h
exactly_same false b h = sym (not-true b h)

bits_sound : Sound bit_ops (λ x. may_bit x 0)
bits_sound = record { known = λ b c. refl; reading = reads; negation = negates; conjunction = joins }
  where
    reads : (b c : Bool) → exactly (bit_ops.reading (cond b 1 0)) c ≡ exactly b c
    reads true c = refl
    reads false c = refl

    negates : (x c : Bool) → exactly (not x) c ≡ nots (exactly x) c
    negates true true = refl
    negates true false = refl
    negates false true = refl
    negates false false = refl

    joins : (x y c : Bool) → exactly (x && y) c ≡ ands (exactly x) (exactly y) c
    joins true true true = refl
    joins true true false = refl
    joins true false true = refl
    joins true false false = refl
    joins false true true = refl
    joins false true false = refl
    joins false false true = refl
    joins false false false = refl

-- the bits of a list, as a function of the place
abbrev pub bit_at : List Bool → ℕ → Bool
bit_at xs k = get_or xs k false

bits_may : (xs : List Bool) → MayBe may_bit 0 xs (bit_at xs)
bits_may xs k d within = rw (get_or_default xs k d false within) (exactly_self (bit_at xs k))

-- signals that cover the one choice of bits are these bits
pub plain_step : (s : Sheet) (state inputs : List Bool) (r : Bool) (next : List Bool) → length state ≡ s.latches → length inputs ≡ s.inputs
    → CoversStep may_bit 0 s (bit_at state) (bit_at inputs) r next → IsStep s state inputs r next
plain_step s state inputs r next wide many covered =
    record {
      frame = record { state = record { bits = state; sized = wide }; inputs = record { bits = inputs; sized = many } };
      state = record { bits = next; sized = covered.sized };
      from_state = refl;
      at_inputs = refl;
      to_state = refl;
      follows = λ i h. exactly_same _ _ (covered.latches i false (omega (arith, covered.sized)));
      tells_bad = exactly_same _ _ covered.bad;
    }

module _ (l : List ℕ) (legal : Legal l) (inputs state : List Bool) (many : length inputs ≡ input_count l) (wide : length state ≡ latch_count l) where
  -- the bits of the nodes are their values
  pub bits_are_values : (j : ℕ) → j < node_count l → get_or (node_signals bit_ops l inputs state) j false ≡ values (sheet_of l) (bit_at state) (bit_at inputs) j
  bits_are_values j h =
      exactly_same _ _ (nodes_cover may_bit 0 bits_sound l legal inputs state many wide (bit_at state) (bit_at inputs) (bits_may state) (bits_may inputs) j false
      (omega (arith, nodes_length may_bit 0 bits_sound l legal inputs state many wide)))

  pub bits_step : IsStep (sheet_of l) state inputs (step_signals bit_ops l inputs state).0 (step_signals bit_ops l inputs state).1
  bits_step =
      plain_step (sheet_of l) state inputs _ _ wide many
      (step_covers may_bit 0 bits_sound l legal inputs state many wide (bit_at state) (bit_at inputs) (bits_may state) (bits_may inputs))

-- what a call on lent bits answers and leaves is a step, unless it refuses
module _ (l : List ℕ) (inputs state : List Bool) where
  abbrev Made : Result Bool Fault × List Bool → Type 0
  Made p = IfOk p.0 (λ bad. IsStep (sheet_of l) state inputs bad p.1)

  abbrev answer : Result Bool Fault × List Bool
  answer = on_counted (simulated bit_ops l (counted inputs)) state

  module _ (formed : well_formed l ≡ true) where
    at_sizes : length state ≡ latch_count l → length inputs ≡ input_count l → Made answer
    at_sizes wide many =
        subst Made (stepped_by bit_ops l inputs state formed wide many) (bits_step l (well_formed_legal l formed) inputs state many wide)

    at_state : length state ≡ latch_count l → Made answer
    at_state wide =
        ⊎_elim (at_sizes wide) (λ fails. subst Made (not_inputs bit_ops l inputs state formed wide fails) tt)
        (cases_eq (length inputs) (input_count l))

    at_legal : Made answer
    at_legal =
        ⊎_elim at_state (λ fails. subst Made (not_a_state bit_ops l inputs state formed fails) tt)
        (cases_eq (length state) (latch_count l))

  pub lent_step : (r : Result Bool Fault) (next : List Bool) → (r, next) ≡ answer → Made (r, next)
  lent_step r next is =
      subst Made (sym is)
      (⊎_elim at_legal (λ fails. subst Made (not_legal bit_ops l inputs state fails) tt) (cases_Bool (well_formed l)))
