-- The ways through a step of lent lists: each refusal, and the step. Assumes nothing.
use Rattle.std.proofs.Common.{◌≡◌, ℕ, ◌^◌, ◌≤◌, Bool, true, false, eqb, List, ◌++◌, length, Ok, Err, Result, sym, ap, ◌∙◌, subst, arith, length-take}
use Rattle.std.proofs.lemmas.List.{append-nil, take-append-drop}
use Rattle.std.proofs.lemmas.Bool.{cond-true, cond-false, eq-eqb, ne_eqb}
use Rattle.lists.specs.Counted.{counted, uncounted, on_counted}
use Rattle.sheet.specs.Render.{well_formed}
use Rattle.sheet.specs.Sheets.{Legal, sheet_of, input_count, latch_count}
use Rattle.sheet.specs.declared.fault.Cause.TheVariants.{NotLegal, WrongCount}
use Rattle.sheet.specs.declared.fault.Fault.{Fault}
use Rattle.sheet.proofs.Legality.{well_formed_legal}
use Rattle.signal.specs.Circuit.{Ops}
use Rattle.signal.specs.Sound.{Sound}
use Rattle.machine.specs.Faults.{refusal}
use Rattle.machine.specs.Simulate.{step_signals, simulated, MayBe, CoversStep}
use Rattle.machine.proofs.Covered.{step_covers}
use Rattle.machine.proofs.Feeding.{whole}

-- a list has a small number of places exactly if so many count
sized : {X : Type 0} (xs : List X) (n : ℕ) → n ≤ 24 → length xs ≡ n → eqb (length (counted xs)) n ≡ true
sized xs n few is = eq-eqb _ _ (omega (arith, length-take (2 ^ 28) xs))

missized : {X : Type 0} (xs : List X) (n : ℕ) → n ≤ 24 → (length xs ≡ n → ⊥) → eqb (length (counted xs)) n ≡ false
missized xs n few isnt = ne_eqb _ _ (λ e. isnt (omega (arith, length-take (2 ^ 28) xs)))

module _ {S : Type 0} (o : Ops S) (l : List ℕ) (inputs state : List S) where
  -- what the call answers, and leaves in the lent state
  abbrev answer : Result S Fault × List S
  answer = on_counted (simulated o l (counted inputs)) state

  kept : (e : Fault) → simulated o l (counted inputs) (counted state) ≡ (Err e, counted state) → (Err e, state) ≡ answer
  kept e is =
      sym (ap (λ p. (p.0, p.1 ++ uncounted state)) is ∙ ap (λ xs. (Err e, xs)) (take-append-drop (2 ^ 28) state))

  pub not_legal : well_formed l ≡ false → (Err (refusal NotLegal 0), state) ≡ answer
  not_legal fails = kept (refusal NotLegal 0) (cond-false _ _ _ fails)

  module _ (formed : well_formed l ≡ true) where
    legal : Legal l
    legal = well_formed_legal l formed

    pub not_a_state : (length state ≡ latch_count l → ⊥) → (Err (refusal WrongCount 0), state) ≡ answer
    not_a_state fails =
        kept (refusal WrongCount 0) (cond-true _ _ _ formed ∙ cond-false _ _ _ (missized state (latch_count l) legal.few_latches fails))

    pub not_inputs : length state ≡ latch_count l → (length inputs ≡ input_count l → ⊥) → (Err (refusal WrongCount 1), state) ≡ answer
    not_inputs is fails =
        kept (refusal WrongCount 1)
        (cond-true _ _ _ formed ∙ cond-true _ _ _ (sized state (latch_count l) legal.few_latches is)
        ∙ cond-false _ _ _ (missized inputs (input_count l) legal.few_inputs fails))

    pub stepped_by : length state ≡ latch_count l → length inputs ≡ input_count l
        → (Ok (step_signals o l inputs state).0, (step_signals o l inputs state).1) ≡ answer
    stepped_by is are =
        let s = whole state (omega (arith, legal.few_latches)) in
        let x = whole inputs (omega (arith, legal.few_inputs)) in
        let step : simulated o l (counted inputs) (counted state) ≡ (Ok (step_signals o l (counted inputs) (counted state)).0, (step_signals o l (counted inputs) (counted state)).1) =
        cond-true _ _ _ formed ∙ cond-true _ _ _ (sized state (latch_count l) legal.few_latches is)
        ∙ cond-true _ _ _ (sized inputs (input_count l) legal.few_inputs are) in
        sym (ap (λ p. (p.0, p.1 ++ uncounted state)) step ∙ rw (s.0, x.0, s.1, append-nil (step_signals o l inputs state).1))

-- and there it covers
pub covers_lent : {S : Type 0} {o : Ops S} (may : S → ℕ → Bool → Bool) (i : ℕ) → Sound o (λ x. may x i) → (l : List ℕ) → Legal l
    → (inputs state : List S) → length inputs ≡ input_count l → length state ≡ latch_count l → (c x : ℕ → Bool)
    → MayBe may i (counted state) c → MayBe may i (counted inputs) x
    → CoversStep may i (sheet_of l) c x (step_signals o l inputs state).0 (step_signals o l inputs state).1
covers_lent may i sound l legal inputs state many wide c x at-latches at_inputs =
    step_covers may i sound l legal inputs state many wide c x
    (subst (λ xs. MayBe may i xs c) (whole state (omega (arith, legal.few_latches))).0 at-latches)
    (subst (λ xs. MayBe may i xs x) (whole inputs (omega (arith, legal.few_inputs))).0 at_inputs)
