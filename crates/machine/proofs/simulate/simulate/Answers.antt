use Rattle.std.proofs.Common.{◌≡◌, ℕ, List, true, length, Ok, sym, ap, ◌∙◌, subst, arith}
use Rattle.lists.specs.Counted.{counted}
use Rattle.sheet.specs.Render.{well_formed}
use Rattle.sheet.specs.Sheets.{Legal, sheet_of, input_count, latch_count}
use Rattle.sheet.proofs.Legality.{well_formed_legal}
use Rattle.machine.specs.Simulate.{step_signals, CoversStep}
use Rattle.machine.proofs.Refusals.{not_legal, not_a_state, not_inputs, stepped_by, covers_lent}
use Rattle.machine.proofs.Values.{legal_ascends, values_fit}
use Rattle.machine.proofs.simulate.simulate.Goals as goal

pub returns-in_default-clause-steps_by_the_gate_values : goal.returns-in_default-clause-steps_by_the_gate_values
returns-in_default-clause-steps_by_the_gate_values g c =
    rw c.refuse.ensures (not_legal g.S.Signal.ops (counted c.args.sheet.now) c.args.inputs.now c.args.state.now (sym c.in_default.ensures.is_the_test))

pub returns-then-state-latches-clause-steps_by_the_gate_values : goal.returns-then-state-latches-clause-steps_by_the_gate_values
returns-then-state-latches-clause-steps_by_the_gate_values g c =
    let latches = ap latch_count c.in-Some.ensures.only_of_legal_lists in
    rw c.refuse-then-state-latches.ensures
    (not_a_state g.S.Signal.ops (counted c.args.sheet.now) c.args.inputs.now c.args.state.now (sym c.in-Some.ensures.is_the_test) (λ e. omega (arith, latches)))

pub returns-then-inputs-clause-steps_by_the_gate_values : goal.returns-then-inputs-clause-steps_by_the_gate_values
returns-then-inputs-clause-steps_by_the_gate_values g c =
    let latches = ap latch_count c.in-Some.ensures.only_of_legal_lists in
    let inputs = ap input_count c.in-Some.ensures.only_of_legal_lists in
    rw c.refuse-then-inputs.ensures
    (not_inputs g.S.Signal.ops (counted c.args.sheet.now) c.args.inputs.now c.args.state.now (sym c.in-Some.ensures.is_the_test)
    (omega (arith, latches)) (λ e. omega (arith, inputs)))

pub returns : goal.returns
returns g c =
    let o = g.S.Signal.ops in
    let may = g.S.Signal.may in
    let l : List ℕ = counted c.args.sheet.now in
    let inputs : List g.row.S.Denot = c.args.inputs.now in
    let state : List g.row.S.Denot = c.args.state.now in
    let is = c.in-Some.ensures.only_of_legal_lists in
    let formed : well_formed l ≡ true = sym c.in-Some.ensures.is_the_test in
    let legal : Legal l = well_formed_legal l formed in
    let wide : length state ≡ latch_count l = omega (arith, ap latch_count is) in
    let many : length inputs ≡ input_count l = omega (arith, ap input_count is) in
    let step : (c.step.result, c.step.new.state) ≡ step_signals o l inputs state =
    c.step.ensures ∙ ap (λ k. step_signals o k inputs state) is in
    record {
      steps_by_the_gate_values = ap (λ p. (Ok p.0, p.1)) step ∙ stepped_by o l inputs state formed wide many;
      covers_every_choice = λ i b x h at-latches at_inputs.
          subst (λ p. CoversStep may i (sheet_of l) b x p.0 p.1) (sym step)
          (covers_lent may i (g.met.S.Signal.sound i h) l legal inputs state many wide b x at-latches at_inputs);
      those_values_alone_fit_the_gates = values_fit (sheet_of l) (legal_ascends l legal);
    }
