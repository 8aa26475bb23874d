use Rattle.std.proofs.Common.{◌≡◌, ℕ, ◌-◌, List, take, replicate, ap, ◌∙◌, arith}
use Rattle.sheet.specs.Sheets.{bad_of}
use Rattle.signal.specs.Circuit.{node_of}
use Rattle.machine.specs.Simulate.{fed_signals, node_signals, next_signals}
use Rattle.machine.proofs.Feeding.{fed_by, run_by}
use Rattle.machine.proofs.simulate.step.Goals as goal

pub returns : goal.returns
returns g c =
    let o = g.S.Signal.ops in
    let l : List ℕ = c.args.sheet.numbers.now in
    let inputs : List g.row.S.Denot = c.args.inputs.now in
    let state : List g.row.S.Denot = c.args.state.now in
    let n : ℕ = c.width.result - 0 in
    let fed : c.feed.new.nodes ≡ fed_signals o l inputs state =
    rw c.feed.ensures (fed_by o l inputs state _ n (omega (arith, c.width.ensures)) (omega (arith, c.width.ensures, c.args.sheet.legal.few_gates)) (ap (λ x. take n (replicate 249 x)) c.bit.ensures)) in
    let run : c.gate_values.new.values ≡ node_signals o l inputs state =
    run_by o l c.gate_pairs.result.now inputs state c.feed.new.nodes c.gate_values.new.values c.first_gate.result
    c.args.sheet.legal c.requires.inputs c.requires.latches c.first_gate.ensures c.gate_pairs.ensures fed c.gate_values.ensures.runs_the_gates in
    let bad : c.literal_signal.result ≡ node_of o (node_signals o l inputs state) (bad_of l) = cc in
    let next : c.set_latches.new.state ≡ next_signals o l (node_signals o l inputs state) =
    c.set_latches.ensures ∙ ap (next_signals o l) run in
    rw (bad, next)
