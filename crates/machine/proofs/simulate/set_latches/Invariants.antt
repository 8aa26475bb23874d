use Rattle.std.proofs.Common.{◌≡◌, ℕ, ◌<◌, false, get_or}
use Rattle.sheet.specs.Sheets.{next_of}
use Rattle.signal.specs.Circuit.{node_of}
use Rattle.machine.proofs.simulate.set_latches.Given as goal

abbrev pub invariant-loop-i : goal.invariant-loop-i
invariant-loop-i g l =
    let o = g.S.Signal.ops in
    (k : ℕ) → k < l.i → get_or l.state k (o.known false) ≡ node_of o l.nodes (next_of l.sheet.numbers.now k)
