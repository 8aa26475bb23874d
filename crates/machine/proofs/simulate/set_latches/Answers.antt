use Rattle.std.proofs.Common.{false, arith}
use Rattle.std.proofs.lemmas.List.FromFn.{fill_by_all}
use Rattle.sheet.specs.Sheets.{next_of}
use Rattle.signal.specs.Circuit.{node_of}
use Rattle.machine.proofs.simulate.set_latches.Goals as goal

pub literal_signal-requires : goal.literal_signal-requires
literal_signal-requires g c = omega (arith, c.next.ensures, c.args.sheet.legal.next_literals c.loop-i.i (omega arith))

pub returns : goal.returns
returns g c =
    let o = g.S.Signal.ops in
    fill_by_all (λ k. node_of o c.args.nodes.now (next_of c.args.sheet.numbers.now k)) c.loop-i.state _ (o.known false) (omega arith) (λ k h. c.loop-i.invariant k (omega arith))
