use Rattle.std.proofs.Common.{◌+◌, ◌-◌, ◌/◌, ◌^◌, length, sym, subst, arith}
use Rattle.lists.specs.Counted.{counted}
use Rattle.signal.specs.Circuit.{gates_of}
use Rattle.signal.specs.Covers.{Covers, CoversTo}
use Rattle.signal.specs.Kinds.{bit_ops}
use Rattle.signal.specs.Settled.{Settled}
use Rattle.signal.proofs.Cover.{covers_gates, covers_gated}
use Rattle.signal.proofs.Cut.{cut_run, cut_front, cut_keeps}
use Rattle.signal.proofs.Fixed.{gates_settle}
use Rattle.signal.proofs.gate_values.Goals as goal

pub returns : goal.returns
returns g c =
    let o = g.S.Signal.ops in
    let may = g.S.Signal.may in
    let first = c.args.first in
    let ps = counted c.args.pairs.now in
    let vs = c.args.values.now in
    let whole =
    cut_run o (2 ^ 28) first ps vs (c.counted_len-room.result - 0) c.counted.result.now c.run_gates.new.values
    (omega (arith, c.counted_len-room.ensures)) c.counted.ensures.value c.run_gates.ensures in
    let front = sym (cut_front o (2 ^ 28) first ps vs _ whole) in
    record {
      runs_the_gates = whole;
      keeps_lower_nodes = cut_keeps o (2 ^ 28) first ps vs _ whole;
      settles_each_gate = λ ordered long. subst (λ ws. Settled o ws ps first) front (gates_settle o ps first (counted vs) ordered long);
      covers_the_gates_of_bits = λ i bits h covered.
          subst (λ ws. Covers may i ws (gates_of bit_ops ps first bits)) front (covers_gates may i (g.met.S.Signal.sound i h) ps first (counted vs) bits covered);
      covers_each_assignment = λ i α h ordered gated low.
          subst (λ ws. CoversTo may i (first + length ps / 2) ws α) front (covers_gated may i (g.met.S.Signal.sound i h) α ps first (counted vs) ordered gated low);
    }
