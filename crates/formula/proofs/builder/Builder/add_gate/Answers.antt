use Rattle.std.proofs.Common.{◌≡◌, ◌+◌, ◌*◌, sym, ap, inl, arith}
use Rattle.formula.specs.Built.{built}
use Rattle.formula.proofs.Building.{gate_short, gate_grown}
use Rattle.formula.proofs.builder.Builder.add_gate.Goals as goal

pub returns-then-counted_len-at : goal.returns-then-counted_len-at
returns-then-counted_len-at c =
    let g = c.args.self.now in
    let f = c.args.list.now in
    sym (ap (built g f) (gate_short g.width g.count f c.args.left c.args.right c.counted_len.result c.counted_len.ensures (inl (omega arith))))

pub returns : goal.returns
returns c =
    let g = c.args.self.now in
    let f = c.args.list.now in
    let number : c.from_number.result.0 ≡ 2 * (g.width + g.count) = omega (arith, c.from_number.ensures, c.in_ok-number.ensures, c.in_ok-checked_add.ensures) in
    rw number (sym (ap (built g f) (gate_grown g.width g.count f c.args.left c.args.right c.counted_len.result c.counted_len.ensures (omega arith) (omega (arith, c.in_ok-number.ensures)))))
