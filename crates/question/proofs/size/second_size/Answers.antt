use Rattle.std.proofs.Common.{◌+◌, ◌*◌, refl, arith}
use Rattle.std.proofs.lemmas.Nat.{mul-le}
use Rattle.sheet.specs.Sheets.{latch_count, gate_count}
use Rattle.question.proofs.size.second_size.Goals as goal

pub returns : goal.returns
returns c =
    let n = latch_count c.args.sheet.numbers.now in
    let m = gate_count c.args.sheet.numbers.now in
    let k = c.args.k in
    let w = mul-le (k + 1) (1 + 3 * m) 31 601 (omega arith) (omega arith) in
    let x = mul-le k (2 * n) 30 48 (omega arith) (omega arith) in
    let y = mul-le (k + 1) (1 + 7 * m) 31 1401 (omega arith) (omega arith) in
    let z = mul-le k (4 * n) 30 96 (omega arith) (omega arith) in
    rw (c.latches-latches.ensures, c.gates-gates.ensures) (record { clauses = refl; literals = refl; few = (omega arith, omega arith) })
