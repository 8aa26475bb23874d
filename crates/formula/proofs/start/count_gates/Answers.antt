use Rattle.std.proofs.Common.{arith}
use Rattle.sheet.specs.Sheets.{sheet_of}
use Rattle.formula.proofs.Sizes.{size_counted}
use Rattle.formula.proofs.Turns.{legal_few}
use Rattle.formula.proofs.start.count_gates.Goals as goal

pub overflow_cast-result : goal.overflow_cast-result
overflow_cast-result c =
    let few = legal_few c.args.sheet.numbers.now c.args.sheet.legal in
    let size = size_counted (sheet_of c.args.sheet.numbers.now) few.0 few.1 c.count_start_bits.result c.count_start_bits.ensures in
    omega (arith, size.1)

pub returns : goal.returns
returns c =
    let few = legal_few c.args.sheet.numbers.now c.args.sheet.legal in
    let size = size_counted (sheet_of c.args.sheet.numbers.now) few.0 few.1 c.count_start_bits.result c.count_start_bits.ensures in
    omega (arith, size.0)
