use Rattle.std.proofs.Common.{arith}
use Rattle.sheet.proofs.ReadLines.{line_cut}
use Rattle.sheet.proofs.read.first_line.Goals as goal

pub returns : goal.returns
returns c =
    line_cut c.up_to-end.result c.args.text.now c.up_to-end.ensures.first (omega arith)
