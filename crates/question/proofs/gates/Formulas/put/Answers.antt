use Rattle.std.proofs.Common.{arith}
use Rattle.sheet.specs.Sheets.{sheet_of}
use Rattle.question.specs.Clauses.{formula_gate}
use Rattle.question.proofs.Turns.{moved_on, turn}
use Rattle.question.proofs.gates.Formulas.put.Goals as goal

pub loop-g-preserved : goal.loop-g-preserved
loop-g-preserved c =
    (turn (formula_gate (sheet_of c.args.self.sheet.numbers.now) c.args.self.frames c.args.self.gates.list.now) _ _ c.loop-g.g c.args.self.gates.count c.loop-g.invariant.0 _ (omega arith) c.put_gate.ensures.page, moved_on c.loop-g.invariant.1 c.put_gate.ensures.moved (omega arith) (omega arith))
