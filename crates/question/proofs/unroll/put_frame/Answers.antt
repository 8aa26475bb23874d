use Rattle.std.proofs.Common.{arith}
use Rattle.sheet.specs.Sheets.{sheet_of, gate_count}
use Rattle.question.specs.Clauses.{gate_clauses}
use Rattle.question.proofs.Turns.{moved_on, turn}
use Rattle.question.proofs.unroll.put_frame.Goals as goal

pub loop-g-preserved : goal.loop-g-preserved
loop-g-preserved c =
    let l = c.args.sheet.numbers.now in
    (turn (gate_clauses (sheet_of l) c.args.t) _ _ c.loop-g.g (gate_count l) c.loop-g.invariant.0 _ (omega arith) c.put_gate.ensures.page, moved_on c.loop-g.invariant.1 c.put_gate.ensures.moved (omega arith) (omega arith))
