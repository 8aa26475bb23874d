use Rattle.std.proofs.Common.{arith}
use Rattle.sheet.specs.Sheets.{sheet_of, latch_count}
use Rattle.question.specs.Clauses.{latch_clauses}
use Rattle.question.proofs.Turns.{moved_on, turn}
use Rattle.question.proofs.unroll.put_link.Goals as goal

pub loop-i-preserved : goal.loop-i-preserved
loop-i-preserved c =
    let l = c.args.sheet.numbers.now in
    (turn (latch_clauses (sheet_of l) c.args.t) _ _ c.loop-i.i (latch_count l) c.loop-i.invariant.0 _ (omega arith) c.put_latch.ensures.page, moved_on c.loop-i.invariant.1 c.put_latch.ensures.moved (omega arith) (omega arith))
