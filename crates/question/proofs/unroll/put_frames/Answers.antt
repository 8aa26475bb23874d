use Rattle.std.proofs.Common.{◌+◌, ◌*◌, arith}
use Rattle.sheet.specs.Sheets.{sheet_of, gate_count}
use Rattle.question.specs.Clauses.{frame_clauses}
use Rattle.question.proofs.Turns.{moved_on, turn, row_more, row_room}
use Rattle.question.proofs.unroll.put_frames.Goals as goal

pub put_frame-requires : goal.put_frame-requires
put_frame-requires c =
    let t = c.loop-t.t in
    let n = gate_count c.args.sheet.numbers.now in
    let a = row_room t (c.args.k + 1) (1 + 3 * n) (omega arith) (omega arith) in
    let b = row_room t (c.args.k + 1) (1 + 7 * n) (omega arith) (omega arith) in
    record { place = omega arith; room = (omega arith, omega arith, omega arith) }

pub loop-t-preserved : goal.loop-t-preserved
loop-t-preserved c =
    let l = c.args.sheet.numbers.now in
    let t = c.loop-t.t in
    let a = row_more t (1 + 3 * gate_count l) (omega arith) in
    let b = row_more t (1 + 7 * gate_count l) (omega arith) in
    (turn (frame_clauses (sheet_of l)) _ _ t (c.args.k + 2) c.loop-t.invariant.0 _ (omega arith) c.put_frame.ensures.page, moved_on c.loop-t.invariant.1 c.put_frame.ensures.moved (omega arith) (omega arith))
