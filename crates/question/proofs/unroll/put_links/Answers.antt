use Rattle.std.proofs.Common.{◌+◌, ◌*◌, arith}
use Rattle.sheet.specs.Sheets.{sheet_of, latch_count}
use Rattle.question.specs.Clauses.{link_clauses}
use Rattle.question.proofs.Turns.{moved_on, turn, row_more, row_room}
use Rattle.question.proofs.unroll.put_links.Goals as goal

pub put_link-requires : goal.put_link-requires
put_link-requires c =
    let t = c.loop-t.t in
    let n = latch_count c.args.sheet.numbers.now in
    let a = row_room t c.args.k (2 * n) (omega arith) (omega arith) in
    let b = row_room t c.args.k (4 * n) (omega arith) (omega arith) in
    record { place = omega arith; room = (omega arith, omega arith, omega arith) }

pub loop-t-preserved : goal.loop-t-preserved
loop-t-preserved c =
    let l = c.args.sheet.numbers.now in
    let t = c.loop-t.t in
    let a = row_more t (2 * latch_count l) (omega arith) in
    let b = row_more t (4 * latch_count l) (omega arith) in
    (turn (link_clauses (sheet_of l)) _ _ t (c.args.k + 1) c.loop-t.invariant.0 _ (omega arith) c.put_link.ensures.page, moved_on c.loop-t.invariant.1 c.put_link.ensures.moved (omega arith) (omega arith))
