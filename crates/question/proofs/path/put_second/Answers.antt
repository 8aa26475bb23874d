use Rattle.std.proofs.Common.{◌+◌, refl, arith}
use Rattle.lists.specs.Stretch.{stretch}
use Rattle.sheet.specs.Sheets.{Sheet, sheet_of}
use Rattle.question.specs.Clauses.{frame_clauses, link_clauses, bad_clauses}
use Rattle.question.proofs.Turns.{three_parts, moved_on}
use Rattle.question.proofs.path.put_second.Goals as goal

pub returns : goal.returns
returns c =
    let s : Sheet = sheet_of c.args.sheet.numbers.now in
    let k = c.args.k in
    record {
      page = three_parts (stretch (frame_clauses s) 1 (k + 1)) (stretch (link_clauses s) 1 k) (bad_clauses s k) _ _ _ _ c.put_frames.ensures.page c.put_links.ensures.page c.put_bad.ensures.page;
      moved = moved_on (moved_on c.put_frames.ensures.moved c.put_links.ensures.moved refl refl) c.put_bad.ensures.moved (omega arith) (omega arith);
    }
