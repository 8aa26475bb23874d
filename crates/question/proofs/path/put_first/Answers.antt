use Rattle.std.proofs.Common.{ℕ, ◌+◌, [], ◌∷◌, refl, ap, ◌∙◌, arith}
use Rattle.sheet.specs.Sheets.{Sheet, sheet_of}
use Rattle.question.specs.Clauses.{frame_clauses, link_clauses, formula_clauses}
use Rattle.question.specs.Writing.{held, puts}
use Rattle.question.proofs.Turns.{four_parts, moved_on}
use Rattle.question.proofs.path.put_first.Goals as goal

pub returns : goal.returns
returns c =
    let s : Sheet = sheet_of c.args.formulas.sheet.numbers.now in
    let f = c.args.formulas.gates.list.now in
    let n = c.args.formulas.gates.count in
    let k = c.args.k in
    let gates = c.put.ensures.page ∙ ap (λ (m : ℕ). puts (held c.put_link.new.page) (formula_clauses s m f n)) c.requires.frames in
    record {
      page = four_parts (frame_clauses s 0) (link_clauses s 0) (formula_clauses s (k + 2) f n) ((c.args.r.0 ∷ []) ∷ []) (held c.args.page.now) _ _ _ _ c.put_frame.ensures.page c.put_link.ensures.page gates c.put_clause.ensures.page;
      moved = moved_on (moved_on (moved_on c.put_frame.ensures.moved c.put_link.ensures.moved refl refl) c.put.ensures.moved refl refl) c.put_clause.ensures.moved (omega arith) (omega arith);
    }
