use Rattle.std.proofs.Common.{ℕ, rules, ◌+◌, [], ◌∷◌, length, sym, refl, ap, ◌∙◌, arith}
use Rattle.sheet.specs.Sheets.{Sheet, sheet_of}
use Rattle.formula.specs.Formulas.{width}
use Rattle.question.specs.Clauses.{frame_clauses, formula_clauses}
use Rattle.question.specs.Writing.{held, puts, both_clauses}
use Rattle.question.proofs.Counts.{both_length, both_literals}
use Rattle.question.proofs.Laying.{written_is}
use Rattle.question.proofs.Turns.{four_parts}
use Rattle.question.proofs.state.write_state.Goals as goal

pub returns : goal.returns
returns c =
    let s : Sheet = sheet_of c.args.formulas.sheet.numbers.now in
    let f = c.args.formulas.gates.list.now in
    let n = c.args.formulas.gates.count in
    let x = c.args.x.0 in
    let y = c.args.y.0 in
    let gates = c.put.ensures.page ∙ ap (λ (m : ℕ). puts (held c.put_frame.new.page) (formula_clauses s m f n)) c.requires.frames in
    let page = four_parts (frame_clauses s 0) (formula_clauses s 1 f n) ((x ∷ []) ∷ []) ((y ∷ []) ∷ []) (held c.begin-page.result) _ _ _ _ c.put_frame.ensures.page gates c.put_clause.ensures.page c.put_clause-2.ensures.page in
    let whole = written_is (width s + n) 0 (both_clauses s f n x y) (length c.args.question.now) _ _ _ (ap (λ (w : ℕ). w + n) c.width.ensures) (c.state_size-clauses.ensures.clauses ∙ sym (both_length s f n x y)) refl
    (omega (arith, both_length s f n x y, both_literals s f n x y)) _ _ c.begin-page.ensures.page page _ c.finish.ensures in
    search (rules, whole)
