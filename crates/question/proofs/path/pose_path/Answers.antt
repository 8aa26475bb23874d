use Rattle.std.proofs.Common.{ℕ, List, ◌+◌, sym, ap, ◌∙◌, length, arith}
use Rattle.std.proofs.lemmas.Bool.{and_left, and_right, and_from}
use Rattle.sheet.specs.Sheets.{sheet_of, latch_count, gate_count}
use Rattle.formula.specs.Formulas.{width}
use Rattle.formula.specs.Framing.{in_question, question_literal}
use Rattle.question.specs.Layout.{written}
use Rattle.question.specs.Sizes.{second_clause_count, second_literal_count}
use Rattle.question.specs.Writing.{begun_list}
use Rattle.question.proofs.Posing.{short_of, path_short, path_wide, path_posed, placed_not, placed_fits, placed_is}
use Rattle.question.proofs.path.pose_path.Goals as goal

pub returns-then-question-clauses : goal.returns-then-question-clauses
returns-then-question-clauses c =
    let l = c.args.sheet.numbers.now in
    let f = c.args.gates.list.now in
    let first = c.first_size-first in
    let second = c.second_size-second in
    let short = short_of _ first.result.clauses second.result.clauses first.result.literals second.result.literals first.ensures.clauses second.ensures.clauses first.ensures.literals second.ensures.literals c.if-question-clauses.true in
    path_short l c.args.sheet.legal f c.args.gates.count c.args.gates.whole c.args.gates.few c.args.question.now c.requires.counts c.args.r.0 c.args.k c.requires.bound short

pub returns-in_err-formulas : goal.returns-in_err-formulas
returns-in_err-formulas c =
    let l = c.args.sheet.numbers.now in
    let f = c.args.gates.list.now in
    rw c.from_residual.ensures (path_wide l c.args.sheet.legal f c.args.gates.count c.args.gates.whole c.args.gates.few c.args.question.now c.requires.counts c.args.r.0 c.args.k c.requires.bound (omega arith) (and_left _ _ (sym c.in_err-formulas.ensures.is_the_test)))

pub returns-in_err-r : goal.returns-in_err-r
returns-in_err-r c =
    let l = c.args.sheet.numbers.now in
    let f = c.args.gates.list.now in
    let wide = placed_not (in_question (width (sheet_of l)) (c.args.k + 2) c.args.r.0) (c.in_err-r.ensures.is_in_the_question ∙ ap (λ (w : ℕ). question_literal (in_question w (c.args.k + 2) c.args.r.0)) c.width.ensures) in
    rw c.from_residual-in_err-r.ensures (path_wide l c.args.sheet.legal f c.args.gates.count c.args.gates.whole c.args.gates.few c.args.question.now c.requires.counts c.args.r.0 c.args.k c.requires.bound (omega arith) (and_right _ _ wide))

pub write_path-requires : goal.write_path-requires
write_path-requires c =
    let given = c.in_ok-formulas.ensures.has_what_was_given in
    let clauses = ap (λ (l : List ℕ). second_clause_count (sheet_of l) c.args.k) given.0 in
    let literals = ap (λ (l : List ℕ). second_literal_count (sheet_of l) c.args.k) given.0 in
    record { frames = given.3; room = (omega (arith, ap gate_count given.0, ap latch_count given.0, given.2, clauses, literals), c.requires.counts) }

pub returns : goal.returns
returns c =
    let l = c.args.sheet.numbers.now in
    let f = c.args.gates.list.now in
    let given = c.in_ok-formulas.ensures.has_what_was_given in
    let is = c.in_ok-r.ensures.is_in_the_question ∙ ap (λ (w : ℕ). question_literal (in_question w (c.args.k + 2) c.args.r.0)) c.width.ensures in
    let place = in_question (width (sheet_of l)) (c.args.k + 2) c.args.r.0 in
    let same = placed_is place c.in_ok-r.r is in
    let whole = c.write_path.ensures ∙ (λ i. written (begun_list (sheet_of (given.0 i)) (given.1 i) (given.2 i) (same i) c.args.k) (length c.args.question.now)) in
    path_posed l c.args.sheet.legal f c.args.gates.count c.args.gates.whole c.args.gates.few c.args.question.now c.requires.counts c.args.r.0 c.args.k c.requires.bound (omega arith) (and_from _ _ (sym c.in_ok-formulas.ensures.is_the_test) (placed_fits place c.in_ok-r.r is)) _ _ whole
