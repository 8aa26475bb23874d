use Rattle.std.proofs.Common.{ℕ, ◌+◌, sym, ap, ◌∙◌, length, arith}
use Rattle.std.proofs.lemmas.Bool.{and_left, and_right, and_from}
use Rattle.sheet.specs.Sheets.{sheet_of, latch_count, gate_count}
use Rattle.formula.specs.Formulas.{width}
use Rattle.formula.specs.Framing.{in_question, question_literal}
use Rattle.question.specs.Layout.{encode, written}
use Rattle.question.specs.Writing.{both_clauses}
use Rattle.question.proofs.Posing.{state_short, state_wide, state_posed, placed_not, placed_fits, placed_is}
use Rattle.question.proofs.state.pose_state.Goals as goal

pub returns-then-question-size : goal.returns-then-question-size
returns-then-question-size c =
    let l = c.args.sheet.numbers.now in
    let f = c.args.gates.list.now in
    state_short l c.args.sheet.legal f c.args.gates.count c.args.gates.whole c.args.gates.few c.args.question.now c.requires.counts c.args.x.0 c.args.y.0 (omega arith)

pub returns-in_err-formulas : goal.returns-in_err-formulas
returns-in_err-formulas c =
    let l = c.args.sheet.numbers.now in
    let f = c.args.gates.list.now in
    rw c.from_residual.ensures (state_wide l c.args.sheet.legal f c.args.gates.count c.args.gates.whole c.args.gates.few c.args.question.now c.requires.counts c.args.x.0 c.args.y.0 (omega arith) (omega arith) (and_left _ _ (sym c.in_err-formulas.ensures.is_the_test)))

pub returns-in_err-x : goal.returns-in_err-x
returns-in_err-x c =
    let l = c.args.sheet.numbers.now in
    let f = c.args.gates.list.now in
    let wide = placed_not (in_question (width (sheet_of l)) 1 c.args.x.0) (c.in_err-x.ensures.is_in_the_question ∙ ap (λ (w : ℕ). question_literal (in_question w 1 c.args.x.0)) c.width.ensures) in
    rw c.from_residual-in_err-x.ensures (state_wide l c.args.sheet.legal f c.args.gates.count c.args.gates.whole c.args.gates.few c.args.question.now c.requires.counts c.args.x.0 c.args.y.0 (omega arith) (omega arith) (and_right _ _ wide))

pub write_state-requires : goal.write_state-requires
write_state-requires c =
    let given = c.in_ok-formulas.ensures.has_what_was_given in
    record { frames = given.3; room = (omega (arith, ap gate_count given.0, ap latch_count given.0, given.2), c.requires.counts) }

pub returns : goal.returns
returns c =
    let l = c.args.sheet.numbers.now in
    let f = c.args.gates.list.now in
    let given = c.in_ok-formulas.ensures.has_what_was_given in
    let is = c.in_ok-x.ensures.is_in_the_question ∙ ap (λ (w : ℕ). question_literal (in_question w 1 c.args.x.0)) c.width.ensures in
    let place = in_question (width (sheet_of l)) 1 c.args.x.0 in
    let same = placed_is place c.in_ok-x.x is in
    let whole = c.write_state.ensures ∙ (λ i. written (encode (width (sheet_of (given.0 i)) + given.2 i) 0 (both_clauses (sheet_of (given.0 i)) (given.1 i) (given.2 i) (same i) c.args.y.0)) (length c.args.question.now)) in
    state_posed l c.args.sheet.legal f c.args.gates.count c.args.gates.whole c.args.gates.few c.args.question.now c.requires.counts c.args.x.0 c.args.y.0 (omega arith) (omega arith) (and_from _ _ (sym c.in_ok-formulas.ensures.is_the_test) (placed_fits place c.in_ok-x.x is)) _ _ whole
