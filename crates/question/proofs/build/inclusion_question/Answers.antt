use Rattle.std.proofs.Common.{ℕ, ◌-◌, List, ◌++◌, take, None, sym, ap, ◌∙◌, arith}
use borrow.Rule.Slice.PartMut.{post_of}
use Rattle.std.proofs.lemmas.Bool.{and_left, and_right, and_from}
use Rattle.lists.specs.Counted.{counted}
use Rattle.sheet.specs.Sheets.{sheet_of}
use Rattle.formula.specs.Formulas.{width}
use Rattle.formula.specs.Conjunction.{opposite}
use Rattle.formula.specs.Framing.{in_question}
use Rattle.question.specs.Layout.{inclusion_list, given, posed}
use Rattle.question.proofs.Posing.{posed_not, posed_counted, front_few, one_placed, inclusion_list_lem}
use Rattle.question.proofs.Promises.{state_long, inclusion_takes, inclusion_lays, inclusion_is_question, inclusion_asks_outside, inclusion_tells_state, inclusion_numbers_clauses}
use Rattle.question.proofs.build.inclusion_question.Goals as goal

pub returns-in_err-sheet-clause-poses_the_inclusion_question : goal.returns-in_err-sheet-clause-poses_the_inclusion_question
returns-in_err-sheet-clause-poses_the_inclusion_question c = rw c.from_residual.ensures (posed_not _ (inclusion_list (sheet_of (counted c.args.sheet.now)) (counted c.args.formula.now) c.args.gates c.args.p.0 c.args.r.0) _ (and_left _ _ (sym c.in_err-sheet.ensures.is_the_test)))

pub returns-in_err-sheet-clause-takes_all_that_fits : goal.returns-in_err-sheet-clause-takes_all_that_fits
returns-in_err-sheet-clause-takes_all_that_fits c = rw c.from_residual.ensures (inclusion_takes c.args.sheet.now c.args.formula.now c.args.gates c.args.question.now None c.args.question.now c.args.p.0 c.args.r.0 (posed_not _ (inclusion_list (sheet_of (counted c.args.sheet.now)) (counted c.args.formula.now) c.args.gates c.args.p.0 c.args.r.0) _ (and_left _ _ (sym c.in_err-sheet.ensures.is_the_test))))

pub returns-in_err-sheet-clause-asks_for_a_state_outside : goal.returns-in_err-sheet-clause-asks_for_a_state_outside
returns-in_err-sheet-clause-asks_for_a_state_outside c = rw c.from_residual.ensures (λ _ _ _. tt)

pub returns-in_err-sheet-clause-has_a_closed_length : goal.returns-in_err-sheet-clause-has_a_closed_length
returns-in_err-sheet-clause-has_a_closed_length c = state_long (sheet_of (counted c.args.sheet.now)) _ _ _ _

pub returns-in_err-gates-clause-poses_the_inclusion_question : goal.returns-in_err-gates-clause-poses_the_inclusion_question
returns-in_err-gates-clause-poses_the_inclusion_question c = rw c.from_residual-in_err-gates.ensures (posed_not _ (inclusion_list (sheet_of (counted c.args.sheet.now)) (counted c.args.formula.now) c.args.gates c.args.p.0 c.args.r.0) _ (and_right _ _ (sym c.in_err-gates.ensures.is_the_test)))

pub returns-in_err-gates-clause-takes_all_that_fits : goal.returns-in_err-gates-clause-takes_all_that_fits
returns-in_err-gates-clause-takes_all_that_fits c = rw c.from_residual-in_err-gates.ensures (inclusion_takes c.args.sheet.now c.args.formula.now c.args.gates c.args.question.now None c.args.question.now c.args.p.0 c.args.r.0 (posed_not _ (inclusion_list (sheet_of (counted c.args.sheet.now)) (counted c.args.formula.now) c.args.gates c.args.p.0 c.args.r.0) _ (and_right _ _ (sym c.in_err-gates.ensures.is_the_test))))

pub returns-in_err-gates-clause-asks_for_a_state_outside : goal.returns-in_err-gates-clause-asks_for_a_state_outside
returns-in_err-gates-clause-asks_for_a_state_outside c = rw c.from_residual-in_err-gates.ensures (λ _ _ _. tt)

pub returns-in_err-gates-clause-has_a_closed_length : goal.returns-in_err-gates-clause-has_a_closed_length
returns-in_err-gates-clause-has_a_closed_length c = state_long (sheet_of (counted c.args.sheet.now)) _ _ _ _

pub placed-outside-requires : goal.placed-outside-requires
placed-outside-requires c = omega (arith, one_placed (width (sheet_of c.in_ok-sheet.sheet.numbers.now)) c.opposite.result.0)

pub pose_state-requires : goal.pose_state-requires
pose_state-requires c = record { counts = front_few c.args.question.now c.counted_len-len.result c.counted_len-len.ensures }

pub returns : goal.returns
returns c =
    let l = c.args.sheet.now in
    let f = c.args.formula.now in
    let n = c.args.gates in
    let p = c.args.p.0 in
    let r = c.args.r.0 in
    let old = c.args.question.now in
    let len = c.counted_len-len.result in
    let res = c.pose_state.result in
    let new = c.pose_state.new.question in
    let list = inclusion_list_lem (counted l) (counted f) c.in_ok-sheet.sheet.numbers.now c.in_ok-gates.gates.list.now n c.in_ok-gates.gates.count c.in_ok-sheet.ensures.only_of_legal_lists c.in_ok-gates.ensures.is_the_list.0 c.in_ok-gates.ensures.is_the_list.1 p r c.opposite.result.0 c.placed-outside.result.0 c.opposite.ensures.is_the_other c.placed-outside.ensures in
    let is = posed_counted (given l f n) (inclusion_list (sheet_of (counted l)) (counted f) n p r) old len (and_from _ _ (sym c.in_ok-sheet.ensures.is_the_test) (sym c.in_ok-gates.ensures.is_the_test)) c.counted_len-len.ensures res new (c.pose_state.ensures ∙ ap (λ (q : List ℕ). posed q (take (len - 0) old)) list) in
    record {
      poses_the_inclusion_question = is;
      takes_all_that_fits = inclusion_takes l f n old res (new ++ post_of 0 (len - 0) old) p r is;
      has_a_closed_length = state_long (sheet_of (counted l)) (counted f) n p (in_question (width (sheet_of (counted l))) 1 (opposite r));
      lays_out_the_clauses = inclusion_lays l f n old res (new ++ post_of 0 (len - 0) old) p r is;
      is_a_question = inclusion_is_question l f n old res (new ++ post_of 0 (len - 0) old) p r is;
      asks_for_a_state_outside = inclusion_asks_outside l f n old res (new ++ post_of 0 (len - 0) old) p r is;
      tells_the_state = inclusion_tells_state l f n old res (new ++ post_of 0 (len - 0) old) p r is;
      numbers_the_clauses = inclusion_numbers_clauses l f n old res (new ++ post_of 0 (len - 0) old) p r is;
    }
