use Rattle.std.proofs.Common.{ℕ, ◌-◌, List, ◌++◌, take, None, sym, ap, ◌∙◌}
use borrow.Rule.Slice.PartMut.{post_of}
use Rattle.std.proofs.lemmas.Bool.{and_left, and_right, and_from}
use Rattle.lists.specs.Counted.{counted}
use Rattle.sheet.specs.Sheets.{sheet_of}
use Rattle.formula.specs.Formulas.{width}
use Rattle.formula.specs.Framing.{in_frame}
use Rattle.question.specs.Layout.{start_list, given, posed}
use Rattle.question.proofs.Posing.{posed_not, posed_counted, front_few, start_list_lem}
use Rattle.question.proofs.Promises.{state_long, start_takes, start_lays, start_is_question, start_asks_bad, start_tells_state, start_numbers_clauses}
use Rattle.question.proofs.build.start_question.Goals as goal

pub returns-in_err-sheet-clause-poses_the_start_question : goal.returns-in_err-sheet-clause-poses_the_start_question
returns-in_err-sheet-clause-poses_the_start_question c = rw c.from_residual.ensures (posed_not _ (start_list (sheet_of (counted c.args.sheet.now)) (counted c.args.formula.now) c.args.gates c.args.r.0) _ (and_left _ _ (sym c.in_err-sheet.ensures.is_the_test)))

pub returns-in_err-sheet-clause-takes_all_that_fits : goal.returns-in_err-sheet-clause-takes_all_that_fits
returns-in_err-sheet-clause-takes_all_that_fits c = rw c.from_residual.ensures (start_takes c.args.sheet.now c.args.formula.now c.args.gates c.args.question.now None c.args.question.now c.args.r.0 (posed_not _ (start_list (sheet_of (counted c.args.sheet.now)) (counted c.args.formula.now) c.args.gates c.args.r.0) _ (and_left _ _ (sym c.in_err-sheet.ensures.is_the_test))))

pub returns-in_err-sheet-clause-asks_for_a_bad_state : goal.returns-in_err-sheet-clause-asks_for_a_bad_state
returns-in_err-sheet-clause-asks_for_a_bad_state c = rw c.from_residual.ensures (λ _ _. tt)

pub returns-in_err-sheet-clause-has_a_closed_length : goal.returns-in_err-sheet-clause-has_a_closed_length
returns-in_err-sheet-clause-has_a_closed_length c = state_long (sheet_of (counted c.args.sheet.now)) _ _ _ _

pub returns-in_err-gates-clause-poses_the_start_question : goal.returns-in_err-gates-clause-poses_the_start_question
returns-in_err-gates-clause-poses_the_start_question c = rw c.from_residual-in_err-gates.ensures (posed_not _ (start_list (sheet_of (counted c.args.sheet.now)) (counted c.args.formula.now) c.args.gates c.args.r.0) _ (and_right _ _ (sym c.in_err-gates.ensures.is_the_test)))

pub returns-in_err-gates-clause-takes_all_that_fits : goal.returns-in_err-gates-clause-takes_all_that_fits
returns-in_err-gates-clause-takes_all_that_fits c = rw c.from_residual-in_err-gates.ensures (start_takes c.args.sheet.now c.args.formula.now c.args.gates c.args.question.now None c.args.question.now c.args.r.0 (posed_not _ (start_list (sheet_of (counted c.args.sheet.now)) (counted c.args.formula.now) c.args.gates c.args.r.0) _ (and_right _ _ (sym c.in_err-gates.ensures.is_the_test))))

pub returns-in_err-gates-clause-asks_for_a_bad_state : goal.returns-in_err-gates-clause-asks_for_a_bad_state
returns-in_err-gates-clause-asks_for_a_bad_state c = rw c.from_residual-in_err-gates.ensures (λ _ _. tt)

pub returns-in_err-gates-clause-has_a_closed_length : goal.returns-in_err-gates-clause-has_a_closed_length
returns-in_err-gates-clause-has_a_closed_length c = state_long (sheet_of (counted c.args.sheet.now)) _ _ _ _

pub pose_state-requires : goal.pose_state-requires
pose_state-requires c = record { counts = front_few c.args.question.now c.counted_len-len.result c.counted_len-len.ensures }

pub returns : goal.returns
returns c =
    let l = c.args.sheet.now in
    let f = c.args.formula.now in
    let n = c.args.gates in
    let r = c.args.r.0 in
    let old = c.args.question.now in
    let len = c.counted_len-len.result in
    let res = c.pose_state.result in
    let new = c.pose_state.new.question in
    let list = start_list_lem (counted l) (counted f) c.in_ok-sheet.sheet.numbers.now c.in_ok-gates.gates.list.now n c.in_ok-gates.gates.count c.in_ok-sheet.ensures.only_of_legal_lists c.in_ok-gates.ensures.is_the_list.0 c.in_ok-gates.ensures.is_the_list.1 r c.bad_in-bad.result.0 c.bad_in-bad.ensures in
    let is = posed_counted (given l f n) (start_list (sheet_of (counted l)) (counted f) n r) old len (and_from _ _ (sym c.in_ok-sheet.ensures.is_the_test) (sym c.in_ok-gates.ensures.is_the_test)) c.counted_len-len.ensures res new (c.pose_state.ensures ∙ ap (λ (q : List ℕ). posed q (take (len - 0) old)) list) in
    record {
      poses_the_start_question = is;
      takes_all_that_fits = start_takes l f n old res (new ++ post_of 0 (len - 0) old) r is;
      has_a_closed_length = state_long (sheet_of (counted l)) (counted f) n r (in_frame (width (sheet_of (counted l))) 0 (sheet_of (counted l)).bad);
      lays_out_the_clauses = start_lays l f n old res (new ++ post_of 0 (len - 0) old) r is;
      is_a_question = start_is_question l f n old res (new ++ post_of 0 (len - 0) old) r is;
      asks_for_a_bad_state = start_asks_bad l f n old res (new ++ post_of 0 (len - 0) old) r is;
      tells_the_state = start_tells_state l f n old res (new ++ post_of 0 (len - 0) old) r is;
      numbers_the_clauses = start_numbers_clauses l f n old res (new ++ post_of 0 (len - 0) old) r is;
    }
