use Rattle.std.proofs.Common.{ℕ, ◌-◌, ◌&&◌, leb, List, ◌++◌, take, None, sym, ap, ◌∙◌, arith}
use borrow.Rule.Slice.PartMut.{post_of}
use Rattle.std.proofs.lemmas.Bool.{and_left, and_right, and_from, le-leb, lt-leb}
use Rattle.lists.specs.Counted.{counted}
use Rattle.sheet.specs.Sheets.{sheet_of}
use Rattle.question.specs.Layout.{path_list, given, posed}
use Rattle.question.proofs.Posing.{posed_not, posed_counted, front_few, path_list_lem}
use Rattle.question.proofs.Promises.{path_long, path_takes, path_lays, path_is_question, path_asks_bad, path_tells_frames, path_parts_variables, path_numbers_clauses}
use Rattle.question.proofs.build.path_question.Goals as goal

pub returns-then-k-gt-MOST_BOUND-clause-poses_the_path_question : goal.returns-then-k-gt-MOST_BOUND-clause-poses_the_path_question
returns-then-k-gt-MOST_BOUND-clause-poses_the_path_question c = posed_not _ (path_list (sheet_of (counted c.args.sheet.now)) (counted c.args.formula.now) c.args.gates c.args.r.0 c.args.k) _ (and_left _ _ (lt-leb c.args.k 30 c.if-k-gt-MOST_BOUND.true))

pub returns-then-k-gt-MOST_BOUND-clause-takes_all_that_fits : goal.returns-then-k-gt-MOST_BOUND-clause-takes_all_that_fits
returns-then-k-gt-MOST_BOUND-clause-takes_all_that_fits c = path_takes c.args.sheet.now c.args.formula.now c.args.gates c.args.question.now None c.args.question.now c.args.r.0 c.args.k (posed_not _ (path_list (sheet_of (counted c.args.sheet.now)) (counted c.args.formula.now) c.args.gates c.args.r.0 c.args.k) _ (and_left _ _ (lt-leb c.args.k 30 c.if-k-gt-MOST_BOUND.true)))

pub returns-then-k-gt-MOST_BOUND-clause-has_a_closed_length : goal.returns-then-k-gt-MOST_BOUND-clause-has_a_closed_length
returns-then-k-gt-MOST_BOUND-clause-has_a_closed_length c = path_long (sheet_of (counted c.args.sheet.now)) _ _ _ _

pub returns-in_err-sheet-clause-poses_the_path_question : goal.returns-in_err-sheet-clause-poses_the_path_question
returns-in_err-sheet-clause-poses_the_path_question c = rw c.from_residual.ensures (posed_not _ (path_list (sheet_of (counted c.args.sheet.now)) (counted c.args.formula.now) c.args.gates c.args.r.0 c.args.k) _ (and_right (leb c.args.k 30) _ (and_left _ _ (sym c.in_err-sheet.ensures.is_the_test))))

pub returns-in_err-sheet-clause-takes_all_that_fits : goal.returns-in_err-sheet-clause-takes_all_that_fits
returns-in_err-sheet-clause-takes_all_that_fits c = rw c.from_residual.ensures (path_takes c.args.sheet.now c.args.formula.now c.args.gates c.args.question.now None c.args.question.now c.args.r.0 c.args.k (posed_not _ (path_list (sheet_of (counted c.args.sheet.now)) (counted c.args.formula.now) c.args.gates c.args.r.0 c.args.k) _ (and_right (leb c.args.k 30) _ (and_left _ _ (sym c.in_err-sheet.ensures.is_the_test)))))

pub returns-in_err-sheet-clause-asks_for_a_bad_state_ahead : goal.returns-in_err-sheet-clause-asks_for_a_bad_state_ahead
returns-in_err-sheet-clause-asks_for_a_bad_state_ahead c = rw c.from_residual.ensures (λ _ _. tt)

pub returns-in_err-sheet-clause-has_a_closed_length : goal.returns-in_err-sheet-clause-has_a_closed_length
returns-in_err-sheet-clause-has_a_closed_length c = path_long (sheet_of (counted c.args.sheet.now)) _ _ _ _

pub returns-in_err-gates-clause-poses_the_path_question : goal.returns-in_err-gates-clause-poses_the_path_question
returns-in_err-gates-clause-poses_the_path_question c = rw c.from_residual-in_err-gates.ensures (posed_not _ (path_list (sheet_of (counted c.args.sheet.now)) (counted c.args.formula.now) c.args.gates c.args.r.0 c.args.k) _ (and_right (leb c.args.k 30) _ (and_right _ _ (sym c.in_err-gates.ensures.is_the_test))))

pub returns-in_err-gates-clause-takes_all_that_fits : goal.returns-in_err-gates-clause-takes_all_that_fits
returns-in_err-gates-clause-takes_all_that_fits c = rw c.from_residual-in_err-gates.ensures (path_takes c.args.sheet.now c.args.formula.now c.args.gates c.args.question.now None c.args.question.now c.args.r.0 c.args.k (posed_not _ (path_list (sheet_of (counted c.args.sheet.now)) (counted c.args.formula.now) c.args.gates c.args.r.0 c.args.k) _ (and_right (leb c.args.k 30) _ (and_right _ _ (sym c.in_err-gates.ensures.is_the_test)))))

pub returns-in_err-gates-clause-asks_for_a_bad_state_ahead : goal.returns-in_err-gates-clause-asks_for_a_bad_state_ahead
returns-in_err-gates-clause-asks_for_a_bad_state_ahead c = rw c.from_residual-in_err-gates.ensures (λ _ _. tt)

pub returns-in_err-gates-clause-has_a_closed_length : goal.returns-in_err-gates-clause-has_a_closed_length
returns-in_err-gates-clause-has_a_closed_length c = path_long (sheet_of (counted c.args.sheet.now)) _ _ _ _

pub pose_path-requires : goal.pose_path-requires
pose_path-requires c = record { bound = omega arith; counts = front_few c.args.question.now c.counted_len-len.result c.counted_len-len.ensures }

pub returns : goal.returns
returns c =
    let l = c.args.sheet.now in
    let f = c.args.formula.now in
    let n = c.args.gates in
    let r = c.args.r.0 in
    let k = c.args.k in
    let old = c.args.question.now in
    let len = c.counted_len-len.result in
    let res = c.pose_path.result in
    let new = c.pose_path.new.question in
    let list = path_list_lem (counted l) (counted f) c.in_ok-sheet.sheet.numbers.now c.in_ok-gates.gates.list.now n c.in_ok-gates.gates.count c.in_ok-sheet.ensures.only_of_legal_lists c.in_ok-gates.ensures.is_the_list.0 c.in_ok-gates.ensures.is_the_list.1 r k in
    let is = posed_counted (leb k 30 && given l f n) (path_list (sheet_of (counted l)) (counted f) n r k) old len (and_from _ _ (le-leb k 30 (omega arith)) (and_from _ _ (sym c.in_ok-sheet.ensures.is_the_test) (sym c.in_ok-gates.ensures.is_the_test))) c.counted_len-len.ensures res new (c.pose_path.ensures ∙ ap (λ (q : List ℕ). posed q (take (len - 0) old)) list) in
    record {
      poses_the_path_question = is;
      takes_all_that_fits = path_takes l f n old res (new ++ post_of 0 (len - 0) old) r k is;
      has_a_closed_length = path_long (sheet_of (counted l)) (counted f) n r k;
      lays_out_the_clauses = path_lays l f n old res (new ++ post_of 0 (len - 0) old) r k is;
      is_a_question = path_is_question l f n old res (new ++ post_of 0 (len - 0) old) r k is;
      asks_for_a_bad_state_ahead = path_asks_bad l f n old res (new ++ post_of 0 (len - 0) old) r k is;
      tells_the_frames = path_tells_frames l f n old res (new ++ post_of 0 (len - 0) old) r k is;
      parts_have_their_variables = path_parts_variables l f n old res (new ++ post_of 0 (len - 0) old) r k is;
      numbers_the_clauses = path_numbers_clauses l f n old res (new ++ post_of 0 (len - 0) old) r k is;
    }
