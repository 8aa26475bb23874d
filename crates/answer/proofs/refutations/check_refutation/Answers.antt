use Rattle.std.proofs.Common.{◌≡◌, ◌-◌, true, length, is_ok, Decides, sym, ap, ◌∙◌, subst, arith}
use Rattle.lists.specs.Counted.{counted}
use Rattle.question.specs.Questions.{span}
use Rattle.answer.specs.Derivations.{Derives, Refutes}
use Rattle.answer.specs.Layout.{Lays}
use Rattle.answer.specs.Reasons.{RefutationReasoned}
use Rattle.answer.specs.Steps.{step_count}
use Rattle.answer.proofs.Verdicts.{cut_check, cut_answer, cut_list, accepts_exactly, accepted_derives, accepted_lays, accepted_unsatisfiable, refused_cleared, check_reasoned, cancels_two_refused}
use Rattle.answer.proofs.refutations.check_refutation.Goals as goal

pub returns : goal.returns
returns c =
    let q = counted c.args.question.now in
    let t = counted c.args.refutation.now in
    let w = c.args.work.now in
    let m = counted w in
    let whole =
    cut_check q t w (c.counted_len-room.result - 0) c.counted.result.now c.counted-2.result.now c.check_counted.new.work c.check_counted.result
    (omega (arith, c.counted_len-room.ensures)) c.counted.ensures.value c.counted-2.ensures.value c.check_counted.ensures.answers
    c.check_counted.ensures.leaves in
    let answer = cut_answer q t w _ _ whole in
    let list = sym (cut_list q t w _ _ whole) in
    let accepted = λ (ok : is_ok c.check_counted.result ≡ true). ap is_ok (sym answer) ∙ ok in
    record {
      checks_each_step_in_order = whole;
      accepts_exactly_refutations = λ is. subst (λ r. Decides (is_ok r) (Refutes q t (length m))) (sym answer) (accepts_exactly q t m is);
      derives_the_lines = λ is ok. subst (λ v. Derives q t (span v)) list (accepted_derives q t m (accepted ok) is);
      lays_the_lines_out = λ ok. subst (λ v. Lays (step_count t) v) list (accepted_lays q t m (accepted ok));
      gives_the_reason = λ is. subst (RefutationReasoned q t (length m)) (sym answer) (check_reasoned q t m is);
      clears_the_working_list_if_refused = λ refused. sym list ∙ refused_cleared q t m (ap is_ok (sym answer) ∙ refused);
      refutes = λ is ok. accepted_unsatisfiable q t m (accepted ok) is;
      a_step_that_cancels_two_variables_is_refused = λ i is two. answer ∙ cancels_two_refused q t m i is two;
    }
