use Rattle.std.proofs.Common.{sym, refl, ap, ◌∙◌, arith}
use Rattle.std.proofs.lemmas.Result.{err_from_is_err_and}
use Rattle.sheet.specs.Faults.{map_ok}
use Rattle.answer.specs.Steps.{step_of, onward}
use Rattle.answer.specs.declared.steps.Progress.{Progress}
use Rattle.answer.proofs.Going.{ended_ok, run_ok, run_err}
use Rattle.answer.proofs.refutations.take_steps.Goals as goal

pub returns-in_err-end : goal.returns-in_err-end
returns-in_err-end c =
    let at : Progress = record { step = c.loop-step.step; end = c.loop-step.end } in
    let p = err_from_is_err_and c.from_residual.result c.from_residual.ensures.1 in
    let told = c.in_err-end.ensures.goes_on in
    let e =
    sym c.loop-step.invariant.same
    ∙ run_err c.args.question.now c.args.refutation.now c.loop-step.work c.args.steps at c.loop-step-test.true _ told in
    rw (p.1, p.2, e) (record { answers = refl; leaves = tt })

pub loop-step-preserved : goal.loop-step-preserved
loop-step-preserved c =
    let q = c.args.question.now in
    let t = c.args.refutation.now in
    let w = c.loop-step.work in
    let at : Progress = record { step = c.loop-step.step; end = c.loop-step.end } in
    let told = c.in_ok-end.ensures in
    let next = ended_ok q w (step_of t at.step) at _ (ap (map_ok (λ (more : Progress). more.end)) told.goes_on) in
    record {
      behind = omega (arith, next.1, c.loop-step.invariant.behind);
      same = sym (run_ok q t w c.args.steps at c.loop-step-test.true _ (onward at _) next.0 told.writes) ∙ c.loop-step.invariant.same;
    }
