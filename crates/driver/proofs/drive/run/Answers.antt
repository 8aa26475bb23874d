use Rattle.std.proofs.Common.{◌≡◌, Ok, Err, Result, sym, ap, ◌∙◌, subst}
use Rattle.std.proofs.lemmas.Result.{err_from_is_err_and}
use Rattle.checker.specs.declared.Ended.{Ended}
use Rattle.checker.specs.Lists.{Lists, lists}
use Rattle.driver.specs.declared.drive.Stopped.{Stopped}
use Rattle.driver.specs.declared.drive.Stopped.TheVariants.{Unopened, Refused as StoppedAt}
use Rattle.driver.specs.Driving.{Marked}
use Rattle.driver.specs.Guarantee.{RunIsOne}
use Rattle.driver.proofs.Guarantees.{guarantee, run_unopened, run_driven}
use Rattle.driver.proofs.drive.run.Goals as goal

pub returns-in_err-asked : goal.returns-in_err-asked
returns-in_err-asked g c =
    let R = g.P.Producer.replies in
    let honest = g.P.Producer.honest in
    let l = c.args.sheet.now in
    let vs = c.args.line_values.now in
    let x : Lists = lists c.args.formula.now vs c.args.question.now in
    let e = c.in_err-asked.field-0.0 in
    let p = err_from_is_err_and c.from_residual.result c.from_residual.ensures.1 in
    let told : c.from_residual.result ≡ Err (Unopened e) = p.1 ∙ ap (λ (s : Stopped). Err s) p.2 in
    record {
      the_guarantee =
          guarantee R honest l c.args.step_limit c.args.turn_limit _
          (subst (λ (o : Result Ended Stopped). RunIsOne (Marked R honest) l c.args.step_limit c.args.turn_limit x c.args.answer.now c.args.work.now c.args.producer.now o (lists c.open.new.formula vs c.open.new.question) c.args.answer.now c.args.work.now c.args.producer.now)
          (sym told)
          (run_unopened R honest l c.args.step_limit c.args.turn_limit c.args.formula.now vs c.args.question.now c.args.answer.now c.args.work.now
          c.args.producer.now e c.open.new.formula c.open.new.question c.in_err-asked.ensures.opens_by_the_rules));
    }

pub returns-in_err-ended : goal.returns-in_err-ended
returns-in_err-ended g c =
    let R = g.P.Producer.replies in
    let honest = g.P.Producer.honest in
    let l = c.args.sheet.now in
    let vs = c.args.line_values.now in
    let x : Lists = lists c.args.formula.now vs c.args.question.now in
    let x' : Lists = lists c.drive.new.formula c.drive.new.line_values c.drive.new.question in
    let r = c.in_err-ended.field-0.0 in
    let p = err_from_is_err_and c.from_residual-in_err-ended.result c.from_residual-in_err-ended.ensures.1 in
    let told : c.from_residual-in_err-ended.result ≡ Err (StoppedAt r) = p.1 ∙ ap (λ (s : Stopped). Err s) p.2 in
    record {
      the_guarantee =
          guarantee R honest l c.args.step_limit c.args.turn_limit _
          (subst (λ (o : Result Ended Stopped). RunIsOne (Marked R honest) l c.args.step_limit c.args.turn_limit x c.args.answer.now c.args.work.now c.args.producer.now o x' c.drive.new.answer c.drive.new.work c.drive.new.producer)
          (sym told)
          (run_driven R honest l c.args.step_limit c.args.turn_limit c.args.formula.now vs c.args.question.now c.args.answer.now c.args.work.now
          c.args.producer.now c.in_ok-asked.asked c.open.new.formula c.open.new.question c.in_ok-asked.ensures.opens_by_the_rules
          (Err r) x' c.drive.new.answer c.drive.new.work c.drive.new.producer c.in_err-ended.ensures.is_driven));
    }

pub returns : goal.returns
returns g c =
    record {
      the_guarantee =
          guarantee g.P.Producer.replies g.P.Producer.honest c.args.sheet.now c.args.step_limit c.args.turn_limit _
          (run_driven g.P.Producer.replies g.P.Producer.honest c.args.sheet.now c.args.step_limit c.args.turn_limit c.args.formula.now c.args.line_values.now
          c.args.question.now c.args.answer.now c.args.work.now c.args.producer.now c.in_ok-asked.asked c.open.new.formula c.open.new.question
          c.in_ok-asked.ensures.opens_by_the_rules (Ok c.in_ok-ended.ended) (lists c.drive.new.formula c.drive.new.line_values c.drive.new.question)
          c.drive.new.answer c.drive.new.work c.drive.new.producer c.in_ok-ended.ensures.is_driven);
    }
