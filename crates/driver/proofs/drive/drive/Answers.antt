use Rattle.std.proofs.Common.{◌≡◌, Ok, Err, Result, sym, ap, ◌∙◌, subst}
use Rattle.std.proofs.lemmas.Result.{err_from_is_err_and}
use Rattle.checker.specs.declared.Ended.{Ended}
use Rattle.checker.specs.declared.Moved.{Moved}
use Rattle.checker.specs.declared.Refused.{Refused}
use Rattle.checker.specs.Lists.{Lists, lists}
use Rattle.driver.specs.Driving.{Marked, Asking, Driven, stops, ends, goes}
use Rattle.driver.proofs.Guarantees.{guarantee, drive_is_one}
use Rattle.driver.proofs.drive.drive.Goals as goal

pub loop-next-preserved : goal.loop-next-preserved
loop-next-preserved g c o y b w s rest =
    let R = Marked g.P.Producer.replies g.P.Producer.honest in
    let x : Lists = lists c.loop-next.formula c.loop-next.line_values c.loop-next.question in
    let x' : Lists = lists c.ask.new.formula c.ask.new.line_values c.ask.new.question in
    c.loop-next.invariant o y b w s
    (goes
    (subst (λ (m : Moved). Asking R c.args.sheet.now c.loop-next.asked x c.loop-next.answer c.loop-next.work c.loop-next.producer (Ok m) x' c.ask.new.answer c.ask.new.work c.ask.new.producer)
    c.in-Asked.is c.in_ok-next.ensures.is_asked) rest)

pub returns-in-Ended-clause-is_driven : goal.returns-in-Ended-clause-is_driven
returns-in-Ended-clause-is_driven g c =
    let R = Marked g.P.Producer.replies g.P.Producer.honest in
    let x : Lists = lists c.loop-next.formula c.loop-next.line_values c.loop-next.question in
    let x' : Lists = lists c.ask.new.formula c.ask.new.line_values c.ask.new.question in
    c.loop-next.invariant (Ok c.in-Ended.ended) x' c.ask.new.answer c.ask.new.work c.ask.new.producer
    (ends (subst (λ (m : Moved). Asking R c.args.sheet.now c.loop-next.asked x c.loop-next.answer c.loop-next.work c.loop-next.producer (Ok m) x' c.ask.new.answer c.ask.new.work c.ask.new.producer)
    c.in-Ended.is c.in_ok-next.ensures.is_asked))

pub returns-in-Ended-clause-the_guarantee : goal.returns-in-Ended-clause-the_guarantee
returns-in-Ended-clause-the_guarantee g c K Q n s =
    let R = g.P.Producer.replies in
    let honest = g.P.Producer.honest in
    let l = c.args.sheet.now in
    guarantee R honest l K Q _
    (drive_is_one R honest l K Q c.args.asked (lists c.args.formula.now c.args.line_values.now c.args.question.now) c.args.answer.now c.args.work.now
    c.args.producer.now (Ok c.in-Ended.ended) (lists c.ask.new.formula c.ask.new.line_values c.ask.new.question) c.ask.new.answer c.ask.new.work
    c.ask.new.producer (returns-in-Ended-clause-is_driven g c) n s)

pub returns-in_err-next-clause-is_driven : goal.returns-in_err-next-clause-is_driven
returns-in_err-next-clause-is_driven g c =
    let R = Marked g.P.Producer.replies g.P.Producer.honest in
    let x : Lists = lists c.args.formula.now c.args.line_values.now c.args.question.now in
    let x' : Lists = lists c.ask.new.formula c.ask.new.line_values c.ask.new.question in
    let r = c.in_err-next.field-0.0 in
    let p = err_from_is_err_and c.from_residual.result c.from_residual.ensures.1 in
    let told : c.from_residual.result ≡ Err r = p.1 ∙ ap (λ (e : Refused). Err e) p.2 in
    subst (λ (o : Result Ended Refused). Driven R c.args.sheet.now c.args.asked x c.args.answer.now c.args.work.now c.args.producer.now o x' c.ask.new.answer c.ask.new.work c.ask.new.producer)
    (sym told)
    (c.loop-next.invariant (Err r) x' c.ask.new.answer c.ask.new.work c.ask.new.producer (stops c.in_err-next.ensures.is_asked))

pub returns-in_err-next-clause-the_guarantee : goal.returns-in_err-next-clause-the_guarantee
returns-in_err-next-clause-the_guarantee g c K Q n s =
    let R = g.P.Producer.replies in
    let honest = g.P.Producer.honest in
    let l = c.args.sheet.now in
    guarantee R honest l K Q _
    (drive_is_one R honest l K Q c.args.asked (lists c.args.formula.now c.args.line_values.now c.args.question.now) c.args.answer.now c.args.work.now
    c.args.producer.now c.from_residual.result (lists c.ask.new.formula c.ask.new.line_values c.ask.new.question) c.ask.new.answer c.ask.new.work
    c.ask.new.producer (returns-in_err-next-clause-is_driven g c) n s)
