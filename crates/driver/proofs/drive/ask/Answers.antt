use Rattle.std.proofs.Common.{Ok, Err, Result, ap, ◌∙◌}
use Rattle.std.proofs.lemmas.Result.{err_from_is_err_and}
use Rattle.checker.specs.declared.Moved.{Moved}
use Rattle.checker.specs.declared.Refused.{Refused}
use Rattle.producer.specs.declared.interface.Reply.TheVariants.{Assignment, Refutation, TooLong}
use Rattle.checker.specs.Lists.{Lists, lists}
use Rattle.driver.specs.Driving.{Turn}
use Rattle.driver.proofs.Asks.{asked_by, by_reply, shown_by, taken_by, unweighed_by, taken_left}
use Rattle.driver.proofs.drive.ask.Goals as goal

pub returns-in-Assignment-clause-is_asked : goal.returns-in-Assignment-clause-is_asked
returns-in-Assignment-clause-is_asked g c =
    let l = c.args.sheet.now in
    let a = c.args.asked in
    let x : Lists = lists c.args.formula.now c.args.line_values.now c.args.question.now in
    let x' : Lists = lists c.show.new.formula c.show.new.line_values c.show.new.question in
    let b = c.answer-reply.new.answer in
    let w = c.answer-reply.new.work in
    asked_by g.P.Producer.replies g.P.Producer.honest l a x c.args.answer.now c.args.work.now c.args.producer.now c.answer-reply.result
    c.fetch.result.now b w c.answer-reply.new.self c.fetch.ensures.lends_the_question
    c.answer-reply.ensures.keeps_its_word c.answer-reply.ensures.replies_as_it_may c.show.result x' w
    (by_reply l a x b w c.answer-reply.result Assignment c.in-Assignment.is c.show.result x' w
    (shown_by l a x b w c.fetch-in-Assignment.result.now c.front-assignment.result.now c.variable_count-variables.result c.counted.result.now
    c.fetch-in-Assignment.ensures.lends_the_question c.variable_count-variables.ensures.is_the_first_number c.counted.ensures.value c.front-assignment.ensures c.show.result x'
    c.show.ensures.moves_by_the_rules))

pub returns-in_ok-weighed-in-Refutation-clause-is_asked : goal.returns-in_ok-weighed-in-Refutation-clause-is_asked
returns-in_ok-weighed-in-Refutation-clause-is_asked g c =
    let l = c.args.sheet.now in
    let a = c.args.asked in
    let x : Lists = lists c.args.formula.now c.args.line_values.now c.args.question.now in
    let x' : Lists = lists c.take.new.formula c.take.new.line_values c.take.new.question in
    let b = c.answer-reply.new.answer in
    let w = c.answer-reply.new.work in
    asked_by g.P.Producer.replies g.P.Producer.honest l a x c.args.answer.now c.args.work.now c.args.producer.now c.answer-reply.result
    c.fetch.result.now b w c.answer-reply.new.self c.fetch.ensures.lends_the_question
    c.answer-reply.ensures.keeps_its_word c.answer-reply.ensures.replies_as_it_may (Ok c.take.result) x' c.weigh.new.work
    (by_reply l a x b w c.answer-reply.result Refutation c.in-Refutation.is (Ok c.take.result) x' c.weigh.new.work
    (taken_by l a x b w c.in_ok-weighed-in-Refutation.weighed c.weigh.new.work c.take.result x' c.in_ok-weighed-in-Refutation.ensures.judges_by_the_rules
    c.take.ensures.moves_by_the_rules))

pub returns-in_ok-weighed-in-Refutation-clause-fewer_answers_are_left : goal.returns-in_ok-weighed-in-Refutation-clause-fewer_answers_are_left
returns-in_ok-weighed-in-Refutation-clause-fewer_answers_are_left g c =
    taken_left c.args.asked c.in_ok-weighed-in-Refutation.weighed c.take.result c.in_ok-weighed-in-Refutation.ensures.is_the_same_check
    c.take.ensures.fewer_answers_are_left

pub returns-in_err-weighed-in-Refutation-clause-is_asked : goal.returns-in_err-weighed-in-Refutation-clause-is_asked
returns-in_err-weighed-in-Refutation-clause-is_asked g c =
    let l = c.args.sheet.now in
    let a = c.args.asked in
    let x : Lists = lists c.args.formula.now c.args.line_values.now c.args.question.now in
    let b = c.answer-reply.new.answer in
    let w = c.answer-reply.new.work in
    let r = c.in_err-weighed-in-Refutation.field-0.0 in
    let p = err_from_is_err_and c.from_residual.result c.from_residual.ensures.1 in
    asked_by g.P.Producer.replies g.P.Producer.honest l a x c.args.answer.now c.args.work.now c.args.producer.now c.answer-reply.result
    c.fetch.result.now b w c.answer-reply.new.self c.fetch.ensures.lends_the_question
    c.answer-reply.ensures.keeps_its_word c.answer-reply.ensures.replies_as_it_may c.from_residual.result x c.weigh.new.work
    (by_reply l a x b w c.answer-reply.result Refutation c.in-Refutation.is c.from_residual.result x c.weigh.new.work
    (ap (λ (o : Result Moved Refused). let t : Turn = (o, x, c.weigh.new.work) in t) (p.1 ∙ ap (λ (e : Refused). Err e) p.2)
    ∙ unweighed_by l a x b w r c.weigh.new.work c.in_err-weighed-in-Refutation.ensures.judges_by_the_rules))

pub returns-in-TooLong-clause-is_asked : goal.returns-in-TooLong-clause-is_asked
returns-in-TooLong-clause-is_asked g c =
    let x : Lists = lists c.args.formula.now c.args.line_values.now c.args.question.now in
    let b = c.answer-reply.new.answer in
    let w = c.answer-reply.new.work in
    asked_by g.P.Producer.replies g.P.Producer.honest c.args.sheet.now c.args.asked x c.args.answer.now c.args.work.now c.args.producer.now c.answer-reply.result
    c.fetch.result.now b w c.answer-reply.new.self c.fetch.ensures.lends_the_question
    c.answer-reply.ensures.keeps_its_word c.answer-reply.ensures.replies_as_it_may (Err c.unanswered.result) x w
    (by_reply c.args.sheet.now c.args.asked x b w c.answer-reply.result TooLong c.in-TooLong.is (Err c.unanswered.result) x w
    (ap (λ r. let t : Turn = (Err r, x, w) in t) c.unanswered.ensures))
