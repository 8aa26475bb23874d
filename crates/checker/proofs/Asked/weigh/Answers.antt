use Rattle.std.proofs.Common.{ℕ, List, Ok, Err, Result, ap, ◌∙◌}
use Rattle.checker.specs.declared.Weighed.{Weighed}
use Rattle.checker.specs.declared.Refused.{Refused}
use Rattle.checker.proofs.Calling.{weighed_by}
use Rattle.checker.proofs.Promising.{by_weigh}
use Rattle.checker.proofs.Asked.weigh.Goals as goal

pub returns-in-Ok-clause-judges_by_the_rules : goal.returns-in-Ok-clause-judges_by_the_rules
returns-in-Ok-clause-judges_by_the_rules c =
    weighed_by c.args.self c.args.question.now c.args.refutation.now c.args.work.now c.fetch.result.now
    c.check_refutation.new.work (Ok c.in-Ok.field-0) c.fetch.ensures.lends_the_question c.in-Ok.ensures.checks_each_step_in_order

pub returns-in-Err-clause-judges_by_the_rules : goal.returns-in-Err-clause-judges_by_the_rules
returns-in-Err-clause-judges_by_the_rules c =
    ap (λ (x : Refused). let p : Result Weighed Refused × List ℕ = (Err x, c.check_refutation.new.work) in p) c.refused.ensures
    ∙ weighed_by c.args.self c.args.question.now c.args.refutation.now c.args.work.now c.fetch.result.now
    c.check_refutation.new.work (Err c.in-Err.fault) c.fetch.ensures.lends_the_question c.in-Err.ensures.checks_each_step_in_order

pub returns-in-Ok-clause-the_series_goes_on : goal.returns-in-Ok-clause-the_series_goes_on
returns-in-Ok-clause-the_series_goes_on c =
    by_weigh c.args.self c.args.question.now c.args.refutation.now c.args.work.now (Ok (record { asked = c.args.self })) c.check_refutation.new.work
    (returns-in-Ok-clause-judges_by_the_rules c)
