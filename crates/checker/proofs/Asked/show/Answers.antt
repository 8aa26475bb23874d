use Rattle.std.proofs.Common.{Ok, arith, rules}
use Rattle.checker.specs.Lists.{lists}
use Rattle.checker.proofs.Going.{by_shown}
use Rattle.checker.proofs.Promising.{by_show, shown_answers}
use Rattle.checker.proofs.Asked.show.Goals as goal

pub returns-in-Ok-clause-moves_by_the_rules : goal.returns-in-Ok-clause-moves_by_the_rules
returns-in-Ok-clause-moves_by_the_rules c = search rules

pub returns-in-Ok-clause-the_series_goes_on : goal.returns-in-Ok-clause-the_series_goes_on
returns-in-Ok-clause-the_series_goes_on c =
    by_show c.args.sheet.now c.args.self c.args.assignment.now (lists c.args.formula.now c.args.line_values.now c.args.question.now)
    (Ok c.moved.result) _ (returns-in-Ok-clause-moves_by_the_rules c)

pub returns-in-Ok-clause-fewer_answers_are_left : goal.returns-in-Ok-clause-fewer_answers_are_left
returns-in-Ok-clause-fewer_answers_are_left c =
    by_shown c.args.sheet.now c.args.self c.args.assignment.now (lists c.args.formula.now c.args.line_values.now c.args.question.now)
    (Ok c.moved.result) _ (omega arith) (returns-in-Ok-clause-moves_by_the_rules c)

pub returns-in-Ok-clause-answers_in_the_procedure : goal.returns-in-Ok-clause-answers_in_the_procedure
returns-in-Ok-clause-answers_in_the_procedure c =
    shown_answers c.args.sheet.now c.args.self c.args.assignment.now (lists c.args.formula.now c.args.line_values.now c.args.question.now)
    (Ok c.moved.result) _ (returns-in-Ok-clause-moves_by_the_rules c)
