use Rattle.std.proofs.Common.{arith, rules}
use Rattle.checker.specs.Lists.{lists}
use Rattle.checker.proofs.Going.{by_taken}
use Rattle.checker.proofs.Promising.{by_take, taken_answers}
use Rattle.checker.proofs.Weighed.take.Goals as goal

pub returns-clause-moves_by_the_rules : goal.returns-clause-moves_by_the_rules
returns-clause-moves_by_the_rules c = search rules

pub returns-clause-the_series_goes_on : goal.returns-clause-the_series_goes_on
returns-clause-the_series_goes_on c =
    by_take c.args.sheet.now c.args.self c.args.refutation.now (lists c.args.formula.now c.args.line_values.now c.args.question.now)
    c.moved.result _ (returns-clause-moves_by_the_rules c)

pub returns-clause-fewer_answers_are_left : goal.returns-clause-fewer_answers_are_left
returns-clause-fewer_answers_are_left c =
    by_taken c.args.sheet.now c.args.self c.args.refutation.now (lists c.args.formula.now c.args.line_values.now c.args.question.now)
    c.moved.result _ (omega arith) (returns-clause-moves_by_the_rules c)

pub returns-clause-answers_in_the_procedure : goal.returns-clause-answers_in_the_procedure
returns-clause-answers_in_the_procedure c =
    taken_answers c.args.sheet.now c.args.self c.args.refutation.now (lists c.args.formula.now c.args.line_values.now c.args.question.now)
    c.moved.result _ (returns-clause-moves_by_the_rules c)
