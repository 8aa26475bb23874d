use Rattle.std.proofs.Common.{sym, ◌∙◌, arith, length-take, ◌^◌}
use Rattle.lists.specs.Counted.{counted}
use Rattle.sheet.proofs.Legality.{well_formed_legal}
use Rattle.checker.proofs.Beginning.{opened_if, unstarted, unasked}
use Rattle.checker.proofs.Promising.{by_open}
use Rattle.checker.proofs.Asked.open.Goals as goal

pub returns-then-counted_len-gates-clause-opens_by_the_rules : goal.returns-then-counted_len-gates-clause-opens_by_the_rules
returns-then-counted_len-gates-clause-opens_by_the_rules c =
    let formed = rw c.in_ok-legal.ensures.ok_part at c.new.ensures.is_the_test in
    unstarted c.args.sheet.now c.args.step_limit c.args.turn_limit c.args.formula.now c.args.question.now formed (omega arith) (omega arith)
    (omega arith) c.unopened-then-counted_len-gates.result c.unopened-then-counted_len-gates.ensures c.start_size-gates.result
    c.counted_len.result c.start_size-gates.ensures.counts_the_gates c.counted_len.ensures c.if-counted_len-gates.true

pub returns-then-counted_len-start_question_size-clause-opens_by_the_rules : goal.returns-then-counted_len-start_question_size-clause-opens_by_the_rules
returns-then-counted_len-start_question_size-clause-opens_by_the_rules c =
    let formed = rw c.in_ok-legal.ensures.ok_part at c.new.ensures.is_the_test in
    let is = rw c.in_ok-legal.ensures.ok_part at c.new.ensures.only_of_legal_lists in
    unasked c.args.sheet.now c.args.step_limit c.args.turn_limit c.args.formula.now c.args.question.now formed (omega arith) (omega arith)
    (omega arith) c.unopened-then-counted_len-start_question_size.result c.unopened-then-counted_len-start_question_size.ensures
    c.start_size-gates.result c.counted_len.result c.start_size-gates.ensures.counts_the_gates c.counted_len.ensures c.if-counted_len-gates.false
    c.start_question_size.result c.counted_len-2.result (rw is at c.start_question_size.ensures) c.counted_len-2.ensures
    c.if-counted_len-start_question_size.true

pub begin-requires : goal.begin-requires
begin-requires c =
    let formed = rw c.in_ok-legal.ensures.ok_part at c.new.ensures.is_the_test in
    let is = rw c.in_ok-legal.ensures.ok_part at c.new.ensures.only_of_legal_lists in
    let size = rw is at c.start_question_size.ensures in
    record {
      legal = well_formed_legal (counted c.args.sheet.now) (sym formed);
      room = omega (arith, length-take (2 ^ 28) c.args.formula.now, c.start_size-gates.ensures.counts_the_gates);
      space = omega (arith, length-take (2 ^ 28) c.args.question.now, c.start_size-gates.ensures.counts_the_gates, size);
    }

pub returns-clause-opens_by_the_rules : goal.returns-clause-opens_by_the_rules
returns-clause-opens_by_the_rules c =
    let formed = rw c.in_ok-legal.ensures.ok_part at c.new.ensures.is_the_test in
    c.begin.ensures
    ∙ sym (opened_if c.args.sheet.now c.args.step_limit c.args.turn_limit c.args.formula.now c.args.question.now formed (omega arith)
    (omega arith) (omega arith))

pub returns-clause-a_series_begins : goal.returns-clause-a_series_begins
returns-clause-a_series_begins c =
    by_open c.args.sheet.now c.args.step_limit c.args.turn_limit c.args.formula.now c.args.question.now c.begin.result
    c.begin.new.formula c.begin.new.question (returns-clause-opens_by_the_rules c)
