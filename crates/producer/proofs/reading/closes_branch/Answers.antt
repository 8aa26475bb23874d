use Rattle.std.proofs.Common.{sym, ◌∙◌}
use Rattle.producer.proofs.Scans.{closes_due, closes_not_due}
use Rattle.producer.proofs.reading.closes_branch.Goals as goal

pub returns-then-is_due : goal.returns-then-is_due
returns-then-is_due c =
    closes_due c.args.question.now c.args.numbers.now c.clause-literals.result.now c.args.depth c.args.k c.requires.size c.requires.short c.clause-literals.ensures.is_the_clause c.falsifies_clause.result
    (sym c.is_due.ensures ∙ c.if-is_due.true) c.falsifies_clause.ensures.is_only_zero

pub returns-else-is_due : goal.returns-else-is_due
returns-else-is_due c =
    c.is_due.ensures
    ∙ closes_not_due c.args.question.now c.args.numbers.now c.clause-literals.result.now c.args.depth c.args.k c.requires.size c.requires.short c.clause-literals.ensures.is_the_clause
    (sym c.is_due.ensures ∙ c.if-is_due.false)
