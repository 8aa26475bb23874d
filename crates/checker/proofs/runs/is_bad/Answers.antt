use Rattle.std.proofs.Common.{ap, ◌∙◌}
use Rattle.sheet.specs.Sheets.{sheet_of, bad_of}
use Rattle.formula.specs.Formulas.{width}
use Rattle.signal.specs.Circuit.{literal_of}
use Rattle.signal.specs.Kinds.{bit_ops}
use Rattle.lists.specs.Counted.{counted}
use Rattle.checker.proofs.Tracing.{bad_some, bad_none}
use Rattle.checker.proofs.runs.is_bad.Goals as goal

pub returns-in-Some : goal.returns-in-Some
returns-in-Some c =
    let told = rw (c.bad-bad.ensures, c.width.ensures) at c.in-Some.ensures.is_in_the_frame in
    c.literal_value.ensures.is_the_literal ∙ ap (literal_of bit_ops (counted c.args.assignment.now)) c.number.ensures.is_the_number
    ∙ bad_some c.args.assignment.now c.requires _ c.in-Some.literal told

pub returns-in-None : goal.returns-in-None
returns-in-None c =
    let told = rw (c.bad-bad.ensures, c.width.ensures) at c.in-None.ensures.is_in_the_frame in
    rw (c.is_negated.ensures, c.bad-bad.ensures)
    (bad_none c.args.assignment.now c.requires (width (sheet_of c.args.sheet.numbers.now)) c.args.frame (bad_of c.args.sheet.numbers.now) told)
