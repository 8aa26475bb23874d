use Rattle.std.proofs.Common.{◌≡◌, ◌-◌}
use Rattle.sheet.specs.Sheets.{sheet_of, latch_count}
use Rattle.formula.specs.Formulas.{width}
use Rattle.formula.specs.Starting.{join_starts}
use Rattle.formula.proofs.start.join_starts.Given as goal

-- what is left to join gives the answer
abbrev pub invariant-loop-latch : goal.invariant-loop-latch
invariant-loop-latch l =
    (l.builder.width ≡ width (sheet_of l.sheet.numbers.now))
    × (join_starts (sheet_of l.sheet.numbers.now) (latch_count l.sheet.numbers.now - l.latch) l.latch l.literal.0 l.builder.count l.list
    ≡ join_starts (sheet_of l.sheet.numbers.now) (latch_count l.sheet.numbers.now) 0 1 0 l.initial.list)
