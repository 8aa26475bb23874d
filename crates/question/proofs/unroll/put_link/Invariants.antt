use Rattle.std.proofs.Common.{◌≡◌, ◌-◌, ◌*◌}
use Rattle.lists.specs.Stretch.{stretch}
use Rattle.sheet.specs.Sheets.{sheet_of, latch_count}
use Rattle.question.specs.Clauses.{latch_clauses}
use Rattle.question.specs.Writing.{held, puts, Moved}
use Rattle.question.proofs.unroll.put_link.Given as goal

abbrev pub invariant-loop-i : goal.invariant-loop-i
invariant-loop-i l =
    (puts (held l.page) (stretch (latch_clauses (sheet_of l.sheet.numbers.now) l.t) l.i (latch_count l.sheet.numbers.now - l.i))
    ≡ puts (held l.initial.page) (stretch (latch_clauses (sheet_of l.sheet.numbers.now) l.t) 0 (latch_count l.sheet.numbers.now)))
    × Moved l.initial.page l.page (2 * l.i) (4 * l.i)
