use Rattle.std.proofs.Common.{◌≡◌, ◌-◌, ◌*◌}
use Rattle.lists.specs.Stretch.{stretch}
use Rattle.sheet.specs.Sheets.{sheet_of, gate_count}
use Rattle.question.specs.Clauses.{gate_clauses}
use Rattle.question.specs.Writing.{held, puts, Moved}
use Rattle.question.proofs.unroll.put_frame.Given as goal

abbrev pub invariant-loop-g : goal.invariant-loop-g
invariant-loop-g l =
    (puts (held l.page) (stretch (gate_clauses (sheet_of l.sheet.numbers.now) l.t) l.g (gate_count l.sheet.numbers.now - l.g))
    ≡ puts (held l.initial.page) (stretch (gate_clauses (sheet_of l.sheet.numbers.now) l.t) 0 (gate_count l.sheet.numbers.now)))
    × Moved l.initial.page l.page (3 * l.g) (7 * l.g)
