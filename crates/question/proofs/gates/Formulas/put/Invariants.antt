use Rattle.std.proofs.Common.{◌≡◌, ◌-◌, ◌*◌}
use Rattle.lists.specs.Stretch.{stretch}
use Rattle.sheet.specs.Sheets.{sheet_of}
use Rattle.question.specs.Clauses.{formula_gate}
use Rattle.question.specs.Writing.{held, puts, Moved}
use Rattle.question.proofs.gates.Formulas.put.Given as goal

abbrev pub invariant-loop-g : goal.invariant-loop-g
invariant-loop-g l =
    (puts (held l.page) (stretch (formula_gate (sheet_of l.self.sheet.numbers.now) l.self.frames l.self.gates.list.now) l.g (l.self.gates.count - l.g))
    ≡ puts (held l.initial.page) (stretch (formula_gate (sheet_of l.self.sheet.numbers.now) l.self.frames l.self.gates.list.now) 0 l.self.gates.count))
    × Moved l.initial.page l.page (3 * l.g) (7 * l.g)
