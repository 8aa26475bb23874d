use Rattle.std.proofs.Common.{◌≡◌, map, drop}
use Rattle.question.specs.Writing.{held, pushes, number, Moved}
use Rattle.question.proofs.page.Page.put_clause.Given as goal

abbrev pub invariant-loop-literal : goal.invariant-loop-literal
invariant-loop-literal l =
    (pushes (held l.self) (map number (drop l.literal-index l.literals))
    ≡ pushes (held l.initial.self) (map number l.literals))
    × Moved l.initial.self l.self 0 l.literal-index
