use Rattle.std.proofs.Common.{◌≡◌, drop}
use Rattle.interpolant.specs.Drawing.{or_shared, Stays}
use Rattle.interpolant.specs.Parting.{cut_by}
use Rattle.interpolant.proofs.lines.draw_clause.Given as goal

-- what is left of the clause gives the answer
abbrev pub invariant-loop-x : goal.invariant-loop-x
invariant-loop-x l =
    (l.builder.width ≡ l.parts.width)
    × (or_shared l.parts.width (cut_by l.parts) (drop l.x-index l.clause) l.literal.0 l.builder.count l.formula
    ≡ or_shared l.parts.width (cut_by l.parts) l.clause 0 l.gates l.initial.formula)
    × Stays l.initial.formula l.formula
