use Rattle.std.proofs.Common.{◌≡◌, ◌-◌}
use Rattle.interpolant.specs.Drawing.{draw_lines, Stays}
use Rattle.interpolant.specs.Parting.{cut_by}
use Rattle.interpolant.proofs.lines.Drawing.lines.Given as goal

-- the lines that are left give the answer
abbrev pub invariant-loop-line : goal.invariant-loop-line
invariant-loop-line l =
    (draw_lines l.self.parts.width (cut_by l.self.parts) l.self.question.now l.self.refutation.now (l.lines - l.line) l.line l.values l.count l.formula
    ≡ draw_lines l.self.parts.width (cut_by l.self.parts) l.self.question.now l.self.refutation.now l.lines 0 l.initial.values l.gates l.initial.formula)
    × Stays l.initial.formula l.formula
