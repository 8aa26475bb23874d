use Rattle.std.proofs.Common.{◌≡◌, ◌+◌, ◌-◌, [], ◌∷◌}
use Rattle.lists.specs.Stretch.{stretch}
use Rattle.sheet.specs.Sheets.{sheet_of}
use Rattle.formula.specs.Formulas.{width}
use Rattle.formula.specs.Framing.{in_frame}
use Rattle.question.specs.Writing.{held, pushes, Moved}
use Rattle.question.proofs.unroll.put_bad.Given as goal

abbrev pub invariant-loop-t : goal.invariant-loop-t
invariant-loop-t l =
    let s = sheet_of l.sheet.numbers.now in
    (pushes (held l.page) (stretch (λ t. in_frame (width s) t s.bad ∷ []) l.t (l.k + 2 - l.t))
    ≡ pushes (held l.initial.page) (stretch (λ t. in_frame (width s) t s.bad ∷ []) 1 (l.k + 1)))
    × Moved l.initial.page l.page 0 (l.t - 1)
