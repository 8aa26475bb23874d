use Rattle.std.proofs.Common.{◌≡◌, ◌+◌, ◌-◌, ◌*◌, drop}
use Rattle.sheet.specs.Render.{pairs_fit}
use Rattle.sheet.proofs.write.pairs_fit.Given as goal

-- what is left gives the answer
abbrev pub invariant-loop-i : goal.invariant-loop-i
invariant-loop-i l =
    pairs_fit (l.count - l.i) l.due l.most (l.own + l.i) (drop (l.from + 2 * l.i) l.list)
    ≡ pairs_fit l.count l.due l.most l.own (drop l.from l.list)
