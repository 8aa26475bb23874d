use Rattle.std.proofs.Common.{◌≡◌, drop}
use Rattle.signal.specs.Circuit.{or_all, clause_of}
use Rattle.signal.proofs.clause_of.Given as goal

-- what is left gives the whole
abbrev pub invariant-loop-literal : goal.invariant-loop-literal
invariant-loop-literal g l =
    let o = g.S.Signal.ops in
    or_all o l.numbers l.any (drop l.literal-index l.literals) ≡ clause_of o l.numbers l.literals
