use Rattle.std.proofs.Common.{◌≡◌, ◌+◌, ◌*◌, drop}
use Rattle.signal.specs.Circuit.{gates_of}
use Rattle.signal.proofs.run_gates.Given as goal

-- what is left gives the whole
abbrev pub invariant-loop-i : goal.invariant-loop-i
invariant-loop-i g l =
    let o = g.S.Signal.ops in
    gates_of o (drop (2 * l.i) l.pairs) (l.first + l.i) l.values ≡ gates_of o l.pairs l.first l.initial.values
