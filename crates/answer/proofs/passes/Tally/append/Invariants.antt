use Rattle.std.proofs.Common.{List, ℕ, Option, not, drop}
use Rattle.answer.specs.declared.passes.Tally.{Tally}
use Rattle.answer.specs.Passes.{Taken}
use Rattle.answer.proofs.passes.Tally.append.Given as goal

-- what comes of the literals that are left comes of all
abbrev pub invariant-loop-literal : goal.invariant-loop-literal
invariant-loop-literal l =
    (v : List ℕ) (r : Option Tally)
    → Taken l.tally l.in_first (not l.in_first) l.free v (drop l.literal-index l.rest) r
    → Taken l.fn.self l.in_first (not l.in_first) l.initial.free v l.rest r
