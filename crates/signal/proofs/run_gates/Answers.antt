use Rattle.std.proofs.Common.{◌≡◌, ◌+◌, ℕ, List, [], length, get_or, sym, ap, ◌∙◌, arith}
use Rattle.std.proofs.lemmas.List.{length-take}
use Rattle.lists.proofs.Pairs.{pair_front}
use Rattle.signal.specs.Circuit.{node_of}
use Rattle.signal.proofs.Steps.{gates_more, gates_all}
use Rattle.signal.proofs.run_gates.Goals as goal

pub loop-i-preserved : goal.loop-i-preserved
loop-i-preserved g c =
    let o = g.S.Signal.ops in
    let i = c.loop-i.i in
    let few = length-take c.saturating_sub-room.result c.as_chunks.result.0.now in
    let long = ap length c.front-left-items.ensures in
    let pair = pair_front c.args.pairs.now c.as_chunks.result.0.now c.front-left-items.result.now c.saturating_sub-room.result i [] c.as_chunks.ensures.front c.front-left-items.ensures (omega arith) (omega arith) in
    let left = c.node_of.ensures ∙ ap (λ (p : List ℕ). node_of o c.loop-i.values (get_or p 0 0)) pair in
    let right = c.node_of-in-loop-i.ensures ∙ ap (λ (p : List ℕ). node_of o c.loop-i.values (get_or p 1 0)) pair in
    let more = gates_more o c.args.pairs.now i (c.args.first + i) c.loop-i.values (omega arith) in
    let next : c.args.first + (i + 1) ≡ c.args.first + i + 1 = omega arith in
    simp (next, c.and.ensures, left, right) (sym more ∙ c.loop-i.invariant)

pub returns : goal.returns
returns g c =
    let few = length-take c.saturating_sub-room.result c.as_chunks.result.0.now in
    let long = ap length c.front-left-items.ensures in
    sym (gates_all g.S.Signal.ops c.args.pairs.now c.loop-i.i c.args.first c.loop-i.values (omega arith)) ∙ c.loop-i.invariant
