use Rattle.std.proofs.Common.{sym, ◌∙◌}
use Rattle.std.proofs.lemmas.List.{at_drop_more, at_drop_all}
use Rattle.signal.specs.Circuit.{or_all}
use Rattle.signal.proofs.clause_of.Goals as goal

pub loop-literal-preserved : goal.loop-literal-preserved
loop-literal-preserved g c =
    let left = or_all g.S.Signal.ops c.args.numbers.now c.loop-literal.any in
    let more = at_drop_more left c.args.literals.now c.loop-literal.literal-index 0 c.loop-literal-test.true in
    simp (c.or-any.ensures, c.literal_of.ensures) (sym more ∙ c.loop-literal.invariant)

pub returns : goal.returns
returns g c =
    let left = or_all g.S.Signal.ops c.args.numbers.now c.loop-literal.any in
    sym (at_drop_all left c.args.literals.now c.loop-literal.literal-index c.loop-literal-test.false) ∙ c.loop-literal.invariant
