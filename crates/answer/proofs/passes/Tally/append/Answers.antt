use Rattle.std.proofs.Common.{not, Some, sym, subst, arith}
use Rattle.std.proofs.lemmas.List.{drop_all, drop_more}
use Rattle.answer.specs.Passes.{Taken}
use Rattle.answer.proofs.Passing.{taken_more, taken_none}
use Rattle.answer.proofs.passes.Tally.append.Goals as goal

pub loop-literal-preserved : goal.loop-literal-preserved
loop-literal-preserved c = λ v r h.
    c.loop-literal.invariant v r (
    subst (λ zs. Taken c.loop-literal.tally c.args.in_first (not c.args.in_first) c.loop-literal.free v zs r)
    (sym (drop_more c.args.rest.now c.loop-literal.literal-index 0 (omega arith)))
    (taken_more _ _ _ _ _ _ _ c.in_ok-tally.ensures v _ r h))

pub returns : goal.returns
returns c =
    c.loop-literal.invariant _ (Some c.loop-literal.tally) (
    subst (λ zs. Taken c.loop-literal.tally c.args.in_first (not c.args.in_first) c.loop-literal.free c.loop-literal.free zs (Some c.loop-literal.tally))
    (sym (drop_all c.loop-literal.literal-index c.args.rest.now (omega arith)))
    (taken_none _ _ _ _))
