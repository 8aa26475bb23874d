use Rattle.std.proofs.Common.{◌≡◌, ◌+◌, ◌-◌, ◌*◌, ℕ, List, [], get_or, true, false, sym, subst, ◌∙◌, arith}
use Rattle.lists.proofs.Pairs.{pair_in}
use Rattle.sheet.proofs.Legality.{pair_fits}
use Rattle.sheet.proofs.Limits.{pair_fits_lem, pair_not}
use Rattle.sheet.proofs.write.pairs_fit.Goals as goal

pub returns-then-not-pair_fits : goal.returns-then-not-pair_fits
returns-then-not-pair_fits c =
    let i = c.loop-i.i in
    let k = c.args.from + 2 * i in
    let pair = pair_in c.args.list.now c.as_chunks.result.0.now c.args.from c.args.count _ i [] (omega arith) c.requires.there c.as_chunks.ensures.front (omega arith) in
    let not = subst (λ (p : List ℕ). false ≡ pair_fits c.args.due c.args.most (c.args.own + i) (get_or p 0 0) (get_or p 1 0)) pair c.if-not-pair_fits.ensures in
    sym (pair_not (c.args.count - i) c.args.due c.args.most (c.args.own + i) k c.args.list.now (omega arith) not) ∙ c.loop-i.invariant

pub loop-i-preserved : goal.loop-i-preserved
loop-i-preserved c =
    let i = c.loop-i.i in
    let k = c.args.from + 2 * i in
    let pair = pair_in c.args.list.now c.as_chunks.result.0.now c.args.from c.args.count _ i [] (omega arith) c.requires.there c.as_chunks.ensures.front (omega arith) in
    let fits = subst (λ (p : List ℕ). true ≡ pair_fits c.args.due c.args.most (c.args.own + i) (get_or p 0 0) (get_or p 1 0)) pair c.if-not-pair_fits.ensures in
    let more = pair_fits_lem (c.args.count - i) c.args.due c.args.most (c.args.own + i) k c.args.list.now (omega arith) fits in
    let n : c.args.count - (i + 1) ≡ c.args.count - i - 1 = omega arith in
    let m : c.args.from + 2 * (i + 1) ≡ k + 2 = omega arith in
    let o : c.args.own + (i + 1) ≡ c.args.own + i + 1 = omega arith in
    cc
