use Rattle.std.proofs.Common.{◌≡◌, ◌+◌, ◌-◌, [], ◌∷◌, sym, ◌∙◌, arith}
use Rattle.std.proofs.lemmas.Result.{err_from_is_err_and}
use Rattle.std.proofs.lemmas.List.{append_assoc}
use Rattle.sheet.proofs.ReadLines.{pairs_step, pairs_stop}
use Rattle.sheet.proofs.read.read_pairs.Goals as goal

pub returns-in_err-pair : goal.returns-in_err-pair
returns-in_err-pair c =
    let p = err_from_is_err_and c.from_residual.result c.from_residual.ensures.1 in
    let u = c.args.rule in
    let i = c.loop-i.i in
    let stop = pairs_stop (c.args.count - i) u.due u.most (u.own + i) c.loop-i.pairs.items (u.place + i) c.loop-i.rest.now c.in_err-pair.field-0.0 (omega arith) c.in_err-pair.ensures in
    record { read_off = rw (p.1, p.2) (sym stop ∙ c.loop-i.invariant.0); all = rw p.1 tt }

pub loop-i-preserved : goal.loop-i-preserved
loop-i-preserved c =
    let u = c.args.rule in
    let i = c.loop-i.i in
    let got = c.in_ok-pair.pair in
    let before = c.loop-i.pairs.items in
    let step = pairs_step (c.args.count - i) u.due u.most (u.own + i) before (u.place + i) c.loop-i.rest.now got.first got.second got.rest.now (omega arith) c.in_ok-pair.ensures in
    let two = append_assoc before (got.first ∷ []) (got.second ∷ []) in
    let n : c.args.count - (i + 1) ≡ c.args.count - i - 1 = omega arith in
    let o : u.own + (i + 1) ≡ u.own + i + 1 = omega arith in
    let q : u.place + (i + 1) ≡ u.place + i + 1 = omega arith in
    (cc, omega arith)
