use Rattle.std.proofs.Common.{◌+◌, ◌*◌, get_or, sym, ap, ◌∙◌, arith}
use Rattle.std.proofs.lemmas.List.{take_rest}
use Rattle.sheet.specs.Render.{all_zero}
use Rattle.sheet.proofs.Limits.{fits_last}
use Rattle.sheet.proofs.write.is_well_formed.Goals as goal

pub returns : goal.returns
returns c =
    let l = c.args.list.now in
    let n = get_or l 1 0 in
    let m = get_or l 2 0 in
    c.all_zero.ensures
    ∙ ap all_zero (take_rest l (4 + 2 * (n + m)))
    ∙ sym (fits_last (get_or l 0 0) n m l (omega arith) (omega arith) (omega arith) (omega arith) (omega arith) (omega arith) (sym c.if-not-pairs_fit.ensures) (sym c.if-not-pairs_fit-2.ensures))
