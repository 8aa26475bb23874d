use Rattle.std.proofs.Common.{Decides, sym, ap, ◌∙◌, subst}
use Rattle.lists.specs.Counted.{counted}
use Rattle.sheet.specs.Render.{well_formed}
use Rattle.sheet.specs.Sheets.{Legal}
use Rattle.sheet.proofs.Legality.{well_formed_decides}
use Rattle.sheet.proofs.write.is_legal.Goals as goal

pub returns : goal.returns
returns c =
    let l = counted c.args.list.now in
    let is = c.is_well_formed.ensures ∙ ap well_formed c.counted.ensures.value in
    record { decides_legal = subst (λ r. Decides r (Legal l)) (sym is) (well_formed_decides l); is_the_test = is }
