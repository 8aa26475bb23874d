use Rattle.std.proofs.Common.{refl}
use Rattle.sheet.proofs.Written.{placed_whole}
use Rattle.sheet.proofs.write.place.Goals as goal

pub returns : goal.returns
returns c =
    placed_whole c.args.bytes.now c.args.text.now c.copy_from_slice.new.self _ c.fill.new.self _ c.if-text-count.false c.copy_from_slice.ensures.after refl refl (c.fill.ensures.after (λ y e. e))
