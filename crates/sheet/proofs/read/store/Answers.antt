use Rattle.std.proofs.Common.{◌≡◌, ◌+◌, length, arith}
use Rattle.sheet.specs.Seen.{whole_seen}
use Rattle.sheet.proofs.ReadLines.{store_all}
use Rattle.sheet.proofs.read.store.Goals as goal

pub returns : goal.returns
returns c =
    let zeros = c.fill.ensures.after (λ y e. e) in
    let copied = c.copy_from_slice.ensures.after in
    let h = c.args.head in
    let pairs = c.args.pairs.now in
    let is = store_all (length c.args.list.now) h.counts.inputs h.counts.latches h.counts.gates h.bad pairs (omega (arith, c.requires)) in
    let long : length (whole_seen pairs h) ≡ 4 + length pairs = omega arith in
    cc
