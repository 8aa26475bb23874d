use Rattle.interpolant.proofs.Going.{cleared_by}
use Rattle.interpolant.proofs.draw.clear.Goals as goal

pub returns : goal.returns
returns c = cleared_by c.args.list.now c.fill.new.self c.counted_len-len.result c.counted_len-len.ensures (c.fill.ensures.after (λ y e. e))
