use Rattle.std.proofs.Common.{length, arith}
use Rattle.checker.proofs.Tracing.{copied}
use Rattle.checker.proofs.runs.copy_from.Goals as goal

pub returns : goal.returns
returns c =
    copied c.args.list.now c.loop-i.part c.args.from (length c.args.part.now) (omega arith) (λ k h. c.loop-i.invariant k (omega arith))
