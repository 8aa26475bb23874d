use Rattle.std.proofs.Common.{List, ℕ, ap}
use Rattle.checker.specs.Lists.{lists}
use Rattle.checker.proofs.Keeping.{restored_by}
use Rattle.checker.proofs.lent.Lists.restore.Goals as goal

pub returns-clause-keeps_the_gates : goal.returns-clause-keeps_the_gates
returns-clause-keeps_the_gates c =
    ap
    (λ (f : List ℕ). lists f c.args.self.now.values.now c.args.self.now.question.now)
    (restored_by c.args.self.now.formula.now c.fill.new.self c.args.gates c.counted_len-len.result c.min-from.result c.counted_len-len.ensures
    c.min-from.ensures (c.fill.ensures.after (λ y e. e)))
