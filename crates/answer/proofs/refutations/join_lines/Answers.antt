use Rattle.std.proofs.Common.{refl}
use Rattle.answer.proofs.Fronts.{made_behind}
use Rattle.answer.proofs.refutations.join_lines.Goals as goal

pub returns-clause-writes : goal.returns-clause-writes
returns-clause-writes c = λ _.
    let parts = c.in_ok-work.ensures.cases in
    made_behind c.args.question.now c.args.work.now c.args.s _ _ _ _ _ _ parts.0 parts.1 parts.2 c.clause_at-first.ensures
    c.clause_at-second.ensures (c.in_ok-count.ensures.writes refl)
