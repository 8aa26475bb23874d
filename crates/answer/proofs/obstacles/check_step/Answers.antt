use Rattle.std.proofs.Common.{sym, ◌∙◌, arith}
use Rattle.lists.proofs.Taken.{take_min}
use Rattle.answer.proofs.Fronts.{suited_is}
use Rattle.answer.proofs.obstacles.check_step.Goals as goal

pub returns : goal.returns
returns c =
    let w = c.args.work.now in
    let at = c.args.at in
    c.check_clauses.ensures
    ∙ suited_is c.args.question.now w c.args.s at (sym c.come_before.ensures ∙ c.if-not-come_before.false) _ _ _
    (take_min w at.end c.min.result (omega (arith, c.min.ensures))) c.clause_at.ensures c.clause_at-2.ensures
