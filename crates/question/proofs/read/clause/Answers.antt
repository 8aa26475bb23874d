use Rattle.std.proofs.Common.{ℕ, List, ap, ◌∙◌}
use Rattle.question.specs.Questions.{clause_of}
use Rattle.question.proofs.Cutting.{clause_cut}
use Rattle.question.proofs.read.clause.Goals as goal

pub returns : goal.returns
returns c =
    let q = c.counted-question.result.now in
    let k = c.args.k in
    let cut = clause_cut q k c.number_at-start.result c.number_at-end.result c.min-from.result c.min-to.result c.number_at-start.ensures c.number_at-end.ensures c.min-to.ensures c.min-from.ensures in
    record { is_the_clause = cut ∙ ap (λ (xs : List ℕ). clause_of xs k) c.counted-question.ensures.value }
