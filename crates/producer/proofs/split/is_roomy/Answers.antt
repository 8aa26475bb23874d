use Rattle.std.proofs.Common.{◌≡◌, ◌∙◌, rules}
use Rattle.question.specs.Questions.{variable_count, clause_count}
use Rattle.producer.proofs.Scans.{whole_counts}
use Rattle.producer.proofs.split.is_roomy.Goals as goal

pub returns-then-side-room : goal.returns-then-side-room
returns-then-side-room c =
    let v : c.variable_count-v.result ≡ variable_count c.args.question.now = c.variable_count-v.ensures.is_the_first_number ∙ (whole_counts c.args.question.now c.requires).0 in
    let n : c.clause_count.result ≡ clause_count c.args.question.now = c.clause_count.ensures.is_the_second_number ∙ (whole_counts c.args.question.now c.requires).1 in
    search rules

pub returns-else-side-room : goal.returns-else-side-room
returns-else-side-room c =
    let v : c.variable_count-v.result ≡ variable_count c.args.question.now = c.variable_count-v.ensures.is_the_first_number ∙ (whole_counts c.args.question.now c.requires).0 in
    search rules
