use Rattle.std.proofs.Common.{is_ok, ap, ◌∙◌}
use Rattle.producer.proofs.Screening.{front_judged}
use Rattle.producer.proofs.combine.is_satisfied.Goals as goal

pub returns : goal.returns
returns c =
    c.is_ok.ensures.value
    ∙ ap is_ok (front_judged c.args.question.now c.args.answer.now c.counted.result.now c.front.result.now c.variable_count.result c.satisfies.result
    c.counted.ensures.value c.counted.ensures.few c.variable_count.ensures.is_the_first_number c.front.ensures c.satisfies.ensures.judges_in_order)
