use Rattle.std.proofs.Common.{ℕ, ◌+◌, get_or, refl, ap, ◌∙◌}
use Rattle.interpolant.specs.Parting.{cut_by}
use Rattle.interpolant.proofs.Going.{all_refused, all_drawn, all_broken}
use Rattle.interpolant.proofs.draw.draw.Goals as goal

pub returns-then-lines-values : goal.returns-then-lines-values
returns-then-lines-values c =
    all_refused c.args.drawing.now.parts.width (cut_by c.args.drawing.now.parts) c.args.drawing.now.question.now c.args.drawing.now.refutation.now c.args.gates c.args.formula.now c.args.values.now c.args.drawing.now.few_clauses
    (c.clause_count-clauses.result + c.number_at.result) c.clause_count-clauses.result c.number_at.result refl c.clause_count-clauses.ensures.is_the_second_number c.number_at.ensures c.if-lines-values.true

pub returns : goal.returns
returns c =
    let vs = c.lines.new.values in
    let last = c.from_number.ensures ∙ c.number_at-last.ensures ∙ ap (λ (k : ℕ). get_or vs k 0) c.saturating_sub.ensures in
    all_drawn c.args.drawing.now.parts.width (cut_by c.args.drawing.now.parts) c.args.drawing.now.question.now c.args.drawing.now.refutation.now c.args.gates c.args.formula.now c.args.values.now c.args.drawing.now.few_clauses
    (c.clause_count-clauses.result + c.number_at.result) c.clause_count-clauses.result c.number_at.result refl c.clause_count-clauses.ensures.is_the_second_number c.number_at.ensures c.if-lines-values.false
    c.fill.new.self (c.fill.ensures.after (λ y e. e)) c.in-Some.gates c.lines.new.formula vs c.in-Some.ensures.gives c.from_number.result.0 last

pub returns-in_default : goal.returns-in_default
returns-in_default c =
    all_broken c.args.drawing.now.parts.width (cut_by c.args.drawing.now.parts) c.args.drawing.now.question.now c.args.drawing.now.refutation.now c.args.gates c.args.formula.now c.args.values.now c.args.drawing.now.few_clauses
    (c.clause_count-clauses.result + c.number_at.result) c.clause_count-clauses.result c.number_at.result refl c.clause_count-clauses.ensures.is_the_second_number c.number_at.ensures c.if-lines-values.false
    c.fill.new.self (c.fill.ensures.after (λ y e. e)) c.in_default.ensures.gives c.lines.new.formula c.in_default.ensures.keeps c.lines.auto.formula c.clear.new.list c.clear.ensures
    c.lines.new.values (c.lines.auto.values ∙ c.fill.auto.self) c.requires c.clear-in_default.new.list c.clear-in_default.ensures
