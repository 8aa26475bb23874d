use Rattle.std.proofs.Common.{◌+◌, List, map, drop, sym, ap, ◌∙◌, arith}
use Rattle.std.proofs.lemmas.List.{at_drop_more, at_drop_all}
use Rattle.formula.specs.declared.question_literal.QuestionLiteral.{QuestionLiteral}
use Rattle.question.specs.Writing.{held, pushes, number}
use Rattle.question.proofs.Turns.{moved_on}
use Rattle.question.proofs.page.Page.put_clause.Goals as goal

pub loop-literal-preserved : goal.loop-literal-preserved
loop-literal-preserved c =
    let ls = c.args.literals.now in
    let i = c.loop-literal.literal-index in
    let more = at_drop_more (λ (xs : List QuestionLiteral). pushes (held c.loop-literal.self) (map number xs)) ls i (record { 0 = 0 }) c.loop-literal-test.true in
    (ap (λ p. pushes p (map number (drop (i + 1) ls))) c.push_literal.ensures.page ∙ sym more ∙ c.loop-literal.invariant.0, moved_on c.loop-literal.invariant.1 c.push_literal.ensures.moved (omega arith) (omega arith))

pub returns : goal.returns
returns c =
    let ls = c.args.literals.now in
    let all = at_drop_all (λ (xs : List QuestionLiteral). pushes (held c.loop-literal.self) (map number xs)) ls c.loop-literal.literal-index c.loop-literal-test.false in
    record {
      page = sym all ∙ c.loop-literal.invariant.0 ∙ ap (λ p. pushes p (map number ls)) c.open_clause.ensures.page;
      moved = moved_on c.open_clause.ensures.moved c.loop-literal.invariant.1 (omega arith) (omega arith);
    }
