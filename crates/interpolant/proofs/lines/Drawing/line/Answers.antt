use Rattle.std.proofs.Common.{sym, subst}
use Rattle.formula.specs.Conjunction.{Outcome}
use Rattle.interpolant.specs.Drawing.{Gives}
use Rattle.interpolant.proofs.Going.{stays_refl, line_step, line_second, line_first}
use Rattle.interpolant.proofs.lines.Drawing.line.Goals as goal

pub returns-then-line-clauses : goal.returns-then-line-clauses
returns-then-line-clauses c =
    let is = line_step c.args.self.now.parts c.args.self.now.question.now c.args.self.now.refutation.now c.args.values.now c.args.line c.args.gates c.args.formula.now c.args.self.now.few_clauses c.args.self.now.few_steps c.clause_count-clauses.result c.clause_count-clauses.ensures.is_the_second_number c.if-line-clauses.true c.step_at-step.result c.step_at-step.ensures.is_the_step in
    record {
      gives = subst (λ (o : Outcome). Gives c.draw_step.result c.draw_step.new.formula o) (sym is) c.draw_step.ensures.gives;
      keeps = c.draw_step.ensures.keeps;
    }

pub returns-then-line-self : goal.returns-then-line-self
returns-then-line-self c =
    record {
      gives = line_second c.args.self.now.parts c.args.self.now.question.now c.args.self.now.refutation.now c.args.values.now c.args.line c.args.gates c.args.formula.now c.args.self.now.few_clauses c.args.self.now.few_steps c.clause_count-clauses.result c.clause_count-clauses.ensures.is_the_second_number c.if-line-clauses.false c.if-line-self.true c.from_number.result.0 c.from_number.ensures;
      keeps = stays_refl c.args.formula.now;
    }

pub returns : goal.returns
returns c =
    let is = line_first c.args.self.now.parts c.args.self.now.question.now c.args.self.now.refutation.now c.args.values.now c.args.line c.args.gates c.args.formula.now c.args.self.now.few_clauses c.args.self.now.few_steps c.clause_count-clauses.result c.clause_count-clauses.ensures.is_the_second_number c.if-line-clauses.false c.if-line-self.false c.clause.result.now c.clause.ensures.is_the_clause in
    record {
      gives = subst (λ (o : Outcome). Gives c.draw_clause.result c.draw_clause.new.formula o) (sym is) c.draw_clause.ensures.gives;
      keeps = c.draw_clause.ensures.keeps;
    }
