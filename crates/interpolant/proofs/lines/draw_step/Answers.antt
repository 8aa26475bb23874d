use Rattle.std.proofs.Common.{Some, None, sym, ◌∙◌}
use Rattle.interpolant.proofs.Going.{local_told, other_told}
use Rattle.interpolant.proofs.lines.draw_step.Goals as goal

pub returns-in_err-literal : goal.returns-in_err-literal
returns-in_err-literal c =
    let h = local_told c.args.parts c.args.values.now c.args.step c.args.gates c.args.formula.now c.from_number-first.result c.from_number-second.result (c.from_number-first.ensures ∙ c.number_at.ensures) (c.from_number-second.ensures ∙ c.number_at-2.ensures) None c.or.new.self c.or.new.list (sym c.if-is_local.ensures) c.in_err-literal.ensures.disjoins in
    rw c.from_residual.ensures (record { gives = h.0; keeps = h.1 })

pub returns-in_err-literal-2 : goal.returns-in_err-literal-2
returns-in_err-literal-2 c =
    let h = other_told c.args.parts c.args.values.now c.args.step c.args.gates c.args.formula.now c.from_number-first.result c.from_number-second.result (c.from_number-first.ensures ∙ c.number_at.ensures) (c.from_number-second.ensures ∙ c.number_at-2.ensures) None c.and.new.self c.and.new.list (sym c.if-is_local.ensures) c.in_err-literal-2.ensures.conjoins in
    rw c.from_residual-in_err-literal-2.ensures (record { gives = h.0; keeps = h.1 })

pub returns-in_ok-literal : goal.returns-in_ok-literal
returns-in_ok-literal c =
    let h = local_told c.args.parts c.args.values.now c.args.step c.args.gates c.args.formula.now c.from_number-first.result c.from_number-second.result (c.from_number-first.ensures ∙ c.number_at.ensures) (c.from_number-second.ensures ∙ c.number_at-2.ensures) (Some c.in_ok-literal.literal) c.or.new.self c.or.new.list (sym c.if-is_local.ensures) c.in_ok-literal.ensures.disjoins in
    record { gives = h.0; keeps = h.1 }

pub returns-in_ok-literal-2 : goal.returns-in_ok-literal-2
returns-in_ok-literal-2 c =
    let h = other_told c.args.parts c.args.values.now c.args.step c.args.gates c.args.formula.now c.from_number-first.result c.from_number-second.result (c.from_number-first.ensures ∙ c.number_at.ensures) (c.from_number-second.ensures ∙ c.number_at-2.ensures) (Some c.in_ok-literal-2.literal) c.and.new.self c.and.new.list (sym c.if-is_local.ensures) c.in_ok-literal-2.ensures.conjoins in
    record { gives = h.0; keeps = h.1 }
