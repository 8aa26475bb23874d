use Rattle.std.proofs.Common.{◌≡◌, Option, Some, sym, ap, ◌∙◌}
use Rattle.formula.specs.declared.root.Root.{Root}
use Rattle.checker.proofs.Beginning.{Found, never_none}
use Rattle.checker.proofs.calls.begin.Goals as goal

pub returns-in_err-size : goal.returns-in_err-size
returns-in_err-size c =
    let told : ◌≡◌ {A = Found} (Some c.in_ok-start.start, c.start_formula.new.list) _ =
    ap (λ (o : Option Root). let p : Found = (o, c.start_formula.new.list) in p) (sym c.in_ok-start.ensures.ok_part)
    ∙ c.start_formula.ensures.writes_the_start_formula in
    let starts = rw c.in_ok-start.ensures.ok_part at c.start_formula.ensures.is_true_in_start_states_only in
    let takes = rw c.in_err-size.ensures.ok_part at c.start_question-posed.ensures.takes_all_that_fits in
    absurd
    (never_none c.args.sheet.now c.args.limits.bound c.args.limits.turns c.args.formula.now c.args.question.now c.start_formula.new.list
    c.in_ok-start.start told c.start_question-posed.new.question c.requires.legal c.requires.room c.requires.space
    c.start_formula.auto.list starts takes)
