use Rattle.std.proofs.Common.{◌+◌, ap, ◌∙◌, arith}
use Rattle.sheet.specs.Sheets.{sheet_of}
use Rattle.formula.specs.Formulas.{width}
use Rattle.formula.specs.Framing.{in_frame}
use Rattle.question.specs.Writing.{held, pushed}
use Rattle.question.proofs.Turns.{moved_on, turn_one}
use Rattle.question.proofs.unroll.put_bad.Goals as goal

pub loop-t-preserved : goal.loop-t-preserved
loop-t-preserved c =
    let s = sheet_of c.args.sheet.numbers.now in
    let t = c.loop-t.t in
    let page = c.push_literal.ensures.page ∙ ap (pushed (held c.loop-t.page)) c.bad_in.ensures in
    (turn_one (λ t. in_frame (width s) t s.bad) _ _ t (c.args.k + 2) c.loop-t.invariant.0 _ (omega arith) page, moved_on c.loop-t.invariant.1 c.push_literal.ensures.moved (omega arith) (omega arith))
