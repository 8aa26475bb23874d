use Rattle.std.proofs.Common.{sym, ◌∙◌, arith}
use Rattle.sheet.specs.Sheets.{sheet_of, latch_count}
use Rattle.formula.proofs.Turns.{starts_more, starts_short, starts_skip}
use Rattle.formula.proofs.start.join_starts.Goals as goal
use Rattle.formula.proofs.start.join_starts.Goals.{in-Some+in_ok-literal, in_default}

pub returns-in_err-literal : goal.returns-in_err-literal
returns-in_err-literal c =
    let s = sheet_of c.args.sheet.numbers.now in
    let g = c.loop-latch.builder in
    let short = starts_short s c.loop-latch.latch (latch_count c.args.sheet.numbers.now) (omega (arith, c.latches-latch-end.ensures)) g c.loop-latch.list c.loop-latch.invariant.0 c.loop-latch.literal c.in-Some.start c.in-Some.ensures c.and.new.self c.and.new.list c.in_err-literal.ensures.conjoins in
    rw c.from_residual.ensures (sym c.loop-latch.invariant.1 ∙ short)

pub loop-latch-preserved : goal.loop-latch-preserved
loop-latch-preserved c =
    let s = sheet_of c.args.sheet.numbers.now in
    let i = c.loop-latch.latch in
    let m = latch_count c.args.sheet.numbers.now in
    let g = c.loop-latch.builder in
    elim c.match-start_literal.branch [
      | in-Some+in_ok-literal w ↦
          let more = starts_more s i m (omega (arith, c.latches-latch-end.ensures)) g c.loop-latch.list c.loop-latch.invariant.0 c.loop-latch.literal w.in-Some.start w.in-Some.ensures w.and.new.self w.and.new.list w.in_ok-literal.literal w.in_ok-literal.ensures.conjoins in
          rw (w.list-is, w.builder-is, w.literal-is) (more.0, sym more.1 ∙ c.loop-latch.invariant.1)
      | in_default w ↦
          let skip = starts_skip s i m (omega (arith, c.latches-latch-end.ensures)) c.loop-latch.literal.0 g.count c.loop-latch.list w.in_default.ensures in
          rw (w.list-is, w.builder-is, w.literal-is) (c.loop-latch.invariant.0, sym skip ∙ c.loop-latch.invariant.1)
    ]
