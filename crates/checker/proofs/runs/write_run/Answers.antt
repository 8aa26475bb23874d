use Rattle.std.proofs.Common.{◌+◌, ◌-◌, ◌*◌, length, sym, ap, ◌∙◌, arith}
use Rattle.sheet.specs.Sheets.{sheet_of, latch_count, input_count}
use Rattle.checker.specs.Reports.{frame_numbers}
use Rattle.checker.proofs.Tracing.{row_fits, run_more, run_done, length_frame}
use Rattle.checker.proofs.runs.write_run.Goals as goal

pub loop-frame-preserved : goal.loop-frame-preserved
loop-frame-preserved c =
    let l = c.args.sheet.numbers.now in
    let size = c.frame_size-size.result in
    let fits = row_fits c.loop-frame.frame (c.args.steps + 1) (latch_count l + input_count l) c.loop-frame-test.true in
    run_more (frame_numbers (sheet_of l) c.args.assignment.now) c.loop-frame.run c.write_frame.new.part c.loop-frame.frame size
    (c.loop-frame.frame * size + size - c.loop-frame.frame * size) c.loop-frame.invariant c.write_frame.ensures
    (ap length c.write_frame.ensures ∙ length_frame (sheet_of l) c.args.assignment.now c.loop-frame.frame ∙ sym c.frame_size-size.ensures)
    (rw c.frame_size-size.ensures (omega arith))

pub returns : goal.returns
returns c =
    let l = c.args.sheet.numbers.now in
    let before = rw c.frame_size-size.ensures at c.loop-frame.invariant in
    run_done (frame_numbers (sheet_of l) c.args.assignment.now) c.args.run.now c.loop-frame.run c.fill.new.self (c.args.steps + 1) c.loop-frame.frame
    (latch_count l + input_count l) c.run_size-end.result (length c.loop-frame.run) (omega arith) before c.run_size-end.ensures
    (omega arith) (omega arith) (omega arith) (c.fill.ensures.after (λ y e. e))
