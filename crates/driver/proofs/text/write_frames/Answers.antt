use Rattle.std.proofs.Common.{suc, arith}
use Rattle.driver.proofs.Lines.{frame_more, frame_last}
use Rattle.driver.proofs.text.write_frames.Goals as goal

pub loop-preserved : goal.loop-preserved
loop-preserved c =
    frame_more c.args.latches c.args.inputs _ _ _ c.loop.rest.now c.behind-rest.result.now c.behind-rest-in-loop.result.now c.in_ok-write_line.ensures
    c.behind-rest.ensures c.in_ok-write_line-2.ensures c.behind-rest-in-loop.ensures _ c.loop.counter (suc c.args.last) (omega arith) c.loop.invariant

pub returns-in_ok-write_line-2 : goal.returns-in_ok-write_line-2
returns-in_ok-write_line-2 c =
    frame_last c.args.latches c.args.inputs _ _ _ c.loop.rest.now c.behind-rest.result.now c.behind-rest-in-loop.result.now c.in_ok-write_line.ensures
    c.behind-rest.ensures c.in_ok-write_line-2.ensures c.behind-rest-in-loop.ensures _ c.loop.counter (suc c.args.last) (omega arith) c.loop.invariant
