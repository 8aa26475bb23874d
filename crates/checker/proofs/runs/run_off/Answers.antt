use Rattle.lists.specs.Counted.{counted}
use Rattle.checker.specs.Reports.{run_off}
use Rattle.checker.proofs.Tracing.{off_told}
use Rattle.checker.proofs.runs.run_off.Goals as goal

pub returns : goal.returns
returns c =
    off_told (run_off (counted c.args.sheet.now) c.args.assignment.now c.args.last) c.args.run.now c.run_in.new.run c.counted_len-len.result
    c.run_in.result c.counted_len-len.ensures c.run_in.ensures
