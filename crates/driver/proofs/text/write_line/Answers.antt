use Rattle.driver.proofs.Lines.{number_more}
use Rattle.driver.proofs.text.write_line.Goals as goal

pub loop-i-preserved : goal.loop-i-preserved
loop-i-preserved c =
    number_more c.args.numbers.now _ _ _ c.loop-i.i c.args.count c.number_at-number.result c.loop-i-test.true c.number_at-number.ensures
    c.in_ok-write-2.ensures.bytes c.loop-i.invariant
