use Rattle.std.proofs.Common.{◌∙◌, arith}
use Rattle.sheet.proofs.Joins.{number_more, line_end}
use Rattle.sheet.proofs.write.put_line.Goals as goal

pub loop-n-preserved : goal.loop-n-preserved
loop-n-preserved c = (
  number_more c.args.numbers.now c.loop-n.n-index _ _ _ (omega arith) c.push-in-loop-n.ensures.items c.put_number.ensures.text ∙ c.loop-n.invariant.0,
  omega arith,
)

pub returns : goal.returns
returns c = record {
  text = line_end c.args.numbers.now c.loop-n.n-index c.args.letter _ _ _ _ (omega arith) c.push.ensures.items c.loop-n.invariant.0 c.push-2.ensures.items;
  few = omega arith;
}
