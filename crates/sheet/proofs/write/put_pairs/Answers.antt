use Rattle.std.proofs.Common.{◌+◌, ◌-◌, ◌*◌, ◌++◌, [], ap, ◌∙◌, arith}
use Rattle.lists.proofs.Pairs.{pair_in}
use Rattle.sheet.specs.Render.{line_text}
use Rattle.sheet.proofs.Joins.{pair_more}
use Rattle.sheet.proofs.write.put_pairs.Goals as goal

pub loop-pair-preserved : goal.loop-pair-preserved
loop-pair-preserved c =
    let i = c.loop-pair.pair-index in
    let pair = pair_in c.args.list.now c.as_chunks.result.0.now c.args.from c.args.count _ i [] (omega arith) c.requires.there c.as_chunks.ensures.front (omega arith) in (
      pair_more (c.args.count - i) c.args.letter (c.args.from + 2 * i) c.args.list.now _ _ (c.args.count - (i + 1)) (c.args.from + 2 * (i + 1)) (omega arith)
          (c.put_line.ensures.text ∙ ap (λ p. c.loop-pair.out.items ++ line_text c.args.letter p) pair) (omega arith) (omega arith)
          ∙ c.loop-pair.invariant.0,
      omega arith,
    )
