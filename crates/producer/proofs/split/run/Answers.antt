use Rattle.std.proofs.Common.{◌≡◌, length, ◌∙◌, arith}
use Rattle.std.specs.declared.ops.ControlFlow.TheVariants.{Continue, Break}
use Rattle.producer.proofs.Ending.{start, done_reply, done_answer, moved_at}
use Rattle.producer.proofs.split.run.Goals as goal

pub loop-next-init : goal.loop-next-init
loop-next-init c =
    (start c.args.question.now (length c.args.answer.now) c.args.v c.args.work.now c.args.answer.now c.default-at.result c.requires.blank c.requires.unset c.default-at.ensures, omega (arith, c.default-at.ensures.0), omega (arith, c.default-at.ensures.1.0))

pub loop-next-smaller : goal.loop-next-smaller
loop-next-smaller c =
    let m = moved_at c.args.question.now c.args.v c.loop-next.work c.turn.new.work c.loop-next.answer c.turn.new.answer c.loop-next.at _ (Continue c.in-Continue.next) _ c.loop-next.auto.answer c.loop-next.invariant.0 c.in-Continue.ensures in
    m.1

pub loop-next-preserved : goal.loop-next-preserved
loop-next-preserved c =
    let m = moved_at c.args.question.now c.args.v c.loop-next.work c.turn.new.work c.loop-next.answer c.turn.new.answer c.loop-next.at _ (Continue c.in-Continue.next) _ c.loop-next.auto.answer c.loop-next.invariant.0 c.in-Continue.ensures in
    (m.0, m.2, m.3)

pub returns-in-Break : goal.returns-in-Break
returns-in-Break c =
    let q = c.args.question.now in
    let n = length c.args.answer.now in
    let long : length c.turn.new.answer ≡ n = c.turn.auto.answer ∙ c.loop-next.auto.answer in
    let m = moved_at q c.args.v c.loop-next.work c.turn.new.work c.loop-next.answer c.turn.new.answer c.loop-next.at _ (Break c.in-Break.reply) _ c.loop-next.auto.answer c.loop-next.invariant.0 c.in-Break.ensures in
    record {
      replies = done_reply q n c.args.v c.loop-next.work c.turn.new.work c.turn.new.answer c.loop-next.at _ long c.in-Break.reply m;
      answers = c.finish.ensures ∙ done_answer q n c.args.v c.loop-next.work c.turn.new.work c.turn.new.answer c.loop-next.at _ long c.in-Break.reply m;
    }
