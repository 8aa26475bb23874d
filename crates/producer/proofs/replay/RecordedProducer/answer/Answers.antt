use Rattle.std.proofs.Common.{◌<◌, ◌≤◌, get_or, arith}
use Rattle.producer.proofs.Replaying.{used_up, one_more}
use Rattle.producer.proofs.replay.RecordedProducer.answer.Goals as goal

pub returns-then-i-number_at-clause-replies_as_it_may : goal.returns-then-i-number_at-clause-replies_as_it_may
returns-then-i-number_at-clause-replies_as_it_may c =
    let past : get_or c.counted-tape.result.now 0 0 ≤ c.args.self.now.position = omega (arith, c.number_at.ensures) in
    used_up c.args.self.now.tape.now c.args.question.now c.args.answer.now c.args._work.now c.args.self.now.position
    c.counted-tape.result.now c.counted-tape.ensures.value past

pub returns-clause-replies_as_it_may : goal.returns-clause-replies_as_it_may
returns-clause-replies_as_it_may c =
    let less : c.args.self.now.position < get_or c.counted-tape.result.now 0 0 = omega (arith, c.number_at.ensures) in
    one_more c.args.self.now.tape.now c.args.question.now c.args.answer.now c.args._work.now c.args.self.now.position
    c.counted-tape.result.now c.counted-tape.ensures.value c.variable_count.result c.variable_count.ensures.is_the_first_number
    c.counted_len-room.result c.counted_len-room.ensures less c.recite.result c.recite.new.answer c.recite.ensures
