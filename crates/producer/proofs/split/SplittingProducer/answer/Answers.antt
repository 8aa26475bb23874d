use Rattle.producer.proofs.Splitting.{refronted_size, cut_splits, splits_upheld}
use Rattle.producer.proofs.split.SplittingProducer.answer.Goals as goal

pub returns : goal.returns
returns c =
    let q = c.args.question.now in
    let a = c.args.answer.now in
    let w = c.args.work.now in
    let told =
    cut_splits q a w c.counted.result.now c.decide.new.answer c.decide.new.work c.counted_len-room.result c.counted_len-space.result
    c.decide.result c.counted.ensures.value c.counted_len-room.ensures c.counted_len-space.ensures c.decide.ensures in
    record { keeps_its_word = splits_upheld q a w _ _ _ told (refronted_size a c.decide.new.answer c.counted_len-room.result c.decide.auto.answer) (refronted_size w c.decide.new.work c.counted_len-space.result c.decide.auto.work); replies_as_it_may = told }
