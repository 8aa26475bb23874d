use Rattle.std.proofs.Common.{length, sym, ap, ◌∙◌}
use Rattle.lists.specs.Counted.{counted}
use Rattle.producer.proofs.Standing.{screened_upheld}
use Rattle.producer.proofs.combine.PairProducer.answer.Goals as goal

pub returns-then-is_accepted-clause-keeps_its_word : goal.returns-then-is_accepted-clause-keeps_its_word
returns-then-is_accepted-clause-keeps_its_word g c = record {
  word = λ _ is. screened_upheld c.args.question.now c.answer-reply.new.answer c.answer-reply.new.work c.answer-reply.result
      (length (counted c.is_accepted.new.work)) is (ap (λ k. k.0) (sym c.is_accepted.ensures) ∙ c.if-is_accepted.true);
}
