use Rattle.std.proofs.Common.{arith}
use Rattle.std.proofs.lemmas.Grind.{common_steps}
use Rattle.std.proofs.lemmas.List.{drop-replicate}
use Rattle.producer.proofs.replay.recite.Goals as goal

pub returns : goal.returns
returns c = grind (arith, common_steps, drop-replicate, c.in-Some.ensures, c.fill.ensures.after (λ y e. e))
