use Rattle.std.proofs.Common.{refl}
use Rattle.checker.proofs.Promising.{by_turns}
use Rattle.checker.proofs.Asked.turns.Goals as goal

pub returns-clause-counts_the_answers : goal.returns-clause-counts_the_answers
returns-clause-counts_the_answers c = by_turns c.args.self.now c.args.self.now.turns refl
