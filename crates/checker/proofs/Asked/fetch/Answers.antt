use Rattle.checker.proofs.Promising.{by_fetch}
use Rattle.checker.proofs.Asked.fetch.Goals as goal

pub returns-clause-asks_what_it_stands_for : goal.returns-clause-asks_what_it_stands_for
returns-clause-asks_what_it_stands_for c = by_fetch c.args.self.now c.args.question.now c.used_part.result.now c.used_part.ensures
