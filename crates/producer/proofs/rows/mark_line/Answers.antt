use Rattle.std.proofs.Common.{◌∙◌, rules}
use Rattle.std.proofs.lemmas.List.{places}
use Rattle.producer.proofs.Scans.{whole_clause}
use Rattle.producer.proofs.rows.mark_line.Goals as goal

pub returns-clause-marked : goal.returns-clause-marked
returns-clause-marked c = search (rules, places, c.clause.ensures.is_the_clause ∙ whole_clause c.args.question.now c.args.k c.requires.size)
