use Rattle.std.proofs.Common.{arith}
use Rattle.std.proofs.lemmas.Bool.Decides.{Decides-at}
use Rattle.lists.specs.Counted.{counted}
use Rattle.signal.specs.Truth.{holds, bits_of}
use Rattle.signal.proofs.Usual.{exactly_same, bits_agree, clause_decides}
use Rattle.signal.proofs.clauses.satisfies_clause.Goals as goal

pub returns-clause-is_the_truth : goal.returns-clause-is_the_truth
returns-clause-is_the_truth c =
    exactly_same c.clause_value.result (holds (bits_of (counted c.args.numbers.now)) (counted c.args.literals.now))
    (c.clause_value.ensures.covers_each_assignment 0 (bits_of (counted c.args.numbers.now)) (omega arith) (bits_agree (counted c.args.numbers.now)))

pub returns-clause-when_a_literal_is_true : goal.returns-clause-when_a_literal_is_true
returns-clause-when_a_literal_is_true c =
    Decides-at c.clause_value.result (holds (bits_of (counted c.args.numbers.now)) (counted c.args.literals.now)) (returns-clause-is_the_truth c)
    (clause_decides (bits_of (counted c.args.numbers.now)) (counted c.args.literals.now))
