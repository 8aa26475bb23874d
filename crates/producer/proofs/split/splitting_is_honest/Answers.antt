use Rattle.std.proofs.Common.{rules}
use Rattle.producer.proofs.Ruling.{ends_at_once, by_the_rule}
use Rattle.producer.proofs.Upholding.{splitting_upheld, splitting_few}
use Rattle.producer.proofs.split.splitting_is_honest.Goals as goal

pub returns : goal.returns
returns c = record {
  says_so = search rules;
  its_replies_are_true = splitting_upheld;
  it_makes_few_steps = splitting_few;
  a_branch_ends_at_the_lowest_false_clause = λ q n is. ends_at_once q is n;
  on_questions_it_is_the_plain_rule = λ q n m is. by_the_rule q is n m;
}
