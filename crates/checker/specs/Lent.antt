-- The lists that a call of a check is lent. Assumes nothing.
use Rattle.std.specs.Prelude.{◌≡◌}
use Rattle.checker.specs.declared.lent.Lists.{Lists as Lent}
use Rattle.checker.specs.Lists.{Lists, lists}

-- what the lists hold that a check writes
abbrev pub held : Lent → Lists
held x = lists x.formula.now x.values.now x.question.now

-- a call leaves the same lists lent, whatever they then hold
pub record SameLists (x y : Lent) : Type 0 where
  pub formula : y.formula.ghost_name ≡ x.formula.ghost_name
  pub values : y.values.ghost_name ≡ x.values.ghost_name
  pub question : y.question.ghost_name ≡ x.question.ghost_name
