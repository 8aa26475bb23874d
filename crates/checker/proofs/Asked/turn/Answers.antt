use Rattle.std.proofs.Common.{rules}
use Rattle.checker.proofs.Asked.turn.Goals as goal
use Rattle.checker.proofs.Asked.turn.Goals.{in_default-via-in-Start+in-Refutation, in_default-via-in-Path-Assignment-2+else-self, in_default-via-in-Path+in-Refutation, in_default-via-in-Inclusion+in-Assignment}

pub returns-in_default-clause-turns : goal.returns-in_default-clause-turns
returns-in_default-clause-turns c =
    elim c.in_default.branch [
      | in_default-via-in-Start+in-Refutation w ↦ search rules
      | in_default-via-in-Path-Assignment-2+else-self w ↦ search rules
      | in_default-via-in-Path+in-Refutation w ↦ search rules
      | in_default-via-in-Inclusion+in-Assignment w ↦ search rules
    ]
