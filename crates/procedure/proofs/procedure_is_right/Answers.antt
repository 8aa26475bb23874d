use Rattle.procedure.proofs.Theorem.{guarantee}
use Rattle.procedure.proofs.procedure_is_right.Goals as goal

pub returns : goal.returns
returns c = record { every_check_is_right = guarantee }
