use Rattle.procedure.proofs.Examples.{happens}
use Rattle.procedure.proofs.it_happens.Goals as goal

pub returns : goal.returns
returns c = record { each_end_is_reached = happens }
