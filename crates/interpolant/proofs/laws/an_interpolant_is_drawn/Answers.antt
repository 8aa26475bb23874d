use Rattle.std.proofs.Common.{refl}
use Rattle.interpolant.proofs.Drawn.{example}
use Rattle.interpolant.proofs.laws.an_interpolant_is_drawn.Goals as goal

pub returns : goal.returns
returns c = record { says_so = refl; all_that_is_supposed_is_so = example }
