use Rattle.std.proofs.Common.{refl}
use Rattle.interpolant.proofs.Pathways.{path_parted}
use Rattle.interpolant.proofs.Determining.{determined}
use Rattle.interpolant.proofs.Separating.{separates}
use Rattle.interpolant.proofs.laws.interpolants_separate.Goals as goal

pub returns : goal.returns
returns c = record { says_so = refl; partial_interpolants_are_determined = determined; partial_interpolants_separate = separates; path_questions_are_parted = path_parted }
