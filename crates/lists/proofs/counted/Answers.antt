use Rattle.std.proofs.Common.{arith, ap, length, length-take}
use Rattle.lists.proofs.counted.Goals as goal

pub returns-clause-few : goal.returns-clause-few
returns-clause-few g c = omega (arith, ap length c.front.ensures, length-take {A = g.row.T.Denot})
