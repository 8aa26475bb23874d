use Rattle.std.proofs.Common.{refl}
use Rattle.checker.proofs.Promising.{by_set_aside}
use Rattle.checker.proofs.Weighed.set_aside.Goals as goal

pub returns-clause-the_series_goes_on : goal.returns-clause-the_series_goes_on
returns-clause-the_series_goes_on c = by_set_aside c.args.self c.args.self.asked refl
