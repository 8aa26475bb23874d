use Rattle.std.proofs.Common.{rules}
use Rattle.sheet.proofs.ReadParts.{spaced_here}
use Rattle.sheet.proofs.read.after_space.Goals as goal

pub returns-in-32 : goal.returns-in-32
returns-in-32 c = spaced_here c.args.s.now (search rules) (search rules)
