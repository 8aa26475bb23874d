use Rattle.std.proofs.Common.{◌∙◌}
use Rattle.sheet.proofs.ReadParts.{up_to_first}
use Rattle.sheet.proofs.read.up_to.Goals as goal

pub returns-clause-first : goal.returns-clause-first
returns-clause-first c = c.unwrap_or.ensures ∙ up_to_first c.args.byte c.args.s.now c.first_place.result c.first_place.ensures
