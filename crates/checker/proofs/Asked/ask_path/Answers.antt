use Rattle.std.proofs.Common.{rules}
use Rattle.checker.proofs.Asked.ask_path.Goals as goal

-- written out, so that what is wrong is refused soon
pub returns-in_err-self-clause-asks : goal.returns-in_err-self-clause-asks
returns-in_err-self-clause-asks c = search rules
