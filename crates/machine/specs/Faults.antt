-- The refusals of a machine. Assumes nothing.
use Rattle.std.specs.Prelude.{ℕ}
use Rattle.sheet.specs.Faults.{fault}
use Rattle.sheet.specs.declared.fault.Cause.{Cause}
use Rattle.sheet.specs.declared.fault.Fault.{Fault}
use Rattle.sheet.specs.declared.fault.Layer.TheVariants.{Machine}

-- by cause and place
abbrev pub refusal : Cause → ℕ → Fault
refusal c p = fault Machine c p
