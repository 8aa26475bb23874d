-- How much memory a value takes. Assumes nothing.
use Rattle.std.specs.Prelude.{◌^◌, ◌<◌}
use prog.Memory.{size}
use denote.Param.{layout}
use Rattle.std.specs.Borrow.{RattleType}

-- a value of the type takes fewer than 2 ^ 16 bytes
abbrev pub Small : RattleType → Type 0
Small R = size (layout R) < 2 ^ 16
