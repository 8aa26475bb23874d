-- The numbers of causes are small. Assumes nothing.
use Rattle.std.specs.Prelude.{◌<◌, ◌^◌}
use Rattle.sheet.specs.declared.fault.Cause.{Cause}
use Rattle.sheet.specs.declared.fault.Cause.TheVariants.{TextTooLong, LineNotEnded, WrongLetter, NotNumbers, OutOfRange, OutOfOrder, TextGoesOn, ListTooShort, NotLegal, StepLimit, TurnLimit, StartFormulaTooLong, StartQuestionTooLong, WrongCount, NotABit, FalseClause, NotWhole, LaterLine, PivotNotOpposed, Clash, WorkTooShort, NotEmpty, RunTooShort, NoAnswer}
use Rattle.std.proofs.Common.{arith}
use Rattle.sheet.specs.Faults.{cause_number}

pub number_small : (c : Cause) → cause_number c < 2 ^ 32
number_small TextTooLong = omega arith
number_small LineNotEnded = omega arith
number_small WrongLetter = omega arith
number_small NotNumbers = omega arith
number_small OutOfRange = omega arith
number_small OutOfOrder = omega arith
number_small TextGoesOn = omega arith
number_small ListTooShort = omega arith
number_small NotLegal = omega arith
number_small StepLimit = omega arith
number_small TurnLimit = omega arith
number_small StartFormulaTooLong = omega arith
number_small StartQuestionTooLong = omega arith
number_small WrongCount = omega arith
number_small NotABit = omega arith
number_small FalseClause = omega arith
number_small NotWhole = omega arith
number_small LaterLine = omega arith
number_small PivotNotOpposed = omega arith
number_small Clash = omega arith
number_small WorkTooShort = omega arith
number_small NotEmpty = omega arith
number_small RunTooShort = omega arith
number_small NoAnswer = omega arith
