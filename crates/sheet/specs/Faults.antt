-- Refusals, and how a result goes on from one check to the next. Assumes nothing.
use Rattle.std.specs.Prelude.{ℕ, Bool, cond, List, ◌∷◌, ◌++◌, codes, decimal, Some, None, Ok, Err, Option, Result}
use Rattle.sheet.specs.declared.fault.Cause.{Cause}
use Rattle.sheet.specs.declared.fault.Cause.TheVariants.{TextTooLong, LineNotEnded, WrongLetter, NotNumbers, OutOfRange, OutOfOrder, TextGoesOn, ListTooShort, NotLegal, StepLimit, TurnLimit, StartFormulaTooLong, StartQuestionTooLong, WrongCount, NotABit, FalseClause, NotWhole, LaterLine, PivotNotOpposed, Clash, WorkTooShort, NotEmpty, RunTooShort, NoAnswer}
use Rattle.sheet.specs.declared.fault.Layer.{Layer}
use Rattle.sheet.specs.declared.fault.Fault.{Fault}

-- the number that a check has in the documents, and is printed by
abbrev pub cause_number : Cause → ℕ
cause_number TextTooLong = 11
cause_number LineNotEnded = 12
cause_number WrongLetter = 13
cause_number NotNumbers = 14
cause_number OutOfRange = 15
cause_number OutOfOrder = 16
cause_number TextGoesOn = 17
cause_number ListTooShort = 18
cause_number NotLegal = 21
cause_number StepLimit = 22
cause_number TurnLimit = 23
cause_number StartFormulaTooLong = 24
cause_number StartQuestionTooLong = 25
cause_number WrongCount = 31
cause_number NotABit = 32
cause_number FalseClause = 33
cause_number NotWhole = 41
cause_number LaterLine = 42
cause_number PivotNotOpposed = 43
cause_number Clash = 44
cause_number WorkTooShort = 45
cause_number NotEmpty = 46
cause_number RunTooShort = 51
cause_number NoAnswer = 61

abbrev pub fault : Layer → Cause → ℕ → Fault
fault y c p = record { layer = y; cause = c; place = p }

-- a refusal as it is printed
abbrev pub fault_words : Fault → List ℕ
fault_words f = codes "no" ++ (32 ∷ (decimal (cause_number f.cause) ++ (32 ∷ decimal f.place)))

-- go on with what was found
abbrev pub and_then : {X Y : Type 0} → Result X Fault → (X → Result Y Fault) → Result Y Fault
and_then (Ok x) f = f x
and_then (Err e) f = Err e

-- go on where a test holds
abbrev pub demand : {X : Type 0} → Bool → Fault → Result X Fault → Result X Fault
demand b e r = cond b r (Err e)

-- go on where there is something
abbrev pub given : {X : Type 0} → Option X → Fault → Result X Fault
given None e = Err e
given (Some x) e = Ok x

-- a result, at what it borrows
abbrev pub map_ok : {X Y E : Type 0} → (X → Y) → Result X E → Result Y E
map_ok f (Ok x) = Ok (f x)
map_ok f (Err e) = Err e
