-- How a check is opened, and when it is not. Assumes nothing.
use Rattle.std.specs.Prelude.{ℕ, false, cond, ◌&&◌, List, Some, None, Ok, Err, Option, Result, nat_le, nat_lt}
use Rattle.lists.specs.Counted.{counted}
use Rattle.sheet.specs.Faults.{fault}
use Rattle.sheet.specs.Render.{well_formed}
use Rattle.sheet.specs.Sheets.{sheet_of}
use Rattle.sheet.specs.declared.fault.Cause.{Cause}
use Rattle.sheet.specs.declared.fault.Cause.TheVariants.{NotLegal, StepLimit, TurnLimit, StartFormulaTooLong, StartQuestionTooLong}
use Rattle.sheet.specs.declared.fault.Fault.{Fault}
use Rattle.sheet.specs.declared.fault.Layer.TheVariants.{Open}
use Rattle.formula.specs.Built.{write_start}
use Rattle.formula.specs.declared.root.Root.{Root}
use Rattle.question.specs.Layout.{start_list, given, posed_if}
use Rattle.checker.specs.declared.Kind.TheVariants.{Start}
use Rattle.checker.specs.declared.Region.{Region}
use Rattle.checker.specs.declared.Asked.{Asked}

-- the answer, the formula list and the question list
abbrev pub Opened : Type 0
Opened = Result Asked Fault × List ℕ × List ℕ

abbrev pub unopened : Cause → List ℕ → List ℕ → Opened
unopened n f q = (Err (fault Open n 0), f, q)

-- the start formula
abbrev pub start_region : Root → Region
start_region d = record { literal = d.literal; gates = d.gates; grown = false }

-- at the start question, of n numbers
abbrev pub at_start : ℕ → ℕ → Root → ℕ → Asked
at_start K Q d n =
    record { kind = Start; size = n; bound = 0; region = start_region d; opening = start_region d; limits = record { bound = K; turns = Q }; turns = 0 }

-- the start question of the start formula d, which lies in f'; what is not opened leaves the lists f and q
abbrev pub start_asked : ℕ → ℕ → Root → List ℕ → List ℕ → List ℕ → Option ℕ × List ℕ → Opened
start_asked K Q d f f' q p = elim p.0 [ None ↦ unopened StartQuestionTooLong f q | Some n ↦ (Ok (at_start K Q d n), f', p.1) ]

abbrev pub start_made : List ℕ → ℕ → ℕ → List ℕ → List ℕ → Option Root × List ℕ → Opened
start_made l K Q f q p =
    elim p.0 [
      | None ↦ unopened StartFormulaTooLong f q
      | Some d ↦ start_asked K Q d f p.1 q (posed_if (given l p.1 d.gates) (start_list (sheet_of (counted l)) (counted p.1) d.gates d.literal.0) q)
    ]

-- the checks of opening, in their order
abbrev pub opened : List ℕ → ℕ → ℕ → List ℕ → List ℕ → Opened
opened l K Q f q =
    cond (well_formed (counted l))
    (cond (nat_le K 30) (cond (nat_lt 0 Q && nat_le Q 4294967295) (start_made l K Q f q (write_start l f)) (unopened TurnLimit f q)) (unopened StepLimit f q))
    (unopened NotLegal f q)
