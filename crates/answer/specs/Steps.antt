-- What one step of a refutation does to the working list. Assumes nothing.
use Rattle.std.specs.Prelude.{ℕ, ◌+◌, ◌*◌, Bool, not, ◌&&◌, List, length, take, Ok, Result, nat_le, nat_lt, slice_index, slice_set}
use Rattle.std.proofs.lemmas.List.Edits.{sets}
use Rattle.sheet.specs.Faults.{fault, and_then, demand}
use Rattle.sheet.specs.declared.fault.Cause.{Cause}
use Rattle.sheet.specs.declared.fault.Cause.TheVariants.{LaterLine, PivotNotOpposed, Clash, WorkTooShort}
use Rattle.sheet.specs.declared.fault.Fault.{Fault}
use Rattle.sheet.specs.declared.fault.Layer.TheVariants.{Refutation}
use Rattle.question.specs.Questions.{clause_count, span}
use Rattle.answer.specs.Joint.{joint, clashing, opposes}
use Rattle.answer.specs.Lines.{line_of}
use Rattle.answer.specs.declared.steps.Step.{Step}
use Rattle.answer.specs.declared.steps.Progress.{Progress}

-- how many steps a refutation says that it has
abbrev pub step_count : List ℕ → ℕ
step_count t = slice_index t 0

-- step i of a refutation
abbrev pub step_of : List ℕ → ℕ → Step
step_of t i = record { first = slice_index t (3 * i + 1); second = slice_index t (3 * i + 2); pivot = slice_index t (3 * i + 3) }

abbrev pub refused : Cause → ℕ → Fault
refused c i = fault Refutation c i

-- the clause of a line; what stands in the working list before the place end is done
abbrev pub line_before : List ℕ → List ℕ → ℕ → ℕ → List ℕ
line_before q w end k = line_of q (span (take end w)) k

-- the two clauses of a step joined, without the pivot's variable
abbrev pub made_by : List ℕ → List ℕ → Step → ℕ → List ℕ
made_by q w s end = joint (line_before q w end s.first) (line_before q w end s.second) s.pivot

-- whether both lines of the step i come before it
abbrev pub come_before : List ℕ → ℕ → Step → Bool
come_before q i s = nat_lt s.first (clause_count q + i) && nat_lt s.second (clause_count q + i)

-- the checks of the two clauses of the step i
abbrev pub matched : List ℕ → List ℕ → ℕ → ℕ → Result (Unit {0}) Fault
matched xs ys p i = demand (opposes xs ys p) (refused PivotNotOpposed i) (demand (not (clashing xs ys p)) (refused Clash i) (Ok tt))

-- the checks of a step, in their order, but for that of room
abbrev pub suited : List ℕ → List ℕ → Step → Progress → Result (Unit {0}) Fault
suited q w s at =
    demand (come_before q at.step s) (refused LaterLine at.step)
    (matched (line_before q w at.end s.first) (line_before q w at.end s.second) s.pivot at.step)

-- a step further, where the clause of this one ends at the place end
abbrev pub onward : Progress → ℕ → Progress
onward at end = record { step = at.step + 1; end = end }

-- how far the refutation is after one step more
abbrev pub advanced : List ℕ → List ℕ → Step → Progress → Result Progress Fault
advanced q w s at =
    let end = at.end + length (made_by q w s at.end) in
    and_then (suited q w s at) (λ _. demand (nat_le end (length w)) (refused WorkTooShort at.step) (Ok (onward at end)))

-- the working list after that step: its clause, and the place where that ends
abbrev pub noted : List ℕ → List ℕ → Step → Progress → List ℕ
noted q w s at =
    let clause = made_by q w s at.end in
    slice_set (sets w at.end clause) (at.step + 1) (at.end + length clause)
