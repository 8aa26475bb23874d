-- The start question and the inclusion question ask what they should. Assumes nothing.
use Rattle.std.proofs.Common.{◌≡◌, ℕ, Bool, true, false, not, List, replicate, sym, ap, ◌∙◌, arith}
use lib.ListN.{length-replicate}
use Rattle.std.proofs.lemmas.Bool.{not-true}
use Rattle.sheet.specs.Sheets.{Sheet, sheet_of}
use Rattle.signal.specs.Truth.{lit}
use Rattle.machine.specs.Bits.{Bits, bit}
use Rattle.machine.specs.Runs.{Frame}
use Rattle.formula.specs.Conjunction.{opposite}
use Rattle.formula.specs.Formulas.{width, value_at, nodes_at, Formula, Gates}
use Rattle.formula.specs.Framing.{in_frame, in_question}
use Rattle.formula.proofs.Valued.{lit_opposite, formula_opposite}
use Rattle.question.specs.Clauses.{state_clauses, start_clauses, inclusion_clauses}
use Rattle.question.specs.Meaning.{AllHold, Solvable, BadInR, Outside, frame_at, FrameTells, FormulasTell, StartTells, InclusionTells, StartAlwaysAsks, StartAlwaysTells, InclusionAlwaysAsks, InclusionAlwaysTells}
use Rattle.question.proofs.Frames.{Held, frame_tells, formulas_tell, assigned, assigned_frame, assigned_literal, assigned_formulas, assigned_formula}
use Rattle.question.proofs.Holding.{unit_tells, unit_from}
use Rattle.question.proofs.Parts.{state_parts, state_whole}
use Rattle.question.proofs.Variables.{Lawful, legal_lawful}

module _ (s : Sheet) (lawful : Lawful s) (f : List ℕ) (n : ℕ) (gates : Gates s f n) where
  abbrev w : ℕ
  w = width s

  -- what a satisfied question with one frame tells
  record Told (x y : ℕ) (α : ℕ → Bool) : Type 0 where
    literals : FrameTells s α 0
    formulas : FormulasTell s f n 1 α
    first : lit α (in_question w 1 x) ≡ true
    second : lit α y ≡ true

  told : (x y : ℕ) (α : ℕ → Bool) → AllHold α (state_clauses s f n x y) → Told x y α
  told x y α h =
      let p = state_parts (Held α) s f n x y h in
      record {
        literals = frame_tells s lawful α 0 p.frame;
        formulas = formulas_tell s α f n 1 gates p.frame p.formulas;
        first = unit_tells α (in_question w 1 x) p.first;
        second = unit_tells α y p.second;
      }

  -- and the assignment that a frame gives, which satisfies it
  module _ (frame : Frame s) where
    abbrev α : ℕ → Bool
    α = assigned s lawful f n 1 gates (omega arith) (λ t. frame)

    satisfied : (x y : ℕ) → lit α (in_question w 1 x) ≡ true → lit α y ≡ true → AllHold α (state_clauses s f n x y)
    satisfied x y a b =
        state_whole (Held α) s f n x y
        (record {
          frame = assigned_frame s lawful f n 1 gates (omega arith) (λ t. frame) 0 (omega arith);
          formulas = assigned_formulas s lawful f n 1 gates (omega arith) (λ t. frame);
          first = unit_from α (in_question w 1 x) a;
          second = unit_from α y b;
        })

    formula_is : (x : ℕ) → Formula s n x → lit α (in_question w 1 x) ≡ value_at s f n (bit frame.state) x
    formula_is = assigned_formula s lawful f n 1 gates (omega arith) (λ t. frame)

  other_value : (c : ℕ → Bool) (r : ℕ) → value_at s f n c (opposite r) ≡ not (value_at s f n c r)
  other_value c r = lit_opposite (nodes_at s f n c) r

  pub start_told : (r : ℕ) → Formula s n r → (α : ℕ → Bool) → AllHold α (start_clauses s f n r) → StartTells s f n r α
  start_told r is α h =
      let t = told r (in_frame w 0 s.bad) α h in
      record {
        literals = t.literals;
        formulas = t.formulas;
        in_r = sym (t.formulas r is) ∙ t.first;
        is_bad = sym (t.literals s.bad lawful.bads) ∙ t.second;
      }

  pub start_solved : (r : ℕ) → Formula s n r → BadInR s f n r → Solvable (start_clauses s f n r)
  start_solved r is (c, in_r, (x, bad)) =
      let frame : Frame s = record { state = c; inputs = x } in (
        α frame,
        satisfied frame r (in_frame w 0 s.bad) (formula_is frame r is ∙ in_r)
            (assigned_literal s lawful f n 1 gates (omega arith) (λ t. frame) 0 s.bad (omega arith) lawful.bads ∙ bad),
      )

  pub inclusion_told : (p r : ℕ) → Formula s n p → Formula s n r → (α : ℕ → Bool) → AllHold α (inclusion_clauses s f n p r) → InclusionTells s f n p r α
  inclusion_told p r a b α h =
      let t = told p (in_question w 1 (opposite r)) α h in
      let c : ℕ → Bool = bit (frame_at s α 0).state in
      record {
        literals = t.literals;
        formulas = t.formulas;
        in_p = sym (t.formulas p a) ∙ t.first;
        outside_r =
            not-true (value_at s f n c r) (sym (other_value c r) ∙ sym (t.formulas (opposite r) (formula_opposite s n r b)) ∙ t.second);
      }

  no_input : (m : ℕ) → Bits m
  no_input m = record { bits = replicate m false; sized = length-replicate {A = Bool} m false }

  pub inclusion_solved : (p r : ℕ) → Formula s n p → Formula s n r → Outside s f n p r → Solvable (inclusion_clauses s f n p r)
  inclusion_solved p r a b (c, in_p, outside) =
      let frame : Frame s = record { state = c; inputs = no_input s.inputs } in (
        α frame,
        satisfied frame p (in_question w 1 (opposite r)) (formula_is frame p a ∙ in_p)
            (formula_is frame (opposite r) (formula_opposite s n r b) ∙ other_value (bit c) r ∙ ap not outside),
      )

pub start_tells : StartAlwaysTells
start_tells l f n r legal gates = start_told (sheet_of l) (legal_lawful l legal) f n gates r

pub start_asks : StartAlwaysAsks
start_asks l f n r legal gates is =
    let s : Sheet = sheet_of l in (
      λ (α, h).
          let t = start_tells l f n r legal gates is α h in
          ((frame_at s α 0).state, t.in_r, ((frame_at s α 0).inputs, t.is_bad)),
      start_solved s (legal_lawful l legal) f n gates r is,
    )

pub inclusion_tells : InclusionAlwaysTells
inclusion_tells l f n p r legal gates = inclusion_told (sheet_of l) (legal_lawful l legal) f n gates p r

pub inclusion_asks : InclusionAlwaysAsks
inclusion_asks l f n p r legal gates a b =
    let s : Sheet = sheet_of l in (
      λ (α, h).
          let t = inclusion_tells l f n p r legal gates a b α h in
          ((frame_at s α 0).state, t.in_p, t.outside_r),
      inclusion_solved s (legal_lawful l legal) f n gates p r a b,
    )
