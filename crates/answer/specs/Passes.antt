-- One pass over the union of two clauses, which writes its literals and looks for what forbids the step. Assumes nothing.
use Rattle.std.specs.Prelude.{◌≡◌, ℕ, ◌+◌, ◌*◌, ◌≤◌, Bool, cond, ◌&&◌, ◌||◌, List, ◌++◌, length, Some, None, Ok, Err, Option, Result, nat_le}
use Rattle.std.proofs.lemmas.List.Edits.{sets}
use Rattle.sheet.specs.declared.fault.Cause.TheVariants.{WorkTooShort}
use Rattle.sheet.specs.declared.fault.Fault.{Fault}
use Rattle.answer.specs.Joint.{without, repeats, joint, clashing, has, opposes}
use Rattle.answer.specs.Steps.{refused, line_before, come_before}
use Rattle.answer.specs.declared.passes.Tally.{Tally}
use Rattle.answer.specs.declared.steps.Step.{Step}
use Rattle.answer.specs.declared.steps.Progress.{Progress}

-- the place where a clause ends, if that is within the room
abbrev pub ended : ℕ → ℕ → Option ℕ
ended room end = cond (nat_le end room) (Some end) None

-- where the literals u that are left end, if no variable of theirs comes twice and the room does
abbrev pub due : Tally → ℕ → List ℕ → Option ℕ
due t room u = cond (repeats t.last (without t.pivot u)) None (ended room (t.count + length (without t.pivot u)))

-- the places w, with the literals u that are left
abbrev pub filled : Tally → List ℕ → List ℕ → List ℕ
filled t w u = sets w t.count (without t.pivot u)

-- from t and w to t' and w' the literals zs are taken, which are of the first clause if a, and of the second if b: whatever is
-- left comes to the same
pub record Took (t t' : Tally) (a b : Bool) (w w' zs : List ℕ) : Type 0 where
  pub pivot : t'.pivot ≡ t.pivot
  pub ends : (u : List ℕ) → due t (length w) (zs ++ u) ≡ due t' (length w') u
  pub writes : (u : List ℕ) → filled t w (zs ++ u) ≡ filled t' w' u
  pub plain : t'.plain ≡ (t.plain || (a && has (2 * t.pivot) zs))
  pub negated : t'.negated ≡ (t.negated || (b && has (2 * t.pivot + 1) zs))
  pub fits : t.count ≤ length w → t'.count ≤ length w'

-- the literals zs are taken; or whatever is left, they have a clash or no room
abbrev pub Taken : Tally → Bool → Bool → List ℕ → List ℕ → List ℕ → Option Tally → Type 0
Taken t a b w w' zs None = (u : List ℕ) → due t (length w) (zs ++ u) ≡ None
Taken t a b w w' zs (Some t') = Took t t' a b w w' zs

-- where the resolvent of two clauses ends, if there is one and the room does
abbrev pub joined : ℕ → ℕ → List ℕ → List ℕ → ℕ → Option ℕ
joined room start xs ys p = cond (opposes xs ys p) (cond (clashing xs ys p) None (ended room (start + length (joint xs ys p)))) None

-- where the clause of a step ends, if it has one and the room does
abbrev pub passed : List ℕ → List ℕ → Step → Progress → Option ℕ
passed q w s at =
    cond (come_before q at.step s)
    (joined (length w) at.end (line_before q w at.end s.first) (line_before q w at.end s.second) s.pivot)
    None

-- why the step i, which has no clause, has none
abbrev pub blamed : ℕ → Result (Unit {0}) Fault → Fault
blamed i (Ok _) = refused WorkTooShort i
blamed i (Err f) = f
