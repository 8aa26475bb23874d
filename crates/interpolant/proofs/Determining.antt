-- The partial interpolants of a derivation are determined. Assumes nothing.
use Rattle.std.proofs.Common.{◌≡◌, ℕ, zero, suc, ◌+◌, ◌-◌, ◌<◌, ◌≤◌, Bool, true, false, ◌&&◌, ◌||◌, List, Decides, sym, refl, ◌∙◌, subst, ⊎_elim, arith}
use Rattle.std.proofs.lemmas.Bool.{cases_Bool, cases_lt}
use Rattle.question.specs.Questions.{clause_count}
use Rattle.answer.specs.Derivations.{Derives}
use Rattle.answer.specs.Steps.{step_of}
use Rattle.interpolant.specs.Interpolation.{Cut, Partial, line_count, Determined}

decides_same : (b b' : Bool) (P : Type 0) → Decides b P → Decides b' P → b ≡ b'
decides_same true b' P d d' = sym (d'.1 (d.0 refl))
decides_same false true P d d' = d.1 (d'.0 refl)
decides_same false false P d d' = refl

module _ (q t : List ℕ) (derived : ℕ → List ℕ) (u : Cut) (der : Derives q t derived) (α p p' : ℕ → Bool)
    (one : Partial q t u α (line_count q t) p) (other : Partial q t u α (line_count q t) p') where
  same_below : (m k : ℕ) → k < m → k < line_count q t → p k ≡ p' k
  same_below zero k l h = absurd (omega arith)
  same_below (suc m) k l h = ⊎_elim
      (λ (given : k < clause_count q). ⊎_elim
      (λ (i : k < u.first). decides_same (p k) (p' k) _ (one.first k h given i) (other.first k h given i))
      (λ (i : u.first ≤ k). one.second k h given i ∙ sym (other.second k h given i))
      (cases_lt k u.first))
      (λ (made : clause_count q ≤ k).
      let i : ℕ = k - clause_count q in
      let is : clause_count q + i ≡ k = omega arith in
      let within : clause_count q + i < line_count q t = omega arith in
      let before = (der.steps i (omega arith)).earlier in
      let a : p (step_of t i).first ≡ p' (step_of t i).first = same_below m (step_of t i).first (omega (arith, before.0)) (omega (arith, before.0)) in
      let b : p (step_of t i).second ≡ p' (step_of t i).second = same_below m (step_of t i).second (omega (arith, before.1)) (omega (arith, before.1)) in
      subst (λ (j : ℕ). p j ≡ p' j) is (⊎_elim
      (λ (e : u.local (step_of t i).pivot ≡ true). one.disjoined i within e ∙ (λ d. a d || b d) ∙ sym (other.disjoined i within e))
      (λ (e : u.local (step_of t i).pivot ≡ false). one.conjoined i within e ∙ (λ d. a d && b d) ∙ sym (other.conjoined i within e))
      (cases_Bool (u.local (step_of t i).pivot))))
      (cases_lt k (clause_count q))

pub determined : Determined
determined q t derived u der α p p' one other k h = same_below q t derived u der α p p' one other (k + 1) k (omega arith) h
