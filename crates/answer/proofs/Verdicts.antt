-- What the answer of a check means, and what the working list holds then: laws for whoever calls it. Assumes nothing.
use Rattle.std.proofs.Common.{◌≡◌, ℕ, ◌^◌, min, true, false, List, ◌++◌, length, take, drop, replicate, is_ok, Ok, Err, Decides, Result, refl, ap, ◌∙◌, arith}
use lib.ListN.{length-replicate}
use Rattle.lists.specs.Counted.{counted, on_counted}
use Rattle.lists.proofs.Taken.{take_min, drop_min, take_refronted}
use Rattle.sheet.specs.declared.fault.Cause.TheVariants.{Clash}
use Rattle.sheet.specs.declared.fault.Fault.{Fault}
use Rattle.sheet.specs.declared.fault.Layer.TheVariants.{Refutation}
use Rattle.question.specs.Questions.{span, IsQuestion, Satisfiable}
use Rattle.answer.specs.Derivations.{Derives, Refutes, CancelsTwo}
use Rattle.answer.specs.Layout.{Lays}
use Rattle.answer.specs.Reasons.{NotRefuting, RefutationReasoned}
use Rattle.answer.specs.Runs.{outcome, verdict, left, checked}
use Rattle.answer.specs.Steps.{step_count, refused}
use Rattle.answer.proofs.Refuting.{outcome_whole, outcome_size, outcome_lays, outcome_derives, outcome_refutes, refutes_outcome, cancels_outcome}
use Rattle.answer.proofs.Faulting.{err_same, reasoned_by}
use Rattle.answer.proofs.Blaming.{outcome_why, why_outcome}
use Rattle.answer.proofs.Resolving.{unsatisfiable}

-- an `Ok` comes of a list, which is then left
verdict_ok : (o : Result (List ℕ) Fault) (n : ℕ) → is_ok (verdict o) ≡ true → o ≡ Ok (left n o)
verdict_ok (Ok v) n h = refl
verdict_ok (Err f) n h = let z : ◌≡◌ {A = ℕ} 0 1 = cc in absurd (omega arith)

verdict_err : (o : Result (List ℕ) Fault) (f : Fault) → verdict o ≡ Err f → o ≡ Err f
verdict_err (Ok v) f h = let z : ◌≡◌ {A = ℕ} 0 1 = cc in absurd (omega arith)
verdict_err (Err e) f h = ap Err (err_same {X = Unit {0}} e f h)

left_refused : (o : Result (List ℕ) Fault) (n : ℕ) → is_ok (verdict o) ≡ false → left n o ≡ replicate n 0
left_refused (Ok v) n h = let z : ◌≡◌ {A = ℕ} 0 1 = cc in absurd (omega arith)
left_refused (Err f) n h = refl

length_left : (q t : List ℕ) (n : ℕ) (o : Result (List ℕ) Fault) → outcome q t n ≡ o → length (left n o) ≡ n
length_left q t n (Ok v) is = outcome_size q t n v is
length_left q t n (Err f) is = length-replicate n 0

module _ (q t w : List ℕ) where
  pub length_checked : length (checked q t w).1 ≡ length w
  length_checked = length_left q t (length w) _ refl

  pub cancels_two_refused : (i : ℕ) → IsQuestion q → CancelsTwo q t (length w) i → (checked q t w).0 ≡ Err (refused Clash i)
  cancels_two_refused i is c = ap verdict (cancels_outcome q t (length w) is.clauses i c)

  pub refused_cleared : is_ok (checked q t w).0 ≡ false → (checked q t w).1 ≡ replicate (length w) 0
  refused_cleared h = left_refused (outcome q t (length w)) (length w) h

  pub check_reasoned : IsQuestion q → RefutationReasoned q t (length w) (checked q t w).0
  check_reasoned is =
      reasoned_by Refutation (NotRefuting q t (length w)) (checked q t w).0
      (λ f h. outcome_why q t (length w) is.clauses f (verdict_err (outcome q t (length w)) f h))
      (λ n i h. ap verdict (why_outcome q t (length w) is.clauses n i h))

  module _ (ok : is_ok (checked q t w).0 ≡ true) where
    accepted : outcome q t (length w) ≡ Ok (checked q t w).1
    accepted = verdict_ok (outcome q t (length w)) (length w) ok

    pub accepted_lays : Lays (step_count t) (checked q t w).1
    accepted_lays = outcome_lays q t (length w) _ accepted

    module _ (is : IsQuestion q) where
      pub accepted_derives : Derives q t (span (checked q t w).1)
      accepted_derives = outcome_derives q t (length w) _ accepted is.clauses

      pub accepted_refutes : Refutes q t (length w)
      accepted_refutes = outcome_refutes q t (length w) _ accepted is.clauses

      pub accepted_unsatisfiable : Satisfiable q → ⊥
      accepted_unsatisfiable = unsatisfiable q t _ is.clauses (outcome_whole q t (length w) _ accepted).some accepted_derives

  pub accepts_exactly : IsQuestion q → Decides (is_ok (checked q t w).0) (Refutes q t (length w))
  accepts_exactly is = (λ ok. accepted_refutes ok is, λ r. ap (λ o. is_ok (verdict o)) (refutes_outcome q t (length w) is.clauses r).1)

-- ---- the check works on what counts of the working list
module _ (q t w : List ℕ) where
  pub cut_check : (room : ℕ) (q' t' after : List ℕ) (r : Result (Unit {0}) Fault) → room ≡ min (length w) (2 ^ 28) → q' ≡ q → t' ≡ t →
      r ≡ (checked q' t' (take room w)).0 → after ≡ (checked q' t' (take room w)).1 → (r, after ++ drop room w) ≡ on_counted (checked q t) w
  cut_check room q' t' after r is a b answers leaves =
      let cut : checked q' t' (take room w) ≡ checked q t (counted w) =
      ap (λ v. checked v t' (take room w)) a ∙ ap (λ v. checked q v (take room w)) b ∙ ap (checked q t) (take_min w (2 ^ 28) room is) in
      let one : r ≡ (checked q t (counted w)).0 = answers ∙ ap (λ p. p.0) cut in
      let two : after ≡ (checked q t (counted w)).1 = leaves ∙ ap (λ p. p.1) cut in
      ap (λ v. (v, after ++ drop room w)) one
      ∙ ap (λ v. ((checked q t (counted w)).0, v ++ drop room w)) two
      ∙ ap (λ v. ((checked q t (counted w)).0, (checked q t (counted w)).1 ++ v)) (drop_min w (2 ^ 28) room is)

  module _ (r : Result (Unit {0}) Fault) (exit : List ℕ) (is : (r, exit) ≡ on_counted (checked q t) w) where
    pub cut_answer : r ≡ (checked q t (counted w)).0
    cut_answer = ap (λ p. p.0) is

    pub cut_list : counted exit ≡ (checked q t (counted w)).1
    cut_list = ap (λ p. counted p.1) is ∙ take_refronted (checked q t (counted w)).1 w (2 ^ 28) (length_checked q t (counted w))
