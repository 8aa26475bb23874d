-- What the checks of an assignment say. Assumes nothing.
use Rattle.std.proofs.Common.{◌≡◌, ℕ, zero, suc, ◌+◌, ◌^◌, ◌<◌, ◌≤◌, Bool, true, false, cond, eqb, ltb, ◌⊎◌, List, [], ◌∷◌, length, is_ok, Some, None, Decides, Option, Result, sym, refl, ap, ◌∙◌, inl, inr, ⊎_elim, arith, length-drop, length-take}
use Rattle.std.specs.List.{AllByRecursion}
use Rattle.std.proofs.lemmas.List.{take_all}
use Rattle.std.proofs.lemmas.Bool.{cond-true, lt-ltb, ltb-true, eqb-true, eq-eqb, cases_eq}
use Rattle.sheet.specs.Faults.{and_then, demand}
use Rattle.sheet.specs.declared.fault.Cause.{Cause}
use Rattle.sheet.specs.declared.fault.Cause.TheVariants.{NotABit, FalseClause}
use Rattle.sheet.specs.declared.fault.Fault.{Fault}
use Rattle.lists.specs.Counted.{counted}
use Rattle.signal.specs.Truth.{holds, bits_of}
use Rattle.question.specs.Questions.{variable_count, clause_count, span, clause_of}
use Rattle.answer.specs.Assignments.{first_non_bit, lowest_false, unless_found, judged, Satisfying}

-- ---- a list that is cut already, and its parts
pub counted_all : (xs : List ℕ) → length xs ≤ 2 ^ 28 → counted xs ≡ xs
counted_all xs few = take_all (2 ^ 28) xs few

pub span_few : (xs : List ℕ) (i : ℕ) → length (span xs i) ≤ length xs
span_few xs i = simp (length-take, length-drop) (omega arith)

-- ---- what the definition means
pub none_from : {X : Type 0} (b : Bool) (o : Option X) (x : X) (P : Type 0) → (b ≡ true → o ≡ None → P) → cond b o (Some x) ≡ None → P
none_from true o x P f h = f refl h
none_from false o x P f h = let z : ◌≡◌ {A = ℕ} 0 1 = cc in absurd (omega arith)

abbrev Bit : ℕ → Type 0
Bit x = (x ≡ 0) ⊎ (x ≡ 1)

pub bit_from : (x : ℕ) → x < 2 → Bit x
bit_from zero h = inl refl
bit_from (suc zero) h = inr refl
bit_from (suc (suc x)) h = absurd (omega arith)

bits_from : (i : ℕ) (xs : List ℕ) → first_non_bit i xs ≡ None → AllByRecursion Bit xs
bits_from i [] h = tt
bits_from i (x ∷ xs) h =
    none_from (ltb x 2) (first_non_bit (i + 1) xs) i (AllByRecursion Bit (x ∷ xs)) (λ e n. (bit_from x (ltb-true x 2 e), bits_from (i + 1) xs n)) h

bits_to : (i : ℕ) (xs : List ℕ) → AllByRecursion Bit xs → first_non_bit i xs ≡ None
bits_to i [] h = refl
bits_to i (x ∷ xs) h = cond-true _ _ _ (lt-ltb x 2 (⊎_elim (λ e. omega arith) (λ e. omega arith) h.0)) ∙ bits_to (i + 1) xs h.1

module _ (q : List ℕ) (α : ℕ → Bool) where
  all_from : (k n : ℕ) → lowest_false q α k n ≡ None → (j : ℕ) → k ≤ j → j < k + n → holds α (clause_of q j) ≡ true
  all_from k zero h j low high = absurd (omega arith)
  all_from k (suc n) h j low high =
      none_from (holds α (clause_of q k)) (lowest_false q α (k + 1) n) k _
      (λ e rest. ⊎_elim
      (λ (same : j ≡ k). ap (λ v. holds α (clause_of q v)) same ∙ e)
      (λ ne. all_from (k + 1) n rest j (omega arith) (omega arith))
      (cases_eq j k))
      h

  pub all_to : (k n : ℕ) → ((j : ℕ) → j < k + n → holds α (clause_of q j) ≡ true) → lowest_false q α k n ≡ None
  all_to k zero h = refl
  all_to k (suc n) h = cond-true _ _ _ (h k (omega arith)) ∙ all_to (k + 1) n (λ j l. h j (omega arith))

found_none : (n : Cause) (o : Option ℕ) → is_ok (unless_found n o) ≡ true → o ≡ None
found_none n None h = refl
found_none n (Some i) h = let z : ◌≡◌ {A = ℕ} 0 1 = cc in absurd (omega arith)

passes : (b : Bool) (e : Fault) (n m : Cause) (o p : Option ℕ) →
    is_ok (demand b e (and_then (unless_found n o) (λ _. unless_found m p))) ≡ true → (b ≡ true) × (o ≡ None) × (p ≡ None)
passes true e n m None p h = (refl, refl, found_none m p h)
passes true e n m (Some i) p h = let z : ◌≡◌ {A = ℕ} 0 1 = cc in absurd (omega arith)
passes false e n m o p h = let z : ◌≡◌ {A = ℕ} 0 1 = cc in absurd (omega arith)

pub judged_means : (q numbers : List ℕ) (r : Result (Unit {0}) Fault) → r ≡ judged q numbers → Decides (is_ok r) (Satisfying q numbers)
judged_means q numbers r is = (
  λ h.
      let k = passes (eqb (length numbers) (variable_count q)) _ NotABit FalseClause (first_non_bit 0 numbers) (lowest_false q (bits_of numbers) 0 (clause_count q)) (ap is_ok (sym is) ∙ h) in
      record {
        whole = eqb-true _ _ k.0;
        bits = bits_from 0 numbers k.1;
        clauses = λ j l. all_from q (bits_of numbers) 0 (clause_count q) k.2 j (omega arith) (omega arith);
      },
  λ s.
      ap is_ok is
      ∙ ap is_ok (cond-true _ _ _ (eq-eqb _ _ s.whole))
      ∙ ap (λ o. is_ok (and_then (unless_found NotABit o) (λ _. unless_found FalseClause (lowest_false q (bits_of numbers) 0 (clause_count q))))) (bits_to 0 numbers s.bits)
      ∙ ap (λ o. is_ok (unless_found FalseClause o)) (all_to q (bits_of numbers) 0 (clause_count q) (λ j l. s.clauses j (omega arith))),
)
