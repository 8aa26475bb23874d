-- A refutation that derives the empty clause is accepted with every working list, or a step of it finds no room. Assumes nothing.
use Rattle.std.proofs.Common.{◌≡◌, ℕ, zero, suc, ◌+◌, ◌-◌, ◌<◌, ◌≤◌, true, leb, ◌⊎◌, List, [], length, take, is_ok, Ok, Err, Result, sym, refl, ap, ◌∙◌, subst, inl, inr, ⊎_elim, arith}
use Rattle.std.proofs.lemmas.Bool.{cond-true, cond-false, lt-ltb, lt-leb, le-leb, eq-eqb, and_from, cases_lt}
use Rattle.lists.specs.Counted.{counted}
use Rattle.sheet.specs.Faults.{and_then, demand}
use Rattle.sheet.specs.declared.fault.Cause.TheVariants.{WorkTooShort}
use Rattle.sheet.specs.declared.fault.Fault.{Fault}
use Rattle.question.specs.Questions.{variable_count, clause_count, span, Clause, IsQuestion}
use Rattle.answer.specs.Assignments.{judged}
use Rattle.answer.specs.Derivations.{Resolves, Makes, MakesAll, Derives, Whole}
use Rattle.answer.specs.Lines.{line_of}
use Rattle.answer.specs.Runs.{is_whole, start, opened, run, outcome, verdict, checked}
use Rattle.answer.specs.Steps.{step_count, step_of, refused, line_before, made_by, come_before, suited, onward, advanced, noted}
use Rattle.answer.specs.declared.steps.Step.{Step}
use Rattle.answer.proofs.Resolving.{Proper, matched_from, line_given, line_derived, lines_proper}
use Rattle.answer.proofs.Going.{run_ok, run_err}
use Rattle.answer.proofs.Laying.{laid_none, front_same}
use Rattle.answer.proofs.Refuting.{Followed, steps_more, clause_is, step_taken, taken_spans}
use Rattle.answer.proofs.Verdicts.{accepted_refutes}
use Rattle.producer.specs.Pairing.{screened}
use Rattle.producer.specs.Replying.{Stands, Upheld}
use Rattle.producer.specs.declared.interface.Reply.{Reply}
use Rattle.producer.specs.declared.interface.Reply.TheVariants.{Assignment, Refutation, TooLong}

line_same : (q : List ℕ) (d e : ℕ → List ℕ) (i : ℕ) → ((j : ℕ) → j < i → d j ≡ e j) → (k : ℕ) → k < clause_count q + i → line_of q d k ≡ line_of q e k
line_same q d e i same k h = ⊎_elim
    (λ (l : k < clause_count q). line_given q d k l ∙ sym (line_given q e k l))
    (λ (l : clause_count q ≤ k). line_derived q d k l ∙ same (k - clause_count q) (omega arith) ∙ sym (line_derived q e k l))
    (cases_lt k (clause_count q))

-- ---- a step of a derivation that finds no room
module _ (q t : List ℕ) (s n : ℕ) (proper : Proper q) (d : ℕ → List ℕ) (i : ℕ) (f : Followed q t s n d i) (less : f.at.step < s)
    (m : Makes q d f.at.step (step_of t f.at.step)) where
  abbrev here : Step
  here = step_of t f.at.step

  front_line : (k : ℕ) → k < clause_count q + f.at.step → line_before q f.list f.at.end k ≡ line_of q (span f.list) k
  front_line k h = line_same q (span (take f.at.end f.list)) (span f.list) f.at.step (front_same s n f.list f.at f.laid less) k h

  proper_line : (k : ℕ) → k < clause_count q + f.at.step → Clause (line_before q f.list f.at.end k)
  proper_line k h = subst Clause (sym (front_line k h)) (lines_proper q t f.at.step (span f.list) proper f.steps k h)

  line_of_d : (k : ℕ) → k < clause_count q + f.at.step → line_of q d k ≡ line_before q f.list f.at.end k
  line_of_d k h = sym (front_line k h ∙ line_same q (span f.list) d f.at.step f.same k h)

  resolves : Resolves (line_before q f.list f.at.end here.first) (line_before q f.list f.at.end here.second) here.pivot (d f.at.step)
  resolves =
      subst (λ v. Resolves (line_before q f.list f.at.end here.first) v here.pivot (d f.at.step)) (line_of_d here.second m.earlier.1)
      (subst (λ v. Resolves v (line_of q d here.second) here.pivot (d f.at.step)) (line_of_d here.first m.earlier.0) m.resolves)

  step_stopped : length f.list < f.at.end + length (d f.at.step) → advanced q f.list here f.at ≡ Err (refused WorkTooShort f.at.step)
  step_stopped tight =
      let before : come_before q f.at.step here ≡ true = and_from _ _ (lt-ltb _ _ m.earlier.0) (lt-ltb _ _ m.earlier.1) in
      let free : suited q f.list here f.at ≡ Ok tt =
      cond-true _ _ _ before
      ∙ matched_from _ _ here.pivot f.at.step (proper_line here.first m.earlier.0) (proper_line here.second m.earlier.1) (d f.at.step) resolves in
      let is = clause_is q t s n proper f.list f.at f.laid f.steps less d f.same m in
      ap
      (λ r. and_then r
      (λ _. demand (leb (f.at.end + length (made_by q f.list here f.at.end)) (length f.list)) (refused WorkTooShort f.at.step)
      (Ok (onward f.at (f.at.end + length (made_by q f.list here f.at.end))))))
      free
      ∙ ap (λ v. demand (leb (f.at.end + length v) (length f.list)) (refused WorkTooShort f.at.step) (Ok (onward f.at (f.at.end + length v)))) is
      ∙ cond-false _ _ _ (lt-leb _ _ tight)

-- ---- a run follows a derivation as far as there is room
module _ (q t : List ℕ) (s n : ℕ) (proper : Proper q) (d : ℕ → List ℕ) (makes : MakesAll q t s d) where
  abbrev Stopped : Type 0
  Stopped = (k : ℕ) × (run q t s (opened n s) (start s) ≡ Err (refused WorkTooShort k))

  one_step : (i : ℕ) → i < s → Followed q t s n d i → Followed q t s n d (suc i) ⊎ Stopped
  one_step i h f =
      let w : List ℕ = f.list in
      let at = f.at in
      let less : at.step < s = omega (arith, f.reaches) in
      let m : Makes q d at.step (step_of t at.step) = subst (λ k. Makes q d k (step_of t k)) (sym f.reaches) (makes i h) in
      let is = clause_is q t s n proper w at f.laid f.steps less d f.same m in
      ⊎_elim
      (λ (tight : length w < at.end + length (d at.step)).
      inr (at.step, f.runs ∙ run_err q t w s at less _ (sym (step_stopped q t s n proper d i f less m tight))))
      (λ (fit : at.end + length (d at.step) ≤ length w).
      let ok = step_taken q t s n proper w at f.laid f.steps less d f.same m fit in
      let on = steps_more q t s n proper w at f.laid f.steps less _ ok in
      inl (record {
        list = noted q w (step_of t at.step) at;
        at = onward at (at.end + length (d at.step));
        reaches = omega (arith, f.reaches);
        laid = on.0;
        steps = on.1;
        same = taken_spans q t s n proper w at f.laid f.steps less d f.same m (omega (arith, ap length is));
        runs = f.runs ∙ run_ok q t w s at less _ _ (sym ok) refl;
      }))
      (cases_lt (length w) (at.end + length (d at.step)))

  followed : (i : ℕ) → i ≤ s → Followed q t s n d i ⊎ Stopped
  followed zero h =
      let whole : s ≡ s - 0 = omega arith in
      inl (record {
        list = opened n s;
        at = start s;
        reaches = refl;
        laid = laid_none s n;
        steps = λ j l. absurd (omega arith);
        same = λ j l. absurd (omega arith);
        runs = ap (λ m. run q t m (opened n s) (start s)) whole;
      })
  followed (suc i) h = ⊎_elim (one_step i (omega arith)) inr (followed i (omega arith))

-- ---- the whole refutation
module _ (q t : List ℕ) (proper : Proper q) (whole : Whole t) (d : ℕ → List ℕ) (derives : Derives q t d) where
  abbrev s : ℕ
  s = step_count t

  ends : (n : ℕ) → Followed q t s n d s → (v : List ℕ) × (run q t s (opened n s) (start s) ≡ Ok v)
  ends n f =
      let none : s - f.at.step ≡ 0 = omega (arith, f.reaches) in
      let last : span f.list (f.at.step - 1) ≡ [] =
      f.same (f.at.step - 1) (omega (arith, f.reaches, whole.some)) ∙ ap (λ k. d (k - 1)) f.reaches ∙ derives.empty in
      (f.list, f.runs ∙ ap (λ m. run q t m f.list f.at) none ∙ cond-true _ _ _ (eq-eqb _ 0 (ap length last)))

  pub derivation_stands : (w : List ℕ) → Stands (checked q t w).0
  derivation_stands w =
      let n = length w in
      let runs : Result (List ℕ) Fault = run q t s (opened n s) (start s) in
      let through : outcome q t n ≡ runs =
      cond-true (is_whole t) _ _ (and_from _ _ (lt-ltb 0 s whole.some) (and_from _ _ (le-leb _ _ whole.few) (le-leb _ _ whole.there))) in
      ⊎_elim
      (λ f. let e = ends n f in subst (λ o. Stands (verdict o)) (sym (through ∙ e.1)) tt)
      (λ e. subst (λ o. Stands (verdict o)) (sym (through ∙ e.1)) (e.0, refl))
      (followed q t s n proper d derives.steps s (omega arith))

-- ---- what is accepted with one working list
pub ok_is : (r : Result (Unit {0}) Fault) → is_ok r ≡ true → r ≡ Ok tt
ok_is (Ok x) h = refl
ok_is (Err f) h = let z : ◌≡◌ {A = ℕ} 0 1 = cc in absurd (omega arith)

pub accepted_stands : (q t w : List ℕ) → IsQuestion q → is_ok (checked q t w).0 ≡ true → (v : List ℕ) → Stands (checked q t v).0
accepted_stands q t w is ok v =
    let r = accepted_refutes q t w ok is in derivation_stands q t is.clauses r.whole r.derived r.derives v

pub screened_upheld : (q a w : List ℕ) (r : Reply) (m : ℕ) → IsQuestion (counted q) → (screened q a w r).0 ≡ true → Upheld (counted q) (counted a) m r
screened_upheld q a w Assignment m is ok = ok_is (judged (counted q) (take (variable_count (counted q)) (counted a))) ok
screened_upheld q a w Refutation m is ok = accepted_stands (counted q) (counted a) (counted w) is ok
screened_upheld q a w TooLong m is ok = let z : ◌≡◌ {A = ℕ} 0 1 = cc in absurd (omega arith)
