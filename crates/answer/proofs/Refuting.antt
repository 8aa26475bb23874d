-- A run is a derivation, and a derivation with room is a run. Assumes nothing.
use Rattle.std.proofs.Common.{◌≡◌, ℕ, zero, suc, ◌+◌, ◌-◌, ◌<◌, ◌≤◌, Bool, true, false, eqb, leb, List, [], length, take, Ok, Err, Result, sym, refl, ap, ◌∙◌, subst, ⊎_elim, arith}
use Rattle.std.proofs.lemmas.List.{nil_from_length}
use Rattle.std.proofs.lemmas.Bool.{cond-true, cond-false, cond_both, lt-ltb, le-leb, eq-eqb, ltb-true, leb-true, eqb-true, and_from, and_parts, not_from_true, cases_lt}
use Rattle.sheet.specs.Faults.{and_then, demand}
use Rattle.sheet.specs.declared.fault.Cause.TheVariants.{NotWhole, Clash, WorkTooShort}
use Rattle.sheet.specs.declared.fault.Fault.{Fault}
use Rattle.question.specs.Questions.{clause_count, span, Clause}
use Rattle.answer.specs.Joint.{clashing}
use Rattle.answer.specs.Lines.{line_of}
use Rattle.answer.specs.Steps.{step_count, step_of, refused, line_before, made_by, come_before, suited, onward, advanced, noted}
use Rattle.answer.specs.Runs.{is_whole, start, opened, finished, run, outcome}
use Rattle.answer.specs.Derivations.{Resolves, ComeBefore, Makes, MakesAll, Derives, Whole, total, Refutes, Opposes, Clashes, ClashesAt, CancelsTwo}
use Rattle.answer.specs.Layout.{Lays}
use Rattle.answer.specs.declared.steps.Step.{Step}
use Rattle.answer.specs.declared.steps.Progress.{Progress}
use Rattle.answer.proofs.Members.{mem_has}
use Rattle.answer.proofs.Resolving.{Proper, resolves_from, joint_is, matched_from, line_given, line_derived, lines_proper}
use Rattle.answer.proofs.Cancelling.{clashing_from}
use Rattle.answer.proofs.Going.{end_after, advanced_ok, run_ok, run_err}
use Rattle.answer.proofs.Laying.{Laid, laid_none, front_same, more, span_same, span_new, laid_more, lays_out, total_same}

-- ---- what two ways of naming the derived clauses share
pub line_same : (q : List ℕ) (d e : ℕ → List ℕ) (i : ℕ) → ((j : ℕ) → j < i → d j ≡ e j) → (k : ℕ) → k < clause_count q + i → line_of q d k ≡ line_of q e k
line_same q d e i same k h = ⊎_elim
    (λ (l : k < clause_count q). line_given q d k l ∙ sym (line_given q e k l))
    (λ (l : clause_count q ≤ k). line_derived q d k l ∙ same (k - clause_count q) (omega arith) ∙ sym (line_derived q e k l))
    (cases_lt k (clause_count q))

pub resolves_same : (xs xs' ys ys' zs zs' : List ℕ) (p : ℕ) → xs ≡ xs' → ys ≡ ys' → zs ≡ zs' → Resolves xs ys p zs → Resolves xs' ys' p zs'
resolves_same xs xs' ys ys' zs zs' p a b c r =
    subst (λ v. Resolves xs' ys' p v) c (subst (λ v. Resolves xs' v p zs) b (subst (λ v. Resolves v ys p zs) a r))

pub makes_same : (q : List ℕ) (d e : ℕ → List ℕ) (i : ℕ) (s : Step) → ((j : ℕ) → j < i → d j ≡ e j) → d i ≡ e i → Makes q d i s → Makes q e i s
makes_same q d e i s below here m = record {
  earlier = m.earlier;
  resolves =
      resolves_same _ _ _ _ _ _ s.pivot (line_same q d e i below s.first m.earlier.0)
      (line_same q d e i below s.second m.earlier.1) here m.resolves;
}

-- ---- the checks of a step
suited_ok : (b : Bool) (f : Fault) (r : Result (Unit {0}) Fault) → demand b f r ≡ Ok tt → (b ≡ true) × (r ≡ Ok tt)
suited_ok true f r h = (refl, h)
suited_ok false f r h = let z : ◌≡◌ {A = ℕ} 0 1 = cc in absurd (omega arith)

pub before_from : (q : List ℕ) (i : ℕ) (s : Step) → come_before q i s ≡ true → ComeBefore q i s
before_from q i s h = let k = and_parts _ _ h in (ltb-true _ _ k.0, ltb-true _ _ k.1)

pub before_to : (q : List ℕ) (i : ℕ) (s : Step) → ComeBefore q i s → come_before q i s ≡ true
before_to q i s h = and_from _ _ (lt-ltb _ _ h.0) (lt-ltb _ _ h.1)

-- ---- one step of a run from a working list of n places after some of s steps
module _ (q t : List ℕ) (s n : ℕ) (proper : Proper q) (w : List ℕ) (at : Progress) (laid : Laid s n w at) (steps : MakesAll q t at.step (span w)) (less : at.step < s) where
  abbrev here : Step
  here = step_of t at.step

  abbrev clause : List ℕ
  clause = made_by q w here at.end

  -- a line before the step, in the front of the working list and in the whole
  front_line : (k : ℕ) → k < clause_count q + at.step → line_before q w at.end k ≡ line_of q (span w) k
  front_line k h = line_same q (span (take at.end w)) (span w) at.step (front_same s n w at laid less) k h

  pub front_proper : (k : ℕ) → k < clause_count q + at.step → Clause (line_before q w at.end k)
  front_proper k h = subst Clause (sym (front_line k h)) (lines_proper q t at.step (span w) proper steps k h)

  abbrev Onwards : Progress → Type 0
  Onwards next = Laid s n (noted q w here at) next × MakesAll q t next.step (span (noted q w here at))

  pub steps_more : (next : Progress) → advanced q w here at ≡ Ok next → Onwards next
  steps_more next ok =
      let k = advanced_ok q w here at next ok in
      let g = suited_ok _ _ _ k.0 in
      let f = before_from q at.step here g.0 in
      let room : at.end + length clause ≤ length w = k.2 in
      let w' : List ℕ = more s n w at laid less clause room in
      let old : (j : ℕ) → j < at.step → span w j ≡ span w' j = λ j l. sym (span_same s n w at laid less clause room j l) in
      let new : clause ≡ span w' at.step = sym (span_new s n w at laid less clause room) in
      let line : (j : ℕ) → j < clause_count q + at.step → line_before q w at.end j ≡ line_of q (span w') j =
      λ j l. front_line j l ∙ line_same q (span w) (span w') at.step old j l in
      let it : Makes q (span w') at.step here = record {
        earlier = f;
        resolves =
            resolves_same _ _ _ _ _ _ here.pivot (line here.first f.0) (line here.second f.1) new
            (resolves_from _ _ here.pivot at.step (front_proper here.first f.0) (front_proper here.second f.1) g.1);
      } in
      subst Onwards (sym k.1) (
        laid_more s n w at laid less clause room,
        λ j l. ⊎_elim
            (λ (h : j < at.step). makes_same q (span w) (span w') j (step_of t j) (λ m b. old m (omega arith)) (old j h) (steps j h))
            (λ (h : at.step ≤ j). let same : at.step ≡ j = omega arith in subst (λ v. Makes q (span w') v (step_of t v)) same it)
            (cases_lt j at.step),
      )

  -- the clauses so far are those of d
  module _ (d : ℕ → List ℕ) (same : (j : ℕ) → j < at.step → span w j ≡ d j) where
    pub line_of_d : (k : ℕ) → k < clause_count q + at.step → line_of q d k ≡ line_before q w at.end k
    line_of_d k h = sym (front_line k h ∙ line_same q (span w) d at.step same k h)

    -- a step of a derivation is taken
    module _ (m : Makes q d at.step here) where
      resolves : Resolves (line_before q w at.end here.first) (line_before q w at.end here.second) here.pivot (d at.step)
      resolves =
          resolves_same _ _ _ _ _ _ here.pivot (line_of_d here.first m.earlier.0) (line_of_d here.second m.earlier.1) refl m.resolves

      pub clause_is : clause ≡ d at.step
      clause_is =
          joint_is _ _ here.pivot at.step (front_proper here.first m.earlier.0) (front_proper here.second m.earlier.1) (d at.step) resolves

      pub step_suited : suited q w here at ≡ Ok tt
      step_suited =
          cond-true _ _ _ (before_to q at.step here m.earlier)
          ∙ matched_from _ _ here.pivot at.step (front_proper here.first m.earlier.0) (front_proper here.second m.earlier.1) (d at.step) resolves

      pub step_taken : at.end + length (d at.step) ≤ length w → advanced q w here at ≡ Ok (onward at (at.end + length (d at.step)))
      step_taken room =
          let next : ℕ → Result Progress Fault = λ e. demand (leb e (length w)) (refused WorkTooShort at.step) (Ok (onward at e)) in
          ap (λ r. and_then r (λ _. next (at.end + length clause))) step_suited
          ∙ ap (λ v. next (at.end + length v)) clause_is
          ∙ cond-true _ _ _ (le-leb _ _ room)

      pub taken_spans : at.end + length clause ≤ length w → (j : ℕ) → j < at.step + 1 → span (noted q w here at) j ≡ d j
      taken_spans room j l = ⊎_elim
          (λ (h : j < at.step). span_same s n w at laid less clause room j h ∙ same j h)
          (λ (h : at.step ≤ j).
          let is : at.step ≡ j = omega arith in
          subst (λ v. span (noted q w here at) v ≡ d v) is (span_new s n w at laid less clause room ∙ clause_is))
          (cases_lt j at.step)

    -- a step that would cancel another variable besides its pivot is refused
    pub step_refused : ClashesAt q d at.step here → advanced q w here at ≡ Err (refused Clash at.step)
    step_refused c =
        let xs : List ℕ = line_before q w at.end here.first in
        let ys : List ℕ = line_before q w at.end here.second in
        let one = line_of_d here.first c.earlier.0 in
        let other = line_of_d here.second c.earlier.1 in
        let opposed : Opposes xs ys here.pivot =
        subst (λ v. Opposes xs v here.pivot) other (subst (λ v. Opposes v (line_of q d here.second) here.pivot) one c.opposes) in
        let clash : Clashes xs ys here.pivot =
        subst (λ v. Clashes xs v here.pivot) other (subst (λ v. Clashes v (line_of q d here.second) here.pivot) one c.clashes) in
        let loud : clashing xs ys here.pivot ≡ true =
        clashing_from xs ys here.pivot (front_proper here.first c.earlier.0) (front_proper here.second c.earlier.1) clash in
        let stops : suited q w here at ≡ Err (refused Clash at.step) =
        cond-true _ _ _ (before_to q at.step here c.earlier)
        ∙ cond-true _ _ _ (and_from _ _ (mem_has _ xs opposed.0) (mem_has _ ys opposed.1))
        ∙ cond-false _ _ _ (not_from_true _ loud) in
        ap (λ r. and_then r (λ _. demand (leb (end_after q w here at) (length w)) (refused WorkTooShort at.step) (Ok (onward at (end_after q w here at))))) stops

-- ---- the run follows a derivation as far as that goes
pub record Followed (q t : List ℕ) (s n : ℕ) (d : ℕ → List ℕ) (i : ℕ) : Type 0 where
  pub list : List ℕ
  pub at : Progress
  pub reaches : at.step ≡ i
  pub laid : Laid s n list at
  pub steps : MakesAll q t at.step (span list)
  pub same : (j : ℕ) → j < at.step → span list j ≡ d j
  pub runs : run q t s (opened n s) (start s) ≡ run q t (s - at.step) list at

module _ (q t : List ℕ) (s n : ℕ) (proper : Proper q) (d : ℕ → List ℕ) where
  pub follow : (i : ℕ) → i ≤ s → MakesAll q t i d → (0 < i → s + 1 + total d i ≤ n) → Followed q t s n d i
  follow zero h makes room =
      let whole : s ≡ s - 0 = omega arith in
      record {
        list = opened n s;
        at = start s;
        reaches = refl;
        laid = laid_none s n;
        steps = λ j l. absurd (omega arith);
        same = λ j l. absurd (omega arith);
        runs = ap (λ m. run q t m (opened n s) (start s)) whole;
      }
  follow (suc i) h makes room =
      let f = follow i (omega arith) (λ j l. makes j (omega arith)) (λ l. omega (arith, room (omega arith))) in
      let w : List ℕ = f.list in
      let at : Progress = f.at in
      let less : at.step < s = omega (arith, f.reaches) in
      let m : Makes q d at.step (step_of t at.step) = subst (λ k. Makes q d k (step_of t k)) (sym f.reaches) (makes i (omega arith)) in
      let sizes : length (d at.step) ≡ length (d i) = ap (λ k. length (d k)) f.reaches in
      let sums : total d at.step ≡ total d i = ap (total d) f.reaches in
      let fit : at.end + length (d at.step) ≤ length w =
      omega (arith, f.laid.sum, f.laid.size, total_same (span w) d at.step f.same, sizes, sums, room (omega arith)) in
      let ok = step_taken q t s n proper w at f.laid f.steps less d f.same m fit in
      let is = clause_is q t s n proper w at f.laid f.steps less d f.same m in
      let on = steps_more q t s n proper w at f.laid f.steps less _ ok in
      record {
        list = noted q w (step_of t at.step) at;
        at = onward at (at.end + length (d at.step));
        reaches = omega (arith, f.reaches);
        laid = on.0;
        steps = on.1;
        same = taken_spans q t s n proper w at f.laid f.steps less d f.same m (omega (arith, ap length is));
        runs = f.runs ∙ run_ok q t w s at less _ _ (sym ok) refl;
      }

-- ---- what a run keeps
and_then_ok : {X Y : Type 0} (r : Result X Fault) (f : X → Result Y Fault) (v : Y) → and_then r f ≡ Ok v → (x : X) × (r ≡ Ok x) × (f x ≡ Ok v)
and_then_ok (Ok x) f v h = (x, refl, h)
and_then_ok (Err e) f v h = let z : ◌≡◌ {A = ℕ} 0 1 = cc in absurd (omega arith)

finished_ok : (w v : List ℕ) (at : Progress) → finished w at ≡ Ok v → (w ≡ v) × (span w (at.step - 1) ≡ [])
finished_ok w v at =
    cond_both (eqb (length (span w (at.step - 1))) 0) _ _ (λ r. r ≡ Ok v → (w ≡ v) × (span w (at.step - 1) ≡ []))
    (λ e h. (cc, nil_from_length _ (eqb-true _ 0 e)))
    (λ _ h. let z : ◌≡◌ {A = ℕ} 0 1 = cc in absurd (omega arith))

module _ (q t : List ℕ) (s : ℕ) (P : List ℕ → Progress → Type 0)
    (keeps : (w : List ℕ) (at next : Progress) → at.step < s → advanced q w (step_of t at.step) at ≡ Ok next → P w at → P (noted q w (step_of t at.step) at) next) where
  run_keeps : (m : ℕ) (w : List ℕ) (at : Progress) (v : List ℕ) → m + at.step ≡ s → run q t m w at ≡ Ok v → P w at →
      (last : Progress) × (last.step ≡ s) × P v last × (span v (s - 1) ≡ [])
  run_keeps zero w at v all h p =
      let f = finished_ok w v at h in
      let is : at.step ≡ s = omega arith in
      (at, is, subst (λ u. P u at) f.0 p, subst (λ u. span u (s - 1) ≡ []) f.0 (subst (λ k. span w (k - 1) ≡ []) is f.1))
  run_keeps (suc m) w at v all h p =
      let here : Step = step_of t at.step in
      let k = and_then_ok (advanced q w here at) _ v h in
      let step = ap (λ a. a.step) (advanced_ok q w here at k.0 k.1).1 in
      run_keeps m (noted q w here at) k.0 v (omega (arith, step)) k.2 (keeps w at k.0 (omega arith) k.1 p)

laid_on : (q t : List ℕ) (s n : ℕ) (w : List ℕ) (at next : Progress) → at.step < s → advanced q w (step_of t at.step) at ≡ Ok next → Laid s n w at →
    Laid s n (noted q w (step_of t at.step) at) next
laid_on q t s n w at next less ok laid =
    let k = advanced_ok q w (step_of t at.step) at next ok in
    subst (Laid s n (noted q w (step_of t at.step) at)) (sym k.1) (laid_more s n w at laid less _ k.2)

-- ---- whole refutations
pub whole_from : (t : List ℕ) → is_whole t ≡ true → Whole t
whole_from t h =
    let k = and_parts _ _ h in
    let l = and_parts _ _ k.1 in
    record { some = ltb-true _ _ k.0; few = leb-true _ _ l.0; there = leb-true _ _ l.1 }

pub whole_to : (t : List ℕ) → Whole t → is_whole t ≡ true
whole_to t h = and_from _ _ (lt-ltb 0 (step_count t) h.some) (and_from _ _ (le-leb _ _ h.few) (le-leb _ _ h.there))

demanded : {X : Type 0} (b : Bool) (f : Fault) (r : Result X Fault) (x : X) → demand b f r ≡ Ok x → (b ≡ true) × (r ≡ Ok x)
demanded true f r x h = (refl, h)
demanded false f r x h = let z : ◌≡◌ {A = ℕ} 0 1 = cc in absurd (omega arith)

module _ (q t : List ℕ) (n : ℕ) where
  abbrev s : ℕ
  s = step_count t

  module _ (v : List ℕ) (ok : outcome q t n ≡ Ok v) where
    parts : (is_whole t ≡ true) × (run q t s (opened n s) (start s) ≡ Ok v)
    parts = demanded (is_whole t) (refused NotWhole 0) (run q t s (opened n s) (start s)) v ok

    pub outcome_whole : Whole t
    outcome_whole = whole_from t parts.0

    laid_last : (last : Progress) × (last.step ≡ s) × Laid s n v last × (span v (s - 1) ≡ [])
    laid_last = run_keeps q t s (Laid s n) (λ w at next less go laid. laid_on q t s n w at next less go laid) s (opened n s) (start s) v (omega arith) parts.1 (laid_none s n)

    pub outcome_size : length v ≡ n
    outcome_size = laid_last.2.size

    -- the working list has the places, the clauses behind them, and zeros
    pub outcome_lays : Lays s v
    outcome_lays = lays_out s n v laid_last.0 laid_last.2 laid_last.1 outcome_whole.some

    module _ (proper : Proper q) where
      abbrev Both : List ℕ → Progress → Type 0
      Both w at = Laid s n w at × MakesAll q t at.step (span w)

      made_last : (last : Progress) × (last.step ≡ s) × Both v last × (span v (s - 1) ≡ [])
      made_last = run_keeps q t s Both (λ w at next less go b. steps_more q t s n proper w at b.0 b.1 less next go) s (opened n s) (start s) v (omega arith) parts.1 (laid_none s n, λ j l. absurd (omega arith))

      -- its clauses are a derivation
      pub outcome_derives : Derives q t (span v)
      outcome_derives = record { steps = λ i l. made_last.2.1 i (omega (arith, made_last.1)); empty = made_last.3 }

      pub outcome_refutes : Refutes q t n
      outcome_refutes =
          let last = laid_last.0 in
          let sums : total (span v) last.step ≡ total (span v) s = ap (total (span v)) laid_last.1 in
          record {
            whole = outcome_whole;
            derived = span v;
            derives = outcome_derives;
            room = omega (arith, laid_last.2.sum, sums, laid_last.2.fits (omega (arith, laid_last.1, outcome_whole.some)));
          }

  module _ (proper : Proper q) where
    -- a refutation is accepted
    pub refutes_outcome : Refutes q t n → (v : List ℕ) × (outcome q t n ≡ Ok v)
    refutes_outcome r =
        let d = r.derived in
        let f = follow q t s n proper d s (omega arith) r.derives.steps (λ _. r.room) in
        let none : s - f.at.step ≡ 0 = omega (arith, f.reaches) in
        let last : span f.list (f.at.step - 1) ≡ [] =
        f.same (f.at.step - 1) (omega (arith, f.reaches, r.whole.some)) ∙ ap (λ k. d (k - 1)) f.reaches ∙ r.derives.empty in (
          f.list,
          cond-true _ _ _ (whole_to t r.whole)
              ∙ f.runs
              ∙ ap (λ m. run q t m f.list f.at) none
              ∙ cond-true _ _ _ (eq-eqb _ 0 (ap length last)),
        )

    -- a step that would cancel two variables is refused
    pub cancels_outcome : (i : ℕ) → CancelsTwo q t n i → outcome q t n ≡ Err (refused Clash i)
    cancels_outcome i c =
        let d = c.derived in
        let f = follow q t s n proper d i (omega (arith, c.among)) c.before c.room in
        let less : f.at.step < s = omega (arith, f.reaches, c.among) in
        let clash : ClashesAt q d f.at.step (step_of t f.at.step) =
        subst (λ k. ClashesAt q d k (step_of t k)) (sym f.reaches) c.here in
        let stop = step_refused q t s n proper f.list f.at f.laid f.steps less d f.same clash in
        cond-true _ _ _ (whole_to t c.whole)
        ∙ f.runs
        ∙ run_err q t f.list s f.at less _ (sym stop)
        ∙ ap (λ k. Err (refused Clash k)) f.reaches
