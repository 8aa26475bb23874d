-- Why a refutation is refused. Assumes nothing.
use Rattle.std.proofs.Common.{◌≡◌, ℕ, zero, suc, ◌+◌, ◌-◌, ◌<◌, ◌≤◌, Bool, true, false, cond, not, eqb, ltb, leb, ◌⊎◌, List, length, Ok, Err, Result, sym, refl, ap, ◌∙◌, subst, inl, inr, ⊎_elim, arith}
use Rattle.std.proofs.lemmas.List.{nil_from_length}
use Rattle.std.proofs.lemmas.Bool.{cond-true, cond-false, lt-ltb, le-ltb, lt-leb, leb-false, eqb-true, eqb-false, and_from, and_parts, not_from_false, both_ways, cases_Bool, cases_lt}
use Rattle.sheet.specs.Faults.{and_then, demand}
use Rattle.sheet.specs.declared.fault.Cause.{Cause}
use Rattle.sheet.specs.declared.fault.Cause.TheVariants.{NotWhole, LaterLine, PivotNotOpposed, Clash, WorkTooShort, NotEmpty}
use Rattle.sheet.specs.declared.fault.Fault.{Fault}
use Rattle.sheet.specs.declared.fault.Layer.TheVariants.{Refutation}
use Rattle.question.specs.Questions.{clause_count, span}
use Rattle.answer.specs.Joint.{opposes, clashing}
use Rattle.answer.specs.Lines.{line_of}
use Rattle.answer.specs.Steps.{step_count, step_of, refused, line_before, made_by, come_before, onward, advanced, noted}
use Rattle.answer.specs.Runs.{is_whole, start, opened, run, outcome}
use Rattle.answer.specs.Derivations.{ComeBefore, Opposes, Clashes, MakesAll, Whole, total}
use Rattle.answer.specs.Reasons.{RightBefore, WrongStep, not_earlier, no_pivot, clash, no_room, NotRefuting, not_whole, wrong_step, not_empty}
use Rattle.answer.specs.declared.steps.Step.{Step}
use Rattle.answer.specs.declared.steps.Progress.{Progress}
use Rattle.answer.proofs.Members.{has_mem, mem_has}
use Rattle.answer.proofs.Resolving.{Proper, resolves_from}
use Rattle.answer.proofs.Cancelling.{clashes_from}
use Rattle.answer.proofs.Going.{end_after, advanced_ok, run_err}
use Rattle.answer.proofs.Laying.{Laid, laid_none, total_next, total_same}
use Rattle.answer.proofs.Faulting.{err_same, fault_at}
use Rattle.answer.proofs.Refuting.{resolves_same, makes_same, before_from, before_to, front_proper, line_of_d, clause_is, step_suited, step_refused, steps_more, follow, whole_from, whole_to}

false_from : (b : Bool) → (b ≡ true → ⊥) → b ≡ false
false_from b h = ⊎_elim (λ e. absurd (h e)) (λ e. e) (cases_Bool b)

-- ---- the four checks of a step
data Stops (a b c d : Bool) (i : ℕ) (f : Fault) : Type 0 where
  at_42 : a ≡ false → refused LaterLine i ≡ f → Stops a b c d i f
  at_43 : a ≡ true → b ≡ false → refused PivotNotOpposed i ≡ f → Stops a b c d i f
  at_44 : a ≡ true → b ≡ true → c ≡ true → refused Clash i ≡ f → Stops a b c d i f
  at_45 : a ≡ true → b ≡ true → c ≡ false → d ≡ false → refused WorkTooShort i ≡ f → Stops a b c d i f

stops : {X : Type 0} (a b c d : Bool) (i : ℕ) (x : X) (f : Fault) →
    and_then (demand a (refused LaterLine i) (demand b (refused PivotNotOpposed i) (demand (not c) (refused Clash i) (Ok (tt {0}))))) (λ _. demand d (refused WorkTooShort i) (Ok x)) ≡ Err f →
    Stops a b c d i f
stops {X} false b c d i x f h = at_42 refl (err_same {X = X} _ f h)
stops {X} true false c d i x f h = at_43 refl refl (err_same {X = X} _ f h)
stops {X} true true true d i x f h = at_44 refl refl refl (err_same {X = X} _ f h)
stops {X} true true false false i x f h = at_45 refl refl refl refl (err_same {X = X} _ f h)
stops {X} true true false true i x f h = let z : ◌≡◌ {A = ℕ} 0 1 = cc in absurd (omega arith)

total_grows : (d : ℕ → List ℕ) (i m : ℕ) → total d i ≤ total d (i + m)
total_grows d i zero = let same : i + 0 ≡ i = omega arith in omega (arith, ap (total d) same)
total_grows d i (suc m) =
    let same : i + suc m ≡ (i + m) + 1 = omega arith in
    omega (arith, ap (total d) same, total_next d (i + m), total_grows d i m)

pub total_within : (d : ℕ → List ℕ) (i j : ℕ) → i ≤ j → total d i ≤ total d j
total_within d i j h = let same : i + (j - i) ≡ j = omega arith in omega (arith, ap (total d) same, total_grows d i (j - i))

module _ (q t : List ℕ) (n : ℕ) (proper : Proper q) where
  abbrev s : ℕ
  s = step_count t

  -- what is so far right, by the working list
  right_so_far : (w : List ℕ) (at : Progress) → Laid s n w at → MakesAll q t at.step (span w) → (d : ℕ → List ℕ) →
      ((j : ℕ) → j < at.step → span w j ≡ d j) → Whole t → RightBefore q t n at.step d
  right_so_far w at laid steps d same whole = record {
    whole = whole;
    makes = λ j l. makes_same q (span w) d j (step_of t j) (λ m b. same m (omega arith)) (same j l) (steps j l);
    room = λ j l.
        omega (
          arith,
          laid.sum,
          laid.fits (omega arith),
          total_within (span w) (j + 1) at.step (omega arith),
          total_same (span w) d (j + 1) (λ m b. same m (omega arith)),
        );
  }

  module _ (w : List ℕ) (at : Progress) (laid : Laid s n w at) (steps : MakesAll q t at.step (span w)) (less : at.step < s) where
    abbrev here : Step
    here = step_of t at.step

    abbrev one : List ℕ
    one = line_before q w at.end here.first

    abbrev other : List ℕ
    other = line_before q w at.end here.second

    abbrev clause : List ℕ
    clause = made_by q w here at.end

    abbrev fits : Bool
    fits = leb (end_after q w here at) (length w)

    abbrev room_next : Unit {0} → Result Progress Fault
    room_next u = demand fits (refused WorkTooShort at.step) (Ok (onward at (end_after q w here at)))

    -- ---- a reason for the step, by the clauses d, is what stops it
    module _ (d : ℕ → List ℕ) (same : (j : ℕ) → j < at.step → span w j ≡ d j) where
      line_is : (k : ℕ) → k < clause_count q + at.step → line_of q d k ≡ line_before q w at.end k
      line_is k h = line_of_d q t s n proper w at laid steps less d same k h

      opposes_to : ComeBefore q at.step here → Opposes (line_of q d here.first) (line_of q d here.second) here.pivot → Opposes one other here.pivot
      opposes_to b o =
          subst (λ v. Opposes one v here.pivot) (line_is here.second b.1)
          (subst (λ v. Opposes v (line_of q d here.second) here.pivot) (line_is here.first b.0) o)

      opposes_back : ComeBefore q at.step here → Opposes one other here.pivot → Opposes (line_of q d here.first) (line_of q d here.second) here.pivot
      opposes_back b o =
          subst (λ v. Opposes (line_of q d here.first) v here.pivot) (sym (line_is here.second b.1))
          (subst (λ v. Opposes v other here.pivot) (sym (line_is here.first b.0)) o)

      clashes_back : ComeBefore q at.step here → Clashes one other here.pivot → Clashes (line_of q d here.first) (line_of q d here.second) here.pivot
      clashes_back b o =
          subst (λ v. Clashes (line_of q d here.first) v here.pivot) (sym (line_is here.second b.1))
          (subst (λ v. Clashes v other here.pivot) (sym (line_is here.first b.0)) o)

      stopped : (m : Cause) → WrongStep q t n d m at.step → advanced q w here at ≡ Err (refused m at.step)
      stopped m (not_earlier e never) =
          ap (λ r. and_then r room_next) (cond-false _ _ _ (false_from (come_before q at.step here) (λ h. never (before_from q at.step here h))))
          ∙ fault_at Refutation LaterLine m at.step at.step e refl
      stopped m (no_pivot e b never) =
          ap (λ r. and_then r room_next)
          (cond-true _ _ _ (before_to q at.step here b)
          ∙ cond-false _ _ _ (false_from (opposes one other here.pivot)
          (λ h. let k = and_parts _ _ h in never (opposes_back b (has_mem _ one k.0, has_mem _ other k.1)))))
          ∙ fault_at Refutation PivotNotOpposed m at.step at.step e refl
      stopped m (clash e c) =
          step_refused q t s n proper w at laid steps less d same c ∙ fault_at Refutation Clash m at.step at.step e refl
      stopped m (no_room e makes never) =
          let is : clause ≡ d at.step = clause_is q t s n proper w at laid steps less d same makes in
          let long : length w < end_after q w here at =
          ⊎_elim (λ h. h)
          (λ (h : end_after q w here at ≤ length w).
          absurd (never (omega (arith, h, laid.sum, laid.size, ap length is, total_same (span w) d at.step same, total_next d at.step))))
          (cases_lt (length w) (end_after q w here at)) in
          ap (λ r. and_then r room_next) (step_suited q t s n proper w at laid steps less d same makes)
          ∙ cond-false _ _ _ (lt-leb _ _ long)
          ∙ fault_at Refutation WorkTooShort m at.step at.step e refl

    -- ---- what stops the step is a reason, by the clauses so far and the one that it would make
    abbrev grown : ℕ → List ℕ
    grown j = cond (ltb j at.step) (span w j) clause

    grown_same : (j : ℕ) → j < at.step → span w j ≡ grown j
    grown_same j l = sym (cond-true _ _ _ (lt-ltb j at.step l))

    grown_here : clause ≡ grown at.step
    grown_here = sym (cond-false _ _ _ (le-ltb at.step at.step (omega arith)))

    abbrev Because : Fault → Type 0
    Because f = (f.layer ≡ Refutation) × (f.place ≡ at.step) × WrongStep q t n grown f.cause at.step

    opposed_from : opposes one other here.pivot ≡ true → Opposes one other here.pivot
    opposed_from h = let k = and_parts _ _ h in (has_mem _ one k.0, has_mem _ other k.1)

    because : (f : Fault) → Stops (come_before q at.step here) (opposes one other here.pivot) (clashing one other here.pivot) fits at.step f → Because f
    because f (at_42 a is) =
        subst Because is (refl, refl, not_earlier refl (λ b. both_ways _ a (before_to q at.step here b)))
    because f (at_43 a b is) =
        let before = before_from q at.step here a in
        subst Because is (
          refl,
          refl,
          no_pivot refl before (λ o.
              let k = opposes_to grown grown_same before o in both_ways _ b (and_from _ _ (mem_has _ one k.0) (mem_has _ other k.1))),
        )
    because f (at_44 a b c is) =
        let before = before_from q at.step here a in
        let cx = front_proper q t s n proper w at laid steps less here.first before.0 in
        let cy = front_proper q t s n proper w at laid steps less here.second before.1 in
        subst Because is (
          refl,
          refl,
          clash refl (record {
            earlier = before;
            opposes = opposes_back grown grown_same before (opposed_from b);
            clashes = clashes_back grown grown_same before (clashes_from one other here.pivot cx cy c);
          }),
        )
    because f (at_45 a b c e is) =
        let before = before_from q at.step here a in
        let cx = front_proper q t s n proper w at laid steps less here.first before.0 in
        let cy = front_proper q t s n proper w at laid steps less here.second before.1 in
        let joins = resolves_from one other here.pivot at.step cx cy (cond-true _ _ _ b ∙ cond-true _ _ _ (not_from_false _ c)) in
        let long : length w < end_after q w here at = leb-false _ _ e in
        subst Because is (
          refl,
          refl,
          no_room refl
              (record {
                earlier = before;
                resolves =
                    resolves_same _ _ _ _ _ _ here.pivot (sym (line_is grown grown_same here.first before.0))
                    (sym (line_is grown grown_same here.second before.1)) grown_here joins;
              })
              (λ room. omega (arith, room, long, laid.sum, laid.size, ap length grown_here, total_same (span w) grown at.step grown_same, total_next grown at.step)),
        )

    step_why : Whole t → (f : Fault) → advanced q w here at ≡ Err f → (f.layer ≡ Refutation) × NotRefuting q t n f.cause f.place
    step_why whole f h =
        let (layer, place, wrong) = because f (stops _ _ _ _ at.step _ f h) in (
          layer,
          subst (NotRefuting q t n f.cause) (sym place) (wrong_step grown (right_so_far w at laid steps grown grown_same whole) less wrong),
        )

  -- ---- a whole run
  and_then_err : {X Y : Type 0} (r : Result X Fault) (k : X → Result Y Fault) (f : Fault) → and_then r k ≡ Err f → (r ≡ Err f) ⊎ ((x : X) × (r ≡ Ok x) × (k x ≡ Err f))
  and_then_err (Ok x) k f h = inr (x, refl, h)
  and_then_err {X} {Y} (Err e) k f h = inl (ap Err (err_same {X = Y} e f h))

  finished_err : (w : List ℕ) (at : Progress) (b : Bool) (f : Fault) → demand b (refused NotEmpty (at.step - 1)) (Ok w) ≡ Err f → (b ≡ false) × (refused NotEmpty (at.step - 1) ≡ f)
  finished_err w at true f h = let z : ◌≡◌ {A = ℕ} 0 1 = cc in absurd (omega arith)
  finished_err w at false f h = (refl, err_same {X = List ℕ} _ f h)

  abbrev Why : Fault → Type 0
  Why f = (f.layer ≡ Refutation) × NotRefuting q t n f.cause f.place

  run_why : Whole t → (m : ℕ) (w : List ℕ) (at : Progress) → m + at.step ≡ s → Laid s n w at → MakesAll q t at.step (span w) → (f : Fault) →
      run q t m w at ≡ Err f → Why f
  run_why whole zero w at all laid steps f h =
      let last : at.step - 1 ≡ s - 1 = omega arith in
      let is : at.step ≡ s = omega arith in
      let k = finished_err w at _ f h in
      subst Why k.1 (
        refl,
        not_empty refl last (span w)
            (subst (λ i. RightBefore q t n i (span w)) is (right_so_far w at laid steps (span w) (λ j l. refl) whole))
            (λ e. eqb-false _ _ k.0 (ap length e)),
      )
  run_why whole (suc m) w at all laid steps f h =
      let less : at.step < s = omega arith in
      ⊎_elim
      (λ e. step_why w at laid steps less whole f e)
      (λ k.
      let next : Progress = k.0 in
      let on = steps_more q t s n proper w at laid steps less next k.1 in
      let step = ap (λ a. a.step) (advanced_ok q w (step_of t at.step) at next k.1).1 in
      run_why whole m (noted q w (step_of t at.step) at) next (omega (arith, step)) on.0 on.1 f k.2)
      (and_then_err (advanced q w (step_of t at.step) at) _ f h)

  outcome_err : (b : Bool) → is_whole t ≡ b → (f : Fault) → demand b (refused NotWhole 0) (run q t s (opened n s) (start s)) ≡ Err f → Why f
  outcome_err true is f h =
      run_why (whole_from t is) s (opened n s) (start s) (omega arith) (laid_none s n) (λ j l. absurd (omega arith)) f h
  outcome_err false is f h =
      subst Why (err_same {X = List ℕ} _ f h) (refl, not_whole refl refl (λ k. both_ways _ is (whole_to t k)))

  -- each refusal has its reason
  pub outcome_why : (f : Fault) → outcome q t n ≡ Err f → Why f
  outcome_why f h = outcome_err (is_whole t) refl f h

  room_so_far : (d : ℕ → List ℕ) (i : ℕ) → RightBefore q t n i d → 0 < i → s + 1 + total d i ≤ n
  room_so_far d i right some =
      let same : i - 1 + 1 ≡ i = omega arith in omega (arith, right.room (i - 1) (omega arith), ap (total d) same)

  -- and what has a reason is refused for it
  pub why_outcome : (m : Cause) (i : ℕ) → NotRefuting q t n m i → outcome q t n ≡ Err (refused m i)
  why_outcome m i (not_whole e z never) =
      cond-false _ _ _ (false_from (is_whole t) (λ h. never (whole_from t h))) ∙ fault_at Refutation NotWhole m 0 i e z
  why_outcome m i (wrong_step d right among wrong) =
      let f = follow q t s n proper d i (omega arith) right.makes (room_so_far d i right) in
      let less : f.at.step < s = omega (arith, f.reaches) in
      let wrong' : WrongStep q t n d m f.at.step = subst (WrongStep q t n d m) (sym f.reaches) wrong in
      let stop = stopped f.list f.at f.laid f.steps less d f.same m wrong' in
      cond-true _ _ _ (whole_to t right.whole)
      ∙ f.runs
      ∙ run_err q t f.list s f.at less _ (sym stop)
      ∙ ap (λ k. Err (refused m k)) f.reaches
  why_outcome m i (not_empty e z d right never) =
      let f = follow q t s n proper d s (omega arith) right.makes (room_so_far d s right) in
      let none : s - f.at.step ≡ 0 = omega (arith, f.reaches) in
      let last : f.at.step - 1 ≡ i = omega (arith, f.reaches) in
      let is : span f.list (f.at.step - 1) ≡ d i =
      f.same (f.at.step - 1) (omega (arith, f.reaches, right.whole.some)) ∙ ap d last in
      cond-true _ _ _ (whole_to t right.whole)
      ∙ f.runs
      ∙ ap (λ k. run q t k f.list f.at) none
      ∙ cond-false _ _ _ (false_from (eqb (length (span f.list (f.at.step - 1))) 0)
      (λ h. never (sym is ∙ nil_from_length _ (eqb-true _ 0 h))))
      ∙ fault_at Refutation NotEmpty m (f.at.step - 1) i e (sym last)
