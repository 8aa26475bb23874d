-- What is promised of every series of calls, from the procedure over sets of states. Assumes nothing.
use Rattle.std.proofs.Common.{◌≡◌, ℕ, ◌+◌, ◌-◌, ◌^◌, ◌<◌, ◌≤◌, true, ◌&&◌, ltb, leb, ◌⊎◌, List, ◌++◌, map, length, take, replicate, Some, None, Ok, Err, Option, Result, sym, refl, ap, ◌∙◌, subst, inl, inr, arith}
use Rattle.std.specs.List.{range_with_len}
use Rattle.std.proofs.lemmas.List.FromFn.{length-map-range_with_len}
use Rattle.std.proofs.lemmas.List.{take-append-drop}
use Rattle.std.proofs.lemmas.Bool.{cond-true, cond-false, cond_both, le-leb, lt-leb}
use Rattle.lists.specs.Counted.{counted, uncounted}
use Rattle.signal.specs.Truth.{bits_of}
use Rattle.sheet.specs.Faults.{fault}
use Rattle.sheet.specs.Render.{well_formed}
use Rattle.sheet.specs.Sheets.{Sheet, Legal}
use Rattle.sheet.specs.declared.fault.Cause.TheVariants.{RunTooShort}
use Rattle.sheet.specs.declared.fault.Fault.{Fault}
use Rattle.sheet.specs.declared.fault.Layer.TheVariants.{ReadOff}
use Rattle.sheet.proofs.Legality.{legal_well_formed}
use Rattle.machine.specs.Depth.{ReverseDepth}
use Rattle.machine.specs.Runs.{Frame, BadRun}
use Rattle.procedure.specs.Procedure.{most, Guarantee}
use Rattle.procedure.specs.Happens.{starters}
use Rattle.procedure.proofs.Starting.{start_region}
use Rattle.procedure.proofs.Theorem.{guarantee, one_by_one_rises}
use Rattle.formula.specs.Built.{write_start}
use Rattle.formula.specs.declared.root.Root.{Root}
use Rattle.question.specs.Layout.{start_list, given, posed_if}
use Rattle.question.specs.Meaning.{frame_at}
use Rattle.question.specs.Questions.{IsQuestion}
use Rattle.question.proofs.Variables.{legal_lawful}
use Rattle.checker.specs.declared.End.{End}
use Rattle.checker.specs.declared.End.TheVariants.{Safe, Run, Undecided, Spent, Short}
use Rattle.checker.specs.declared.Asked.{Asked}
use Rattle.checker.specs.declared.Ended.{Ended}
use Rattle.checker.specs.declared.report.Report.{Report}
use Rattle.checker.specs.declared.report.Verdict.TheVariants.{Safe as is-safe, Run as is-run, Undecided as is-undecided, Spent as is-spent, Short as is-short}
use Rattle.checker.specs.Lists.{Lists}
use Rattle.checker.specs.Guarantees.{reports, Says, Runs, EndedSafe, EndedRun, EndedUndecided, EndedSpent, Decided, ReadsOff, GoesOn, turns_of, Going}
use Rattle.checker.specs.Opening.{Opened, start_asked, start_made, opened}
use Rattle.checker.specs.Calls.{fetched, shown, weighed, taken}
use Rattle.checker.specs.Points.{sheet_in}
use Rattle.checker.specs.Reports.{run_size, first_bad, run_in, run_off, reported_run, read_off}
use Rattle.checker.specs.Series.{Stage, at_asked, at_weighed, at_ended, Series, opens, fetches, show_refused, shows, weigh_refused, weighs, takes, sets_aside, read_off_refused, reads_off}
use Rattle.checker.proofs.Found.{First, first_bad_lem, bad_path}
use Rattle.checker.proofs.Handing.{run_is_written}
use Rattle.checker.proofs.Holding.{Holds, holds, is_question}
use Rattle.checker.proofs.Moving.{comes_to}
use Rattle.checker.proofs.Opening.{OfOpened, opened_stands}
use Rattle.checker.proofs.Promising.{by_open, by_show, by_weigh, by_take}
use Rattle.checker.proofs.Standing.{Comes, Stands, Ran, Ends}

-- the theorem on the procedure, for the sheet that a list lays out
abbrev Right : List ℕ → ℕ → ℕ → Type 0
Right l K Q = Guarantee (sheet_in l) (starters (sheet_in l)) (λ k. k + 1) K Q

right : (l : List ℕ) (K Q : ℕ) → Right l K Q
right l K Q = guarantee (sheet_in l) (starters (sheet_in l)) (start_region (sheet_in l)) (λ k. k + 1) K Q

-- ---- the ends
module _ (l : List ℕ) (K Q last v n : ℕ) (xs : List ℕ) (ran : Ran l (Comes l K Q) last v n xs) (bound : ℕ) where
  abbrev s : Sheet
  s = sheet_in l

  abbrev frames : ℕ → Frame s
  frames = frame_at s (bits_of xs)

  abbrev m : ℕ
  m = first_bad s xs last 0

  first : First s xs (legal_lawful (counted l) ran.legal).bads 0 last m
  first = first_bad_lem s xs (legal_lawful (counted l) ran.legal).bads last ran.tells last 0 (omega arith) ran.bad.0 (omega arith) ran.bad.1 ran.bad.2

  its_run : BadRun s m
  its_run =
      record {
        first = frames 0;
        later = map frames (range_with_len 1 m);
        starts = ran.starts;
        meets = bad_path s xs (legal_lawful (counted l) ran.legal).bads m (λ t h. ran.follows t (omega (arith, first.high))) first.bad;
        steps = length-map-range_with_len frames 1 m;
      }

  abbrev e : Ended
  e = record { end = Run last v; bound = bound; turns = n }

  formed : well_formed (counted l) ≡ true
  formed = legal_well_formed (counted l) ran.legal

  -- read off, with the assignment that was shown
  offered : (lent run-list : List ℕ) → take (length xs) (counted lent) ≡ xs
      → run_off (counted l) (take v (counted lent)) last (counted run-list) ≡ run_in s xs m (counted run-list)
  offered lent run-list same =
      let shown_is : take v (counted lent) ≡ xs = ap (λ (i : ℕ). take i (counted lent)) (sym ran.whole) ∙ same in
      ap (λ (ys : List ℕ). run_off (counted l) ys last (counted run-list)) shown_is
      ∙ cond-true (well_formed (counted l)) (run_in s xs m (counted run-list)) (Ok last, replicate (length (counted run-list)) 0) formed

  abbrev Off : Type 0
  Off = Result ℕ Fault × List ℕ

  pub runs : Runs l e xs n
  unfolding its_run
  runs =
      record {
        steps = m;
        bad_run = its_run;
        shortest = (right l K Q).run_is_shortest (λ k. refl) (frames 0).state m n ran.comes;
        handed_out = λ lent run-list same room.
            let p = offered lent run-list same ∙ cond-true (leb (run_size s m) (length (counted run-list))) _ _ (le-leb (run_size s m) (length (counted run-list)) room) in
            ap (λ (o : Off). let r : Result Report Fault × List ℕ = (reported_run e o.0, o.1 ++ uncounted run-list) in r) p
            ∙ ap (λ (ys : List ℕ). let r : Result Report Fault × List ℕ = (Ok (reports (is-run m) e n), (ys ++ replicate (length (counted run-list) - run_size s m) 0) ++ uncounted run-list) in r)
            (run_is_written s xs ran.bits m);
        held_back = λ lent run-list same few.
            let p = offered lent run-list same ∙ cond-false (leb (run_size s m) (length (counted run-list))) _ _ (lt-leb (run_size s m) (length (counted run-list)) few) in
            ap (λ (o : Off). let r : Result Report Fault × List ℕ = (reported_run e o.0, o.1 ++ uncounted run-list) in r) p
            ∙ ap (λ (ys : List ℕ). let r : Result Report Fault × List ℕ = (Err (fault ReadOff RunTooShort 0), ys) in r) (take-append-drop (2 ^ 28) run-list);
      }

-- the end of a series, with its count
module _ (l : List ℕ) (K Q : ℕ) (e : Ended) (xs : List ℕ) (x : Lists) (n : ℕ) (s : Series l K Q (at_ended e xs) x n) where
  at_end : (end : End) → e.end ≡ end → Ends l K Q (Comes l K Q) end n xs
  at_end end is = subst (λ (i : End). Ends l K Q (Comes l K Q) i n xs) is (holds s).0

  as_counted : (end : End) → e.end ≡ end → (P : Ended → Type 0) → P (record { end = end; bound = e.bound; turns = n }) → P e
  as_counted end is P h = subst P (λ i. record { end = sym is i; bound = e.bound; turns = sym (holds s).1 i }) h

  pub safe_means_no_bad_run : EndedSafe e → (m : ℕ) → BadRun (sheet_in l) m → ⊥
  safe_means_no_bad_run is = (right l K Q).safe_is_safe n (at_end Safe is)

  pub run_is_a_shortest_bad_run : EndedRun e → Runs l e xs n
  run_is_a_shortest_bad_run (last, v, is) =
      as_counted (Run last v) is (λ (d : Ended). Runs l d xs n) (runs l K Q last v n xs (at_end (Run last v) is) e.bound)

  one_end : (end : End) → e.end ≡ end → Decided e ⊎ (EndedUndecided e ⊎ EndedSpent e)
  one_end Safe is = inl (inl is)
  one_end (Run last v) is = inl (inr (inl (last, v, is)))
  one_end Undecided is = inr (inl is)
  one_end Spent is = inr (inr is)
  one_end (Short which) is = inl (inr (inr (which, is)))

  pub reads_off_the_end : ReadsOff l e n
  reads_off_the_end =
      record {
        ends = one_end e.end refl;
        says_safe = λ is. as_counted Safe is (λ (d : Ended). Says l d n is-safe) (λ lent run-list. refl);
        says_undecided = λ is. as_counted Undecided is (λ (d : Ended). Says l d n is-undecided) (λ lent run-list. refl);
        says_spent = λ is. as_counted Spent is (λ (d : Ended). Says l d n is-spent) (λ lent run-list. refl);
        says_short = λ which is. as_counted (Short which) is (λ (d : Ended). Says l d n (is-short which)) (λ lent run-list. refl);
      }

-- ---- every call goes on
pub goes_on : (l : List ℕ) (K Q : ℕ) → GoesOn l K Q
goes_on l K Q =
    record {
      opens = λ f q. let p = opened l K Q f q in by_open l K Q f q p.0 p.1 p.2 refl;
      fetches = λ a x n s. fetches a x n (fetched a x.question) s refl;
      shows = λ a x n answer s. let p = shown l a answer x in by_show l a answer x p.0 p.1 refl K Q n s;
      weighs = λ a x n t w s. let p = weighed a x.question t w in by_weigh a x.question t w p.0 p.1 refl l K Q n x.formula x.values s;
      takes = λ d x n t s. let p = taken l d t x in by_take l d t x p.0 p.1 refl K Q n s;
      sets_aside = λ d said x n s. sets_aside d said x n d.asked s refl;
      reads_off = λ e xs x n lent run-list s. read_by_lem l K Q e xs x n lent run-list s (read_off l e lent run-list).0 (read_off l e lent run-list).1 refl;
    }
  where
    read_by_lem : (l : List ℕ) (K Q : ℕ) (e : Ended) (xs : List ℕ) (x : Lists) (n : ℕ) (lent run-list : List ℕ) → Series l K Q (at_ended e xs) x n
        → (r : Result Report Fault) (after : List ℕ) → read_off l e lent run-list ≡ (r, after) → Series l K Q (at_ended e xs) x n
    read_by_lem l K Q e xs x n lent run-list s (Ok r) after is = reads_off e xs x n lent run-list r after s is
    read_by_lem l K Q e xs x n lent run-list s (Err f) after is = read_off_refused e xs x n lent run-list f after s is

-- ---- turns
stage_turns : (l : List ℕ) (K Q : ℕ) (g : Stage) (x : Lists) (n : ℕ) → Holds l K Q g x n → turns_of g ≡ n
stage_turns l K Q (at_asked a) x n h = h.sound.turns
stage_turns l K Q (at_weighed d said) x n h = h.0.sound.turns
stage_turns l K Q (at_ended e xs) x n h = h.1

pub count_is_true : (l : List ℕ) (K Q : ℕ) (g : Stage) (x : Lists) (n : ℕ) → Series l K Q g x n → turns_of g ≡ n
count_is_true l K Q g x n s = stage_turns l K Q g x n (holds s)

module _ (l : List ℕ) (K Q r : ℕ) (depth : ReverseDepth (sheet_in l) r) where
  abbrev top : ℕ
  top = most (sheet_in l).latches r

  asked_few : (a : Asked) (x : Lists) (n : ℕ) → Stands l K Q (Comes l K Q) a x n → n < top
  asked_few a x n st =
      (right l K Q).fewer_before_end (one_by_one_rises (λ k. k + 1) K (λ k. refl)) r depth _ _ (comes_to l K Q a x n st)

  ended_few : (end : End) (n : ℕ) (xs : List ℕ) → Ends l K Q (Comes l K Q) end n xs → n ≤ top
  ended_few Safe n xs h = (right l K Q).few_turns (one_by_one_rises (λ k. k + 1) K (λ k. refl)) r depth _ h
  ended_few (Run last v) n xs h = (right l K Q).few_turns (one_by_one_rises (λ k. k + 1) K (λ k. refl)) r depth _ h.comes
  ended_few Undecided n xs h = (right l K Q).few_turns (one_by_one_rises (λ k. k + 1) K (λ k. refl)) r depth _ h
  ended_few Spent n xs h = (right l K Q).few_turns (one_by_one_rises (λ k. k + 1) K (λ k. refl)) r depth _ h
  ended_few (Short which) n xs h =
      omega (arith, h.3, (right l K Q).fewer_before_end (one_by_one_rises (λ k. k + 1) K (λ k. refl)) r depth h.0 h.1 h.2)

  stage_few : (g : Stage) (x : Lists) (n : ℕ) → Holds l K Q g x n → (n ≤ top) × (Going g → n < top)
  stage_few (at_asked a) x n h = let k = asked_few a x n h in (omega arith, λ _. k)
  stage_few (at_weighed d said) x n h = let k = asked_few d.asked x n h.0 in (omega arith, λ _. k)
  stage_few (at_ended e xs) x n h = (ended_few e.end n xs h.0, λ never. elim never [ ])

  pub turns_are_bounded : (g : Stage) (x : Lists) (n : ℕ) → Series l K Q g x n → (n ≤ top) × (Going g → n < top)
  turns_are_bounded g x n s = stage_few g x n (holds s)

  -- ---- limits that suffice
  pub never_undecided : r ≤ K → (e : Ended) (xs : List ℕ) (x : Lists) (n : ℕ) → Series l K Q (at_ended e xs) x n → EndedUndecided e → ⊥
  never_undecided deep e xs x n s is =
      (right l K Q).never_undecided (one_by_one_rises (λ k. k + 1) K (λ k. refl)) r depth deep n (at_end l K Q e xs x n s Undecided is)

  pub never_spent : top ≤ Q → (e : Ended) (xs : List ℕ) (x : Lists) (n : ℕ) → Series l K Q (at_ended e xs) x n → EndedSpent e → ⊥
  never_spent many e xs x n s is =
      (right l K Q).never_spent (one_by_one_rises (λ k. k + 1) K (λ k. refl)) r depth many n (at_end l K Q e xs x n s Spent is)

  pub decided : r ≤ K → top ≤ Q → (e : Ended) (xs : List ℕ) (x : Lists) (n : ℕ) → Series l K Q (at_ended e xs) x n → Decided e
  decided deep many e xs x n s =
      elim (reads_off_the_end l K Q e xs x n s).ends [
        | inl is ↦ is
        | inr is ↦ elim is [
          | inl undecided-is ↦ absurd (never_undecided deep e xs x n s undecided-is)
          | inr spent-is ↦ absurd (never_spent many e xs x n s spent-is)
        ]
      ]

-- ---- the sheet
stage_legal : (l : List ℕ) (K Q : ℕ) (g : Stage) (x : Lists) (n : ℕ) → Series l K Q g x n → Legal (counted l)
stage_legal l K Q g x n (opens f vs q a f' q' e) = (subst (OfOpened l K Q vs) e (opened_stands l K Q f vs q)).sound.legal
stage_legal l K Q g x n (fetches a x' n' question s e) = stage_legal l K Q _ _ _ s
stage_legal l K Q g x n (show_refused a x' n' answer r y s e) = stage_legal l K Q _ _ _ s
stage_legal l K Q g x n (shows a x' n' answer m y s e) = stage_legal l K Q _ _ _ s
stage_legal l K Q g x n (weigh_refused a x' n' t w r w' s e) = stage_legal l K Q _ _ _ s
stage_legal l K Q g x n (weighs a x' n' t w d w' s e) = stage_legal l K Q _ _ _ s
stage_legal l K Q g x n (takes d x' n' t m y s e) = stage_legal l K Q _ _ _ s
stage_legal l K Q g x n (sets_aside d said x' n' a s e) = stage_legal l K Q _ _ _ s
stage_legal l K Q g x n (read_off_refused e xs x' n' lent run-list f y s is) = stage_legal l K Q _ _ _ s
stage_legal l K Q g x n (reads_off e xs x' n' lent run-list rep y s is) = stage_legal l K Q _ _ _ s

pub legal_sheet : (l : List ℕ) (K Q : ℕ) (g : Stage) (x : Lists) (n : ℕ) → Series l K Q g x n → Legal (counted l)
legal_sheet = stage_legal

-- ---- the question that stands
pub standing_question : (l : List ℕ) (K Q : ℕ) (a : Asked) (x : Lists) (n : ℕ) → Series l K Q (at_asked a) x n → IsQuestion (counted (fetched a x.question))
standing_question l K Q a x n s = is_question l K Q a x n (holds s)

-- ---- a check that is not opened leaves the lists as they were
abbrev Keeps : List ℕ → List ℕ → Opened → Type 0
Keeps f q p = elim p.0 [ Ok a ↦ Unit {0} | Err e ↦ ((p.1 ≡ f) × (p.2 ≡ q)) ]

asked_keeps : (K Q : ℕ) (d : Root) (f f' q : List ℕ) (o : Option ℕ) (new : List ℕ) → Keeps f q (start_asked K Q d f f' q (o, new))
asked_keeps K Q d f f' q None new = (refl, refl)
asked_keeps K Q d f f' q (Some m) new = tt

made_keeps : (l : List ℕ) (K Q : ℕ) (f q : List ℕ) (o : Option Root) (f' : List ℕ) → Keeps f q (start_made l K Q f q (o, f'))
made_keeps l K Q f q None f' = (refl, refl)
made_keeps l K Q f q (Some d) f' =
    let p = posed_if (given l f' d.gates) (start_list (sheet_in l) (counted f') d.gates d.literal.0) q in
    asked_keeps K Q d f f' q p.0 p.1

opened_keeps : (l : List ℕ) (K Q : ℕ) (f q : List ℕ) → Keeps f q (opened l K Q f q)
opened_keeps l K Q f q =
    cond_both (well_formed (counted l)) _ _ (Keeps f q)
    (λ _.
    cond_both (leb K 30) _ _ (Keeps f q)
    (λ _. cond_both (ltb 0 Q && leb Q 4294967295) _ _ (Keeps f q) (λ _. made_keeps l K Q f q (write_start l f).0 (write_start l f).1) (λ _. (refl, refl)))
    (λ _. (refl, refl)))
    (λ _. (refl, refl))

pub unopened_keeps : (l : List ℕ) (K Q : ℕ) (f q : List ℕ) (e : Fault) (f' q' : List ℕ) → opened l K Q f q ≡ (Err e, f', q') → (f' ≡ f) × (q' ≡ q)
unopened_keeps l K Q f q e f' q' is = subst (Keeps f q) is (opened_keeps l K Q f q)
