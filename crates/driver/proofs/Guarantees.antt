-- The guarantee, put together. Assumes nothing.
use Rattle.std.proofs.Common.{◌≡◌, ℕ, Bool, List, Ok, Err, Result, sym, refl, ◌∙◌, subst}
use Rattle.sheet.specs.declared.fault.Fault.{Fault}
use Rattle.machine.proofs.Depths.{has_reverse_depth}
use Rattle.producer.specs.Replying.{Replies}
use Rattle.producer.proofs.Upholding.{splitting_upheld}
use Rattle.checker.specs.declared.Asked.{Asked}
use Rattle.checker.specs.declared.Ended.{Ended}
use Rattle.checker.specs.declared.Refused.{Refused}
use Rattle.checker.specs.Lists.{Lists, lists}
use Rattle.checker.specs.Opening.{Opened, opened}
use Rattle.checker.specs.Points.{sheet_in}
use Rattle.checker.specs.Series.{at_asked, Series, opens}
use Rattle.checker.proofs.Guaranteeing.{legal_sheet, goes_on, safe_means_no_bad_run, run_is_a_shortest_bad_run, reads_off_the_end, count_is_true, turns_are_bounded, never_undecided, never_spent, decided, unopened_keeps}
use Rattle.checker.proofs.Happening.{happens}
use Rattle.checker.proofs.Reopening.{goes_back}
use Rattle.driver.specs.Driving.{Marked, Driven}
use Rattle.driver.specs.declared.drive.Stopped.TheVariants.{Unopened}
use Rattle.driver.specs.Guarantee.{DriveIsOne, RunIsOne, unopened, driven, stopped_at, Guarantee}
use Rattle.driver.proofs.Leads.{on_series, honest_end, too_long_said}

module _ {S : Type 0} (R : Replies S) (honest : Bool) (l : List ℕ) (K Q : ℕ) where
  -- whatever the call at hand came to
  pub guarantee : (This : Type 0) → This → Guarantee R honest l K Q This
  guarantee This this =
      record {
        the_sheet_is_the_one_read = λ g x n s. (legal_sheet l K Q g x n s, refl);
        every_call_goes_on = goes_on l K Q;
        safe_means_no_bad_run = safe_means_no_bad_run l K Q;
        run_is_a_shortest_bad_run = run_is_a_shortest_bad_run l K Q;
        read_off_says_the_end = reads_off_the_end l K Q;
        a_raised_bound_begins_as_opened = goes_back l K Q;
        the_count_is_true = count_is_true l K Q;
        turns_are_bounded = turns_are_bounded l K Q;
        steps_suffice = never_undecided l K Q;
        turns_suffice = never_spent l K Q;
        a_depth_exists = has_reverse_depth (sheet_in l);
        this_run_is_one = this;
        honest_producers_decide = λ is r depth deep many a x n s b w st o x' b' w' st' d.
            honest_end R honest l K Q is (decided l K Q r depth deep many) n s d;
        unanswered_only_if_too_long = too_long_said R honest l K Q;
        it_happens = (happens, splitting_upheld);
      }

  pub drive_is_one : (a : Asked) (x : Lists) (b w : List ℕ) (s : S) (o : Result Ended Refused) (x' : Lists) (b' w' : List ℕ) (s' : S)
      → Driven (Marked R honest) l a x b w s o x' b' w' s' → (n : ℕ) → Series l K Q (at_asked a) x n
      → DriveIsOne (Marked R honest) l K Q a x b w s o x' b' w' s'
  drive_is_one a x b w s o x' b' w' s' d n series = record { driven = d; on_series = on_series (Marked R honest) l K Q n series d }

  -- ---- a run, from what its calls ensure
  pub run_unopened : (f vs q b w : List ℕ) (s : S) (e : Fault) (f' q' : List ℕ) → ◌≡◌ {A = Opened} (Err e, f', q') (opened l K Q f q)
      → RunIsOne (Marked R honest) l K Q (lists f vs q) b w s (Err (Unopened e)) (lists f' vs q') b w s
  run_unopened f vs q b w s e f' q' is =
      let kept = unopened_keeps l K Q f q e f' q' (sym is) in
      let first : f ≡ f' = sym kept.0 in
      let second : q ≡ q' = sym kept.1 in
      subst (λ (x : Lists). RunIsOne (Marked R honest) l K Q (lists f vs q) b w s (Err (Unopened e)) x b w s) (λ i. lists (first i) vs (second i))
      (unopened e (sym is ∙ (λ i. (Err e, kept.0 i, kept.1 i))))

  pub run_driven : (f vs q b w : List ℕ) (s : S) (a : Asked) (f' q' : List ℕ) → ◌≡◌ {A = Opened} (Ok a, f', q') (opened l K Q f q)
      → (o : Result Ended Refused) (x' : Lists) (b' w' : List ℕ) (s' : S) → Driven (Marked R honest) l a (lists f' vs q') b w s o x' b' w' s'
      → RunIsOne (Marked R honest) l K Q (lists f vs q) b w s (stopped_at o) x' b' w' s'
  run_driven f vs q b w s a f' q' is o x' b' w' s' d =
      driven a f' q' o x' b' w' s' (sym is) d (on_series (Marked R honest) l K Q 0 (opens f vs q a f' q' (sym is)) d)
