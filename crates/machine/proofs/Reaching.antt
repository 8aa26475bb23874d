-- Bad states, bad runs and what they reach. Assumes nothing.
use Rattle.std.proofs.Common.{◌≡◌, ℕ, List, [], ◌∷◌, length, refl, arith}
use Rattle.sheet.specs.Sheets.{Sheet}
use Rattle.machine.specs.Runs.{State, Frame, Starts, BadIn, last_frame, Run, BadPath, BadRun, BadState, Reaches}
use Rattle.machine.specs.Depth.{BadRuns}

module _ (s : Sheet) where
  -- a path of no steps is one frame
  stays_put : (f : Frame s) (fs : List (Frame s)) → length fs ≡ 0 → BadPath s f fs → BadIn s f
  stays_put f [] e p = p.ends_bad
  stays_put f (g ∷ gs) e p = absurd (omega arith)

  reached_at_once : (c : State s) → Reaches s c 0 → BadState s c
  reached_at_once c r = (r.inputs, stays_put _ r.later r.steps r.meets)

  bad_at_once : (c : State s) → BadState s c → Reaches s c 0
  bad_at_once c b = record { inputs = b.0; later = []; meets = record { path = tt; ends_bad = b.1 }; steps = refl }

  run_reaches : (m : ℕ) → BadRun s m → (c : State s) × Starts s c × Reaches s c m
  run_reaches m b =
      (b.first.state, b.starts, record { inputs = b.first.inputs; later = b.later; meets = b.meets; steps = b.steps })

  reached_by_run : (m : ℕ) → ((c : State s) × Starts s c × Reaches s c m) → BadRun s m
  reached_by_run m t =
      let r = t.2 in
      record { first = record { state = t.0; inputs = r.inputs }; later = r.later; starts = t.1; meets = r.meets; steps = r.steps }

  run_ends_bad : (m : ℕ) → BadRun s m → (r : Run s m) × BadIn s (last_frame r.first r.later)
  run_ends_bad m b =
      (record { first = b.first; later = b.later; starts = b.starts; path = b.meets.path; steps = b.steps }, b.meets.ends_bad)

  bad_run : (m : ℕ) → ((r : Run s m) × BadIn s (last_frame r.first r.later)) → BadRun s m
  bad_run m t =
      let r = t.0 in
      record {
        first = r.first;
        later = r.later;
        starts = r.starts;
        meets = record { path = r.path; ends_bad = t.1 };
        steps = r.steps;
      }

  pub bad_runs : BadRuns s
  bad_runs =
      record {
        bad_states_reach_at_once = λ c. (bad_at_once c, reached_at_once c);
        bad_runs_end_bad = λ m. (run_ends_bad m, bad_run m);
        bad_runs_start = λ m. (run_reaches m, reached_by_run m);
        within_the_depth = λ r m d b.
            let t = run_reaches m b in
            let near = d.within t.0 m t.2 in
            (near.0, near.1, reached_by_run near.0 (t.0, t.1, near.2));
      }
