-- The verdicts are right: what holds at each point of every series, by induction over the series. Assumes nothing.
use Rattle.std.proofs.Common.{◌≡◌, ℕ, ◌+◌, ◌<◌, ◌≤◌, true, false, eqb, List, [], ◌∷◌, length, refl, inl, inr, arith}
use Rattle.std.proofs.lemmas.Bool.{both_ways, cond_both, cases_Bool, cases_lt, or_left, or_cases}
use Rattle.sheet.specs.Sheets.{Sheet}
use Rattle.machine.specs.Runs.{State, Frame, Starts, Follows, BadIn, BadPath, BadRun, BadState, Reaches}
use Rattle.procedure.specs.Procedure.{Region, StartRegion, Check, start, path, inclusion, safe, run, undecided, spent, Point, asks, ended, Witness, Interpolant, Answer, start_yes, start_no, path_run, path_ends, path_deeper, path_no, inclusion_yes, inclusion_no, limited, Series, opens, answers, cleared_by, cleared, OneByOne}

-- a bad run, by its first state
pub run_reaches : {s : Sheet} {m : ℕ} (b : BadRun s m) → Reaches s b.first.state m
run_reaches b = record { inputs = b.first.inputs; later = b.later; meets = b.meets; steps = b.steps }

pub reaches_run : {s : Sheet} (d : State s) {m : ℕ} → Starts s d → Reaches s d m → BadRun s m
reaches_run d h w =
    record { first = record { state = d; inputs = w.inputs }; later = w.later; starts = h; meets = w.meets; steps = w.steps }

-- a bad state is reached in no steps
pub bad_reaches : {s : Sheet} (d : State s) → BadState s d → Reaches s d 0
bad_reaches d b = record { inputs = b.0; later = []; meets = record { path = tt; ends_bad = b.1 }; steps = refl }

-- from what is not bad, a bad state is some steps away
pub some_steps : {s : Sheet} (d : State s) (j : ℕ) → (BadState s d → ⊥) → Reaches s d j → 0 < j
some_steps {s} d j good w = along w.later w.meets w.steps
  where
    along : (fs : List (Frame s)) → BadPath s (record { state = d; inputs = w.inputs }) fs → length fs ≡ j → 0 < j
    along [] m e = absurd (good (w.inputs, m.ends_bad))
    along (f ∷ fs) m e = omega arith

-- from a region that holds what follows it, and nothing bad, nothing bad is reached
pub never : (s : Sheet) (R : Region s) → ((f : Frame s) (d : State s) → R f.state ≡ true → Follows s f d → R d ≡ true)
    → ((f : Frame s) → R f.state ≡ true → BadIn s f → ⊥) → (f : Frame s) (fs : List (Frame s)) → R f.state ≡ true → BadPath s f fs → ⊥
never s R closed good f [] inside m = good f inside m.ends_bad
never s R closed good f (g ∷ fs) inside m =
    never s R closed good g fs (closed f g.state inside m.path.0) (record { path = m.path.1; ends_bad = m.ends_bad })

-- each state of a region is more than k steps from a bad one
abbrev pub Farther : (s : Sheet) → Region s → ℕ → Type 0
Farther s R k = (d : State s) (j : ℕ) → R d ≡ true → Reaches s d j → k < j

-- The invariant of a check, where n steps are cleared. The region holds the start states, and no others until it has grown; it
-- has grown only since the question at this bound was answered no, and then each of its states is farther than the bound from a bad one.
pub record Standing (s : Sheet) (next : ℕ → ℕ) (c : Check s) (n : ℕ) : Type 0 where
  pub begun : (d : State s) → Starts s d → c.region d ≡ true
  pub fresh : c.grown ≡ false → (d : State s) → c.region d ≡ true → Starts s d
  pub clear : (d : State s) (j : ℕ) → Starts s d → Reaches s d j → n < j
  pub far : c.grown ≡ true → Farther s c.region c.bound
  pub tried : c.grown ≡ true → n ≡ c.bound + 1
  pub by_one : OneByOne next → c.bound ≤ n

-- what holds at a point where n steps are cleared
abbrev pub Holds : (s : Sheet) (next : ℕ → ℕ) (n : ℕ) → Point s → Type 0
Holds s next n (asks c start) = (c.bound ≡ 0) × (c.grown ≡ false) × StartRegion s c.region × (n ≡ 0)
Holds s next n (asks c path) = Standing s next c n
Holds s next n (asks c (inclusion P)) =
    Standing s next c n × Interpolant s c.region c.bound P × Farther s c.region c.bound × (n ≡ c.bound + 1)
Holds s next n (ended safe turns) = (m : ℕ) → BadRun s m → ⊥
Holds s next n (ended (run d j) turns) =
    Starts s d × Reaches s d j × (0 < j → (m : ℕ) → BadRun s m → n < m) × (OneByOne next → (m : ℕ) → BadRun s m → j ≤ m)
Holds s next n (ended undecided turns) = Unit {0}
Holds s next n (ended spent turns) = Unit {0}

-- no state of the region is bad
pub none_bad : {s : Sheet} {next : ℕ → ℕ} {n : ℕ} (c : Check s) → Standing s next c n → Farther s c.region 0
none_bad c h d j inside w =
    elim (cases_Bool c.grown) [
      | inl grown ↦ omega (arith, h.far grown d j inside w)
      | inr ungrown ↦ omega (arith, h.clear d j (h.fresh ungrown d inside) w)
    ]

-- a path question's no: from the region nothing bad is reached in k + 1 steps either
one_farther : {s : Sheet} {next : ℕ → ℕ} {n : ℕ} (c : Check s) → Standing s next c n
    → ((d : State s) (j : ℕ) → Witness s c.region c.bound d j → ⊥) → Farther s c.region (c.bound + 1)
one_farther c h none d j inside w =
    elim (cases_lt (c.bound + 1) j) [
      | inl more ↦ more
      | inr le ↦ absurd (none d j (record { inside = inside; reaches = w; some = none_bad c h d j inside w; few = le }))
    ]

module _ (s : Sheet) (initial : Region s) (next : ℕ → ℕ) (K : ℕ) (tells : StartRegion s initial) where
  holds_after : {p q : Point s} (a : Answer s initial next K p q) (n : ℕ) → Holds s next n p → Holds s next (cleared_by a n) q
  holds_after (start_yes c d inside bad) n h =
      ((h.2 d).0 inside, bad_reaches d bad, λ some m b. absurd (omega arith), λ _ m b. omega arith)
  holds_after (start_no c none) n h =
      record {
        begun = λ d e. (h.2 d).1 e;
        fresh = λ _ d e. (h.2 d).0 e;
        clear = λ d j e w. omega (arith, h.3, some_steps d j (none d ((h.2 d).1 e)) w);
        far = λ grown. absurd (both_ways c.grown h.1 grown);
        tried = λ grown. absurd (both_ways c.grown h.1 grown);
        by_one = λ _. omega (arith, h.0);
      }
  holds_after (path_run c d j w ungrown) n h = (
    h.fresh ungrown d w.inside,
    w.reaches,
    λ some m b. h.clear b.first.state m b.starts (run_reaches b),
    λ one m b. omega (arith, w.few, h.by_one one, h.clear b.first.state m b.starts (run_reaches b)),
  )
  holds_after (path_ends c d j w grown last) n h = tt
  holds_after (path_deeper c d j w grown more) n h =
      record {
        begun = λ d e. (tells d).1 e;
        fresh = λ _ d e. (tells d).0 e;
        clear = h.clear;
        far = λ f. absurd (both_ways false refl f);
        tried = λ f. absurd (both_ways false refl f);
        by_one = λ one. omega (arith, one c.bound, h.tried grown);
      }
  holds_after (path_no c P none i) n h =
      let farther : Farther s c.region (c.bound + 1) = one_farther c h none in (
        record {
          begun = h.begun;
          fresh = h.fresh;
          clear = λ d j e. farther d j (h.begun d e);
          far = h.far;
          tried = λ _. refl;
          by_one = λ _. omega arith;
        },
        i,
        λ d j inside w. omega (arith, farther d j inside w),
        refl,
      )
  holds_after (inclusion_yes c P d has out) n h =
      record {
        begun = λ d e. or_left (c.region d) (P d) (h.0.begun d e);
        fresh = λ f. absurd (both_ways true f refl);
        clear = h.0.clear;
        far = λ _ d j e w.
            elim (or_cases (c.region d) (P d) e) [ inl inside ↦ h.2 d j inside w | inr within ↦ h.1.far d j within w ];
        tried = λ _. h.3;
        by_one = h.0.by_one;
      }
  holds_after (inclusion_no c P within) n h =
      λ m b. never s c.region (λ f d e st. within d (h.1.follows f d e st))
      (λ f e bad. omega (arith, h.2 f.state 0 e (bad_reaches f.state (f.inputs, bad))))
      b.first b.later (h.0.begun b.first.state b.starts) b.meets

  holds_limited : (n Q : ℕ) (p : Point s) → Holds s next n p → Holds s next n (limited Q p)
  holds_limited n Q (asks c q) h = cond_both (eqb c.turns Q) _ _ (Holds s next n) (λ _. tt) (λ _. h)
  holds_limited n Q (ended v turns) h = h

  pub holds : {Q : ℕ} {p : Point s} (u : Series s initial next K Q p) → Holds s next (cleared u) p
  holds opens = (refl, refl, tells, refl)
  holds {Q} (answers p q u a) = holds_limited (cleared_by a (cleared u)) Q q (holds_after a (cleared u) (holds u))
