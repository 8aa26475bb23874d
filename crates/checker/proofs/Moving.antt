-- Each answer that is accepted takes the check to a point of the procedure. Assumes nothing.
use Rattle.std.proofs.Common.{◌≡◌, ℕ, ◌+◌, ◌-◌, ◌*◌, ◌/◌, ◌^◌, ◌<◌, ◌≤◌, min, Bool, true, false, ◌||◌, eqb, leb, List, length, Some, Ok, Err, Result, sym, refl, ◌∙◌, subst, ⊎_elim, arith}
use Rattle.std.proofs.lemmas.Bool.{cond-true, cond-false, cond_both, cases_Bool, leb-true, leb-false, eqb-true, eqb-false, eq-eqb, ne_eqb}
use Rattle.lists.specs.Counted.{counted}
use Rattle.sheet.specs.declared.literal.Literal.{Literal}
use Rattle.sheet.specs.Sheets.{Sheet}
use Rattle.signal.specs.Truth.{bits_of}
use Rattle.machine.specs.Bits.{bit}
use Rattle.machine.specs.Runs.{State, Starts, BadState, BadIn, Reaches}
use Rattle.procedure.specs.Procedure.{Region as Set, Check, Question, start, path, inclusion, Verdict, safe, run, undecided, spent, Point, asks, ended, Witness, Interpolant, Answer as Step, start_yes, start_no, path_run, path_ends, path_deeper, path_no, inclusion_yes, inclusion_no, answers, cleared, limited, after, deeper, larger as wider}
use Rattle.procedure.specs.Happens.{starters}
use Rattle.procedure.proofs.Starting.{start_region}
use Rattle.procedure.proofs.Sound.{Standing, holds}
use Rattle.formula.specs.Conjunction.{Outcome, grown, short, disjoin}
use Rattle.formula.specs.Formulas.{width, value_at, Gates}
use Rattle.formula.specs.Starting.{Starts as StartsWith}
use Rattle.formula.proofs.Valued.{formula_more, gates_same, value_same, Fine, disjoin_fine}
use Rattle.question.specs.Clauses.{start_clauses, first_clauses, path_clauses, inclusion_clauses}
use Rattle.question.specs.Meaning.{In, frame_at, FrameTells, PathTells}
use Rattle.question.specs.Questions.{variable_count, Satisfiable}
use Rattle.question.proofs.Paths.{path_tells, path_asks}
use Rattle.question.proofs.States.{start_tells, start_asks, inclusion_tells, inclusion_asks}
use Rattle.question.proofs.Variables.{legal_lawful}
use Rattle.answer.specs.Assignments.{Satisfying}
use Rattle.answer.specs.Derivations.{Derives}
use Rattle.answer.specs.Steps.{step_count}
use Rattle.interpolant.specs.Drawing.{Found, interpolation}
use Rattle.interpolant.specs.Parting.{width_in}
use Rattle.formula.specs.declared.root.Root.{Root as Drawing}
use Rattle.interpolant.specs.declared.draw.Short.{Short}
use Rattle.interpolant.proofs.Meanings.{draws_formula, lies_between}
use Rattle.interpolant.proofs.Pathways.{legal_wide}
use Rattle.checker.specs.declared.Kind.{Kind}
use Rattle.checker.specs.declared.Kind.TheVariants.{Start, Path, Inclusion}
use Rattle.checker.specs.declared.Answer.TheVariants.{Assignment, Refutation}
use Rattle.checker.specs.declared.End.TheVariants.{Run, Undecided}
use Rattle.checker.specs.declared.Asked.{Asked}
use Rattle.checker.specs.Lists.{Lists, lists, restored}
use Rattle.checker.specs.Turns.{Turned, counting, unless_spent, turn_on, turned, drawn_if, grown_if, deepened, next_bound, larger}
use Rattle.checker.specs.Reports.{first_bad}
use Rattle.checker.proofs.Cutting.{used_variables, front_pairs}
use Rattle.checker.proofs.Found.{First, first_bad_lem, reaches}
use Rattle.checker.proofs.Images.{image, image_interpolates}
use Rattle.checker.proofs.Restoring.{starts_extended, starts_same, starts_set, restored_pairs}
use Rattle.checker.proofs.Posed.{OfTurn, Ready, Before, path_stands, inclusion_stands}
use Rattle.checker.specs.Points.{sheet_in}
use Rattle.checker.proofs.Standing.{Comes, Came, check_of, Poses, standing, Drawn, Asks, Stands, Ran}

or_same : {p q r t : Bool} → p ≡ q → r ≡ t → (p || r) ≡ (q || t)
or_same e h = λ i. e i || h i

module _ (l : List ℕ) (K Q : ℕ) where
  abbrev s : Sheet
  s = sheet_in l

  -- ---- the points of the procedure
  go_on : (p : Point s) (c : Check s) (q : Question s) → Comes l K Q p → Step s (starters s) (λ k. k + 1) K p (asks c q) → c.turns < Q → Came l K Q p (asks c q)
  go_on p c q u a left =
      let ne : c.turns ≡ Q → ⊥ = λ e. omega arith in
      let same : limited Q (asks c q) ≡ asks c q = cond-false (eqb c.turns Q) _ _ (ne_eqb c.turns Q ne) in
      (subst (Comes l K Q) same (answers p (asks c q) u a), (asks c q, a, sym same))

  spend : (p : Point s) (c : Check s) (q : Question s) → Comes l K Q p → Step s (starters s) (λ k. k + 1) K p (asks c q) → c.turns ≡ Q
      → Came l K Q p (ended spent c.turns)
  spend p c q u a e =
      let same : limited Q (asks c q) ≡ ended spent c.turns = cond-true (eqb c.turns Q) _ _ (eq-eqb c.turns Q e) in
      (subst (Comes l K Q) same (answers p (asks c q) u a), (asks c q, a, sym same))

  finish : (p : Point s) (v : Verdict s) (n : ℕ) → Comes l K Q p → Step s (starters s) (λ k. k + 1) K p (ended v n) → Came l K Q p (ended v n)
  finish p v n u a = (answers p (ended v n) u a, (ended v n, a, refl))

  -- ---- a question stands, and it was answered
  module _ (a : Asked) (x : Lists) (n : ℕ) (st : Stands l K Q (Comes l K Q) a x n) where
    abbrev f : List ℕ
    f = x.formula

    abbrev g : ℕ
    g = a.region.gates

    abbrev r : ℕ
    r = a.region.literal.0

    abbrev k : ℕ
    k = a.bound

    abbrev R : Set s
    R = st.region

    abbrev b : Asked
    b = counting a

    abbrev c : Check s
    c = check_of s a R n

    turns_are : b.turns ≡ n + 1
    turns_are = omega (arith, st.sound.turns, st.sound.left, st.sound.few_turns)

    pub front_gates : Gates s (counted f) g
    front_gates = gates_same s f (counted f) g (front_pairs f g st.sound.room) st.sound.gates

    front_value : (y : ℕ) (d : State s) → value_at s (counted f) g (bit d) y ≡ value_at s f g (bit d) y
    front_value y d = value_same s f (counted f) g (front_pairs f g st.sound.room) (bit d) y

    -- membership, by the question's clauses and by the set
    inside : (d : State s) → R d ≡ true → In s (counted f) g r d
    inside d h = front_value r d ∙ sym (st.is d) ∙ h

    in_set : (d : State s) → In s (counted f) g r d → R d ≡ true
    in_set d h = st.is d ∙ sym (front_value r d) ∙ h

    ready : n + 1 < Q → Ready l K Q b k a.region f (n + 1)
    ready left =
        record {
          legal = st.sound.legal;
          few_bounds = st.sound.few_bounds;
          few_turns = st.sound.few_turns;
          bound_limit = st.sound.bound_limit;
          turn_limit = st.sound.turn_limit;
          turns = turns_are;
          left = left;
          bound = st.sound.bound;
          gates = st.sound.gates;
          formula = st.sound.formula;
          starts = st.sound.starts;
          older = st.sound.older;
          fresh = st.sound.fresh;
        }

    before : (q : Question s) → Comes l K Q (asks c q) → Before l K Q (n + 1)
    before q u = (c, q, u, refl)

    -- the answers may be used up
    unless_spent_lem : (q : Question s) (xs : List ℕ) (more : Turned) → (n + 1 ≡ Q → Came l K Q (asks c q) (ended spent (n + 1)))
        → (n + 1 < Q → OfTurn l K Q (Came l K Q (asks c q)) (n + 1) xs more) → OfTurn l K Q (Came l K Q (asks c q)) (n + 1) xs (unless_spent b x more)
    unless_spent_lem q xs more end go =
        let limit = st.sound.turn_limit in
        let left = st.sound.left in
        cond_both (leb b.limits.turns b.turns) _ _ (OfTurn l K Q (Came l K Q (asks c q)) (n + 1) xs)
        (λ e. (end (omega (arith, leb-true b.limits.turns b.turns e, turns_are)), turns_are))
        (λ e. go (omega (arith, leb-false b.limits.turns b.turns e, turns_are)))

    -- ---- the start question
    start_refuted : (xs t : List ℕ) → Comes l K Q (asks c start)
        → Poses (standing a x) (width s + g) 0 (start_clauses s (counted f) g r) → (Satisfiable (standing a x) → ⊥)
        → OfTurn l K Q (Came l K Q (asks c start)) (n + 1) xs (turn_on Start Refutation l b t x)
    start_refuted xs t u poses unsat =
        let no_bad : (d : State s) → R d ≡ true → BadState s d → ⊥ =
        λ d h bad.
        let model = (start_asks (counted l) (counted f) g r st.sound.legal front_gates st.sound.formula).1 (d, inside d h, bad) in
        unsat (model.0, (poses.lays.satisfied model.0).1 model.1) in
        unless_spent_lem start xs _ (λ e. spend (asks c start) (after c) path u (start_no c no_bad) e)
        (λ left. path_stands l K Q (Came l K Q (asks c start)) (n + 1) xs (before start u) b k a.region x (ready left) R st.is
        (go_on (asks c start) (after c) path u (start_no c no_bad) left))

    start_shown : (xs t : List ℕ) → Comes l K Q (asks c start)
        → Poses (standing a x) (width s + g) 0 (start_clauses s (counted f) g r) → Satisfying (standing a x) xs
        → OfTurn l K Q (Came l K Q (asks c start)) (n + 1) xs (turn_on Start Assignment l b t x)
    start_shown xs t u poses sat =
        let α = bits_of xs in
        let told = start_tells (counted l) (counted f) g r st.sound.legal front_gates st.sound.formula α ((poses.lays.satisfied α).0 sat.clauses) in
        let d : State s = (frame_at s α 0).state in
        let in_r : R d ≡ true = in_set d told.in_r in (
          record {
            legal = st.sound.legal;
            whole = sat.whole ∙ sym (used_variables a.size x.question st.sound.some_size st.sound.few_size);
            bits = sat.bits;
            tells = λ t h. let z : 0 ≡ t = omega arith in subst (λ (i : ℕ). FrameTells s α i) z told.literals;
            starts = ((holds s (starters s) (λ k. k + 1) K (start_region s) u).2 d).0 in_r;
            follows = λ t h. absurd (omega arith);
            bad = (0, omega arith, told.is_bad);
            comes = finish (asks c start) (run d 0) (n + 1) u (start_yes c d in_r ((frame_at s α 0).inputs, told.is_bad));
          },
          turns_are,
        )

    -- ---- the path question
    abbrev PathPoses : Type 0
    PathPoses = Poses (standing a x) ((k + 2) * width s + g) (length (first_clauses s (counted f) g r k)) (path_clauses s (counted f) g r k)

    no_witness : PathPoses → (Satisfiable (standing a x) → ⊥) → (d : State s) (j : ℕ) → Witness s R k d j → ⊥
    no_witness poses unsat d j w =
        let model = (path_asks (counted l) (counted f) g r k st.sound.legal front_gates st.sound.formula).1 (d, inside d w.inside, (j, w.some, w.few, w.reaches)) in
        unsat (model.0, (poses.lays.satisfied model.0).1 model.1)

    module _ (xs t : List ℕ) (u : Comes l K Q (asks c path)) (poses : PathPoses) (unsat : Satisfiable (standing a x) → ⊥)
        (derived : ℕ → List ℕ) (der : Derives (standing a x) (counted t) derived) (some : 1 ≤ step_count (counted t)) where
      abbrev Drew : Result Drawing Short → List ℕ → List ℕ → Type 0
      Drew o f' vs' = ◌≡◌ {A = Found} (o, f', vs') (interpolation (counted l) (standing a x) (counted t) f g x.values)

      by_drawing : n + 1 < Q → (o : Result Drawing Short) (f' vs' : List ℕ) → Drew o f' vs' → OfTurn l K Q (Came l K Q (asks c path)) (n + 1) xs (drawn_if o l b (lists f' vs' x.question))
      by_drawing left (Err e) f' vs' is = (before path u, turns_are)
      by_drawing left (Ok d) f' vs' is =
          let drew = draws_formula (counted l) (standing a x) (counted t) f g x.values f' vs' (Ok d) is st.sound.legal st.sound.gates in
          let between = lies_between (counted l) (standing a x) (counted t) f g x.values f' vs' (Ok d) is (counted f) r k st.sound.legal st.sound.gates front_gates st.sound.formula poses.lays some derived der in
          let P : Set s = λ e. value_at s f' d.gates (bit e) d.literal.0 in
          let more : g ≤ d.gates = drew.extends.more in
          let interpolates : Interpolant s R k P = record {
            follows = λ h e in_r follows. between.holds_after_a_step h e (inside h.state in_r) follows;
            far = λ e j in_p reaches. between.keeps_from_bad e j in_p reaches;
          } in
          let was = ready left in
          let step = path_no c P (no_witness poses unsat) interpolates in
          inclusion_stands l K Q (Came l K Q (asks c path)) (n + 1) xs (before path u) b d (lists f' vs' x.question)
          (record {
            legal = was.legal;
            few_bounds = was.few_bounds;
            few_turns = was.few_turns;
            bound_limit = was.bound_limit;
            turn_limit = was.turn_limit;
            turns = was.turns;
            left = was.left;
            bound = was.bound;
            gates = drew.extends.gates;
            formula = formula_more s g d.gates r more was.formula;
            starts = starts_extended s f f' a.opening.gates g d.gates a.opening.literal.0 was.older drew.extends
                (formula_more s a.opening.gates g a.opening.literal.0 was.older was.starts.formula) was.starts;
            older = omega (arith, was.older);
            fresh = was.fresh;
          })
          R P (λ e. st.is e ∙ sym (drew.extends.kept (bit e) r st.sound.formula)) (λ e. refl) drew.formula
          (go_on (asks c path) (after c) (inclusion P) u step left)

      path_refuted : OfTurn l K Q (Came l K Q (asks c path)) (n + 1) xs (turn_on Path Refutation l b t x)
      path_refuted =
          let step = path_no c (image s R) (no_witness poses unsat) (image_interpolates s R k (no_witness poses unsat)) in
          let p : Found = interpolation (counted l) (standing a x) (counted t) f g x.values in
          unless_spent_lem path xs _ (λ e. spend (asks c path) (after c) (inclusion (image s R)) u step e)
          (λ left. by_drawing left p.0 p.1 p.2 refl)

    -- the frames of an assignment of the path question
    module _ (xs t : List ℕ) (u : Comes l K Q (asks c path)) (poses : PathPoses) (sat : Satisfying (standing a x) xs) where
      abbrev d : State s
      d = (frame_at s (bits_of xs) 0).state

      told : PathTells s (counted f) g r k (bits_of xs)
      told =
          path_tells (counted l) (counted f) g r k st.sound.legal front_gates st.sound.formula (bits_of xs)
          ((poses.lays.satisfied (bits_of xs)).0 sat.clauses)

      in_region : R d ≡ true
      in_region = in_set d told.in_r

      fits : s.bad / 2 < width s
      fits = (legal_lawful (counted l) st.sound.legal).bads

      ahead : (m : ℕ) → m ≤ k + 1 → BadIn s (frame_at s (bits_of xs) m) → Reaches s d m
      ahead m few bad = reaches s xs fits m (λ i h. told.follows i (omega arith)) bad

      -- some bad frame is ahead
      witness : Witness s R k d told.meets_bad.0
      witness =
          record {
            inside = in_region;
            reaches = ahead told.meets_bad.0 told.meets_bad.2 told.meets_bad.3;
            some = told.meets_bad.1;
            few = told.meets_bad.2;
          }

      -- ---- the region has not grown: a run
      module _ (ungrown : a.region.grown ≡ false) where
        standing_is : Standing s (λ k. k + 1) c (cleared u)
        standing_is = holds s (starters s) (λ k. k + 1) K (start_region s) u

        begins : Starts s d
        begins = standing_is.fresh ungrown d in_region

        first : First s xs fits 0 (k + 1) (first_bad s xs (k + 1) 0)
        first = first_bad_lem s xs fits (k + 1) (λ t h. told.literals t h) (k + 1) 0 (omega arith) told.meets_bad.0 (omega arith) told.meets_bad.2 told.meets_bad.3

        abbrev m : ℕ
        m = first_bad s xs (k + 1) 0

        reached : Reaches s d m
        reached = ahead m first.high first.bad

        ran : Ran l (Came l K Q (asks c path)) (k + 1) (variable_count (counted x.question)) (n + 1) xs
        ran =
            record {
              legal = st.sound.legal;
              whole = sat.whole ∙ sym (used_variables a.size x.question st.sound.some_size st.sound.few_size);
              bits = sat.bits;
              tells = λ t h. told.literals t h;
              starts = begins;
              follows = λ t h. told.follows t (omega arith);
              bad = (told.meets_bad.0, told.meets_bad.2, told.meets_bad.3);
              comes =
                  finish (asks c path) (run d m) (n + 1) u
                  (path_run c d m
                  (record { inside = in_region; reaches = reached; some = omega (arith, standing_is.clear d m begins reached); few = first.high })
                  ungrown);
            }

        run_found : OfTurn l K Q (Came l K Q (asks c path)) (n + 1) xs (Some (Run (min (k + 1) (2 ^ 32 - 1)) (variable_count (counted x.question))), b, x)
        run_found =
            let last : min (k + 1) (2 ^ 32 - 1) ≡ k + 1 = omega (arith, st.sound.bound, st.sound.few_bounds) in
            (subst (λ (i : ℕ). Ran l (Came l K Q (asks c path)) i (variable_count (counted x.question)) (n + 1) xs) (sym last) ran, turns_are)

      -- ---- the region has grown: the next bound, or none
      module _ (has-grown : a.region.grown ≡ true) where
        undecided_at : k ≡ K → OfTurn l K Q (Came l K Q (asks c path)) (n + 1) xs (Some Undecided, b, x)
        undecided_at e = (finish (asks c path) undecided (n + 1) u (path_ends c d _ witness has-grown e), turns_are)

        module _ (more : k ≡ K → ⊥) where
          abbrev k' : ℕ
          k' = next_bound k a.limits.bound

          next_is : k + 1 ≡ k'
          next_is = omega (arith, st.sound.bound_limit, st.sound.bound, more)

          room : 2 * a.opening.gates ≤ length (counted f)
          room = omega (arith, st.sound.older, st.sound.room)

          again : StartsWith s (restored a.opening.gates f) a.opening.gates a.opening.literal.0
          again = starts_same s f (restored a.opening.gates f) a.opening.gates a.opening.literal.0 (restored_pairs f a.opening.gates room) st.sound.starts

          step : Step s (starters s) (λ k. k + 1) K (asks c path) (asks (deeper (starters s) (k + 1) c) path)
          step = path_deeper c d _ witness has-grown more

          deeper_stands : OfTurn l K Q (Came l K Q (asks c path)) (n + 1) xs (unless_spent b x (deepened l b x))
          deeper_stands =
              unless_spent_lem path xs _ (λ e. spend (asks c path) (deeper (starters s) (k + 1) c) path u step e)
              (λ left.
              let was = ready left in
              let comes = go_on (asks c path) (deeper (starters s) (k + 1) c) path u step left in
              let at_next : Came l K Q (asks c path) (asks (record { bound = k'; region = starters s; grown = false; turns = n + 1 }) path) =
              subst (λ (i : ℕ). Came l K Q (asks c path) (asks (record { bound = i; region = starters s; grown = false; turns = n + 1 }) path)) next_is comes in
              path_stands l K Q (Came l K Q (asks c path)) (n + 1) xs (before path u) b k' a.opening (lists (restored a.opening.gates f) x.values x.question)
              (record {
                legal = was.legal;
                few_bounds = was.few_bounds;
                few_turns = was.few_turns;
                bound_limit = was.bound_limit;
                turn_limit = was.turn_limit;
                turns = was.turns;
                left = was.left;
                bound = omega (arith, next_is, st.sound.bound, more);
                gates = again.gates;
                formula = again.formula;
                starts = again;
                older = omega arith;
                fresh = was.fresh;
              })
              (starters s) (starts_set s (restored a.opening.gates f) a.opening.gates a.opening.literal.0 again)
              (subst (λ (h : Bool). Came l K Q (asks c path) (asks (record { bound = k'; region = starters s; grown = h; turns = n + 1 }) path)) (sym was.fresh) at_next))

      path_shown : OfTurn l K Q (Came l K Q (asks c path)) (n + 1) xs (turn_on Path Assignment l b t x)
      path_shown =
          cond_both a.region.grown _ _ (OfTurn l K Q (Came l K Q (asks c path)) (n + 1) xs)
          (λ has-grown.
          cond_both (eqb k a.limits.bound) _ _ (OfTurn l K Q (Came l K Q (asks c path)) (n + 1) xs)
          (λ e. undecided_at has-grown (eqb-true k a.limits.bound e ∙ st.sound.bound_limit))
          (λ e. deeper_stands has-grown (λ z. eqb-false k a.limits.bound e (z ∙ sym st.sound.bound_limit))))
          (λ ungrown. run_found ungrown)

    -- ---- the inclusion question
    module _ (p : Literal) (drawn-is : Drawn l (Comes l K Q) a x n R p)
        (poses : Poses (standing a x) (width s + g) 0 (inclusion_clauses s (counted f) g p.0 r)) where
      abbrev P : Set s
      P = drawn-is.set

      abbrev u : Comes l K Q (asks c (inclusion P))
      u = drawn-is.comes

      in_drawn : (d : State s) → P d ≡ true → In s (counted f) g p.0 d
      in_drawn d h = front_value p.0 d ∙ sym (drawn-is.is d) ∙ h

      inclusion_refuted : (xs t : List ℕ) → (Satisfiable (standing a x) → ⊥) → OfTurn l K Q (Came l K Q (asks c (inclusion P))) (n + 1) xs (turn_on (Inclusion p) Refutation l b t x)
      inclusion_refuted xs t unsat =
          let within : (d : State s) → P d ≡ true → R d ≡ true =
          λ d h. ⊎_elim
          (λ (e : R d ≡ true). e)
          (λ (e : R d ≡ false).
          let model = (inclusion_asks (counted l) (counted f) g p.0 r st.sound.legal front_gates drawn-is.formula st.sound.formula).1
          (d, in_drawn d h, front_value r d ∙ sym (st.is d) ∙ e) in
          absurd (unsat (model.0, (poses.lays.satisfied model.0).1 model.1)))
          (cases_Bool (R d)) in
          (finish (asks c (inclusion P)) safe (n + 1) u (inclusion_no c P within), turns_are)

      module _ (xs t : List ℕ) (sat : Satisfying (standing a x) xs) where
        growth : Step s (starters s) (λ k. k + 1) K (asks c (inclusion P)) (asks (wider P c) path)
        growth =
            let told = inclusion_tells (counted l) (counted f) g p.0 r st.sound.legal front_gates drawn-is.formula st.sound.formula (bits_of xs)
            ((poses.lays.satisfied (bits_of xs)).0 sat.clauses) in
            let d : State s = (frame_at s (bits_of xs) 0).state in
            inclusion_yes c P d (drawn-is.is d ∙ sym (front_value p.0 d) ∙ told.in_p) (st.is d ∙ sym (front_value r d) ∙ told.outside_r)

        by_growing : n + 1 < Q → (o : Outcome) → Fine s ◌||◌ f g r p.0 o → OfTurn l K Q (Came l K Q (asks c (inclusion P))) (n + 1) xs (grown_if o l b x)
        by_growing left short fine = (before (inclusion P) u, turns_are)
        by_growing left (grown y m f') joins =
            let was = ready left in
            let ext = joins.extends in
            path_stands l K Q (Came l K Q (asks c (inclusion P))) (n + 1) xs (before (inclusion P) u) b k (larger y m) (lists f' x.values x.question)
            (record {
              legal = was.legal;
              few_bounds = was.few_bounds;
              few_turns = was.few_turns;
              bound_limit = was.bound_limit;
              turn_limit = was.turn_limit;
              turns = was.turns;
              left = was.left;
              bound = was.bound;
              gates = ext.gates;
              formula = joins.formula;
              starts = starts_extended s f f' a.opening.gates g m a.opening.literal.0 was.older ext
                  (formula_more s a.opening.gates g a.opening.literal.0 was.older was.starts.formula) was.starts;
              older = omega (arith, was.older, ext.more);
              fresh = was.fresh;
            })
            (λ e. R e || P e) (λ e. or_same (st.is e) (drawn-is.is e) ∙ sym (joins.value (bit e)))
            (go_on (asks c (inclusion P)) (wider P c) path u growth left)

        inclusion_shown : OfTurn l K Q (Came l K Q (asks c (inclusion P))) (n + 1) xs (turn_on (Inclusion p) Assignment l b t x)
        inclusion_shown =
            let wide = legal_wide (counted l) st.sound.legal in
            unless_spent_lem (inclusion P) xs _ (λ e. spend (asks c (inclusion P)) (wider P c) path u growth e)
            (λ left. by_growing left (disjoin (width_in (counted l)) g f r p.0)
            (subst (λ (w : ℕ). Fine s ◌||◌ f g r p.0 (disjoin w g f r p.0)) (sym wide)
            (disjoin_fine s f g r p.0 st.sound.gates st.sound.formula drawn-is.formula)))

    -- ---- whichever question stands
    abbrev pub question_of : (kind : Kind) → Asks l (Comes l K Q) kind a x n R → Question s
    question_of Start h = start
    question_of Path h = path
    question_of (Inclusion p) h = inclusion h.0.set

    -- the point of the procedure at which the check stands
    abbrev pub point_of : Point s
    point_of = asks c (question_of a.kind st.asks)

    pub comes_to : Comes l K Q point_of
    comes_to = by a.kind st.asks
      where
        by : (kind : Kind) (h : Asks l (Comes l K Q) kind a x n R) → Comes l K Q (asks c (question_of kind h))
        by Start h = h.0
        by Path h = h.0
        by (Inclusion p) h = h.0.comes

    pub shown_holds : (xs t : List ℕ) → Satisfying (standing a x) xs → OfTurn l K Q (Came l K Q point_of) (n + 1) xs (turned Assignment l a t x)
    shown_holds xs t sat = by a.kind st.asks
      where
        by : (kind : Kind) (h : Asks l (Comes l K Q) kind a x n R) → OfTurn l K Q (Came l K Q (asks c (question_of kind h))) (n + 1) xs (turn_on kind Assignment l b t x)
        by Start h = start_shown xs t h.0 h.1 sat
        by Path h = path_shown xs t h.0 h.1 sat
        by (Inclusion p) h = inclusion_shown p h.0 h.1 xs t sat

    pub taken_holds : (xs t : List ℕ) → (Satisfiable (standing a x) → ⊥) → (derived : ℕ → List ℕ) → Derives (standing a x) (counted t) derived
        → 1 ≤ step_count (counted t) → OfTurn l K Q (Came l K Q point_of) (n + 1) xs (turned Refutation l a t x)
    taken_holds xs t unsat derived der some = by a.kind st.asks
      where
        by : (kind : Kind) (h : Asks l (Comes l K Q) kind a x n R) → OfTurn l K Q (Came l K Q (asks c (question_of kind h))) (n + 1) xs (turn_on kind Refutation l b t x)
        by Start h = start_refuted xs t h.0 h.1 unsat
        by Path h = path_refuted xs t h.0 h.1 unsat derived der some
        by (Inclusion p) h = inclusion_refuted p h.0 h.1 xs t unsat
