-- The turns of the machine. Assumes nothing.
use Rattle.std.proofs.Common.{◌≡◌, ℕ, zero, suc, ◌+◌, ◌-◌, ◌*◌, ◌<◌, ◌≤◌, true, false, cond, eqb, List, [], ◌∷◌, ◌++◌, length, get_or, take, set, Some, None, Option, sym, refl, ap, ◌∙◌, subst, ⊎_elim, arith}
use Rattle.std.proofs.lemmas.List.{get_or-set_same, get_or-set_other}
use Rattle.std.proofs.lemmas.Bool.{cond-true, cond-false, cases_eq}
use Rattle.answer.specs.declared.steps.Step.{Step}
use Rattle.producer.specs.declared.split.State.{State}
use Rattle.std.specs.declared.ops.ControlFlow.TheVariants.{Continue, Break}
use Rattle.producer.specs.declared.interface.Reply.TheVariants.{Assignment, TooLong}
use Rattle.question.specs.Questions.{clause_count, clause_of}
use Rattle.answer.specs.Joint.{joint}
use Rattle.producer.specs.Procedure.{mentions, lowest, lowest_at, End, Found, Closed, Long, fits, resolved, after_zero, closing, split, put}
use Rattle.producer.specs.Machine.{Frame, Zero, One, values, resume, mark, Row, Held, Holds, Agree, Turned, Unset, Joined, Going, Stood, cost, owed, ahead, Moved}
use Rattle.producer.proofs.Stacks.{row_low, holds_agree, agree_from, agree_unset, numbers_are, length_values, taken, mark_none, mark_some, mark_joint, cost_some, owed_same, owed_zero, owed_one, owed_more, cost_next}

module _ (q : List ℕ) (n : ℕ) where
  split_closed : (m : ℕ) (a : List ℕ) (ss : List Step) (k : ℕ) → lowest_at q a m ≡ Some k → split q n m a ss ≡ Closed k (clause_of q k) ss
  split_closed zero a ss k e = ap (closing q ss _) e
  split_closed (suc m) a ss k e = ap (closing q ss _) e

  split_found : (m : ℕ) (a : List ℕ) (ss : List Step) → m ≡ 0 → lowest_at q a m ≡ None → split q n m a ss ≡ Found a
  split_found zero a ss z e = ap (closing q ss _) e
  split_found (suc m) a ss z e = absurd (omega arith)

  split_open : (m : ℕ) (a : List ℕ) (ss : List Step) → lowest_at q a (suc m) ≡ None → split q n (suc m) a ss ≡ after_zero (clause_count q) n (length a) (λ ts. split q n m (a ++ 1 ∷ []) ts) (split q n m (a ++ 0 ∷ []) ss)
  split_open m a ss e = ap (closing q ss _) e

  module _ (v : ℕ) where
    resume_found : (fs : List Frame) (a : List ℕ) → resume q n v fs (Found a) ≡ Found a
    resume_found [] a = refl
    resume_found (Zero ∷ fs) a = resume_found fs a
    resume_found (One k c ∷ fs) a = resume_found fs a

    resume_long : (fs : List Frame) → resume q n v fs Long ≡ Long
    resume_long [] = refl
    resume_long (Zero ∷ fs) = resume_long fs
    resume_long (One k c ∷ fs) = resume_long fs

    resume_lacks : (f : Frame) (fs : List Frame) (k : ℕ) (c : List ℕ) (ss : List Step) → mentions (length (values fs)) c ≡ false → resume q n v (f ∷ fs) (Closed k c ss) ≡ resume q n v fs (Closed k c ss)
    resume_lacks Zero fs k c ss e = ap (resume q n v fs) (cond-false _ _ _ e)
    resume_lacks (One l d) fs k c ss e = ap (resume q n v fs) (cond-false _ _ _ e)

    resume_retry : (fs : List Frame) (k : ℕ) (c : List ℕ) (ss : List Step) → mentions (length (values fs)) c ≡ true → resume q n v (Zero ∷ fs) (Closed k c ss) ≡ resume q n v (One k c ∷ fs) (split q n (v - suc (length fs)) (values fs ++ 1 ∷ []) ss)
    resume_retry fs k c ss e = ap (resume q n v fs) (cond-true _ _ _ e)

    resume_step : (fs : List Frame) (l : ℕ) (d : List ℕ) (k : ℕ) (c : List ℕ) (ss : List Step) → mentions (length (values fs)) c ≡ true → resume q n v (One l d ∷ fs) (Closed k c ss) ≡ resume q n v fs (resolved (clause_count q) n (length (values fs)) l d k c ss)
    resume_step fs l d k c ss e = ap (resume q n v fs) (cond-true _ _ _ e)

-- the turns from a branch to go into
module _ (q : List ℕ) (n v : ℕ) (w a : List ℕ) (s : State) (all : End) (none : s.line ≡ None) (under : s.depth ≤ v) (long : v ≤ length w) (st : Stood q n v w a s all) where
  abbrev fs : List Frame
  fs = st.stack

  go : resume q n v fs (split q n (v - length fs) (values fs) st.made) ≡ all
  go = subst (Going q n v w fs st.made all) none st.going

  set_so_far : take s.depth w ≡ values fs
  set_so_far = ap (λ d. take d w) st.depth_is ∙ taken v w fs (omega (arith, st.depth_is)) st.holds

  lowest_is : (o : Option ℕ) → o ≡ lowest q (take v w) s.depth (clause_count q) 0 → lowest_at q (values fs) (v - length fs) ≡ o
  lowest_is o e =
      let is : s.depth ≡ length fs = st.depth_is in
      let numbers = numbers_are v w fs (omega arith) long st.holds (λ i l. st.unset i (omega arith)) in
      ap (λ u. lowest q u (length (values fs)) (clause_count q) 0) (sym numbers)
      ∙ ap (λ d. lowest q (take v w) d (clause_count q) 0) (length_values fs ∙ sym is)
      ∙ sym e

  pub move_closed : (x : List ℕ) (k : ℕ) → s.steps ≤ 16777216 → Some k ≡ lowest q (take v w) s.depth (clause_count q) 0 → Row v x ((v + 2) * v) (clause_of q k) → ((i : ℕ) → i < (v + 2) * v → get_or x i 0 ≡ get_or w i 0) → Moved q n v w x a s all (Continue (record { depth = s.depth; steps = s.steps; line = Some k }))
  move_closed x k short e row kept =
      let d : ℕ = s.depth in
      let g : Agree v d w x = agree_from v d w x under kept in
      let o : owed v x d ≡ owed v w d = owed_same v w x d g.values_same in
      let p = cost_some (v - d) in
      let h : ahead v d s.line ≡ cost (v - d) = ap (ahead v d) none in (
        record {
          stack = fs;
          made = st.made;
          depth_is = st.depth_is;
          steps_are = st.steps_are;
          lies = st.lies;
          holds = holds_agree v w x d fs (omega (arith, st.depth_is)) g st.holds;
          unset = λ i l m. kept i (omega (arith, row_low v v)) ∙ st.unset i l m;
          going = (clause_of q k, row, ap (resume q n v fs) (sym (split_closed q n (v - length fs) (values fs) st.made k (lowest_is (Some k) e))) ∙ go);
        },
        omega arith,
        under,
        short,
      )

  pub move_found : None ≡ lowest q (take v w) s.depth (clause_count q) 0 → s.depth ≡ v → Moved q n v w w a s all (Break Assignment)
  move_found e full =
      let z : v - length fs ≡ 0 = omega (arith, st.depth_is) in
      sym go ∙ ap (resume q n v fs) (split_found q n (v - length fs) (values fs) st.made z (lowest_is None e)) ∙ resume_found q n v fs (values fs)
      ∙ ap Found (sym set_so_far ∙ ap (λ d. take d w) full)

  pub move_open : None ≡ lowest q (take v w) s.depth (clause_count q) 0 → s.depth < v → s.steps ≤ 16777216 → Moved q n v w (set w s.depth 0) a s all (Continue (record { depth = s.depth + 1; steps = s.steps; line = None }))
  move_open e less short =
      let d : ℕ = s.depth in
      let x : List ℕ = set w d 0 in
      let is : d ≡ length fs = st.depth_is in
      let other : (i : ℕ) → (i ≡ d → ⊥) → get_or x i 0 ≡ get_or w i 0 = λ i ne. get_or-set_other w d i 0 0 ne in
      let g : Agree v d w x = record {
        values_same = λ i l. other i (λ (k : i ≡ d). omega arith);
        lines_same = λ i l. other (v + i) (λ (k : v + i ≡ d). omega arith);
        rows_same = λ i l m. other i (λ (k : i ≡ d). omega arith);
      } in
      let zero_at : get_or x d 0 ≡ 0 = get_or-set_same w d 0 0 (omega arith) in
      let m : v - length fs ≡ suc (v - suc (length fs)) = omega arith in
      let o : owed v x d ≡ owed v w d = owed_same v w x d g.values_same in
      let oz = owed_zero v x d zero_at in
      let cn = cost_next v d less in
      let h : ahead v d s.line ≡ cost (v - d) = ap (ahead v d) none in (
        record {
          stack = Zero ∷ fs;
          made = st.made;
          depth_is = omega arith;
          steps_are = st.steps_are;
          lies = st.lies;
          holds = (subst (λ i. get_or x i 0 ≡ 0) is zero_at, holds_agree v w x d fs (omega arith) g st.holds);
          unset = λ i l k. other i (λ (j : i ≡ d). omega arith) ∙ st.unset i (omega arith) k;
          going =
              ap (resume q n v fs)
              (sym (ap (λ k. split q n k (values fs) st.made) m
              ∙ split_open q n (v - suc (length fs)) (values fs) st.made (ap (lowest_at q (values fs)) (sym m) ∙ lowest_is None e)))
              ∙ go;
        },
        omega arith,
        omega arith,
        short,
      )

-- the turns from a line that ends a branch
module _ (q : List ℕ) (n v : ℕ) (w a : List ℕ) (s : State) (all : End) (k : ℕ) (some : s.line ≡ Some k) (under : s.depth ≤ v) (short : s.steps ≤ 16777216) (st : Stood q n v w a s all) where
  abbrev ends : Going q n v w st.stack st.made all (Some k)
  ends = subst (Going q n v w st.stack st.made all) some st.going

  module _ (d : ℕ) (next : d + 1 ≡ s.depth) where
    quiet : ahead v s.depth s.line ≡ 0
    quiet = ap (ahead v s.depth) some

    less : owed v w d < owed v w s.depth
    less = subst (λ i. owed v w d < owed v w i) next (owed_more v w d)

    module _ (x : List ℕ) (u : Unset v d w x) where
      agrees : Agree v d w x
      agrees = agree_unset v d w x (omega arith) u

      unset_below : (i : ℕ) → d ≤ i → i < v → get_or x i 0 ≡ 2
      unset_below i l m = ⊎_elim
          (λ (e : i ≡ d). ap (λ j. get_or x j 0) e ∙ u.value_is)
          (λ (ne : i ≡ d → ⊥). u.others i (omega (arith, row_low v v)) ne ∙ st.unset i (omega arith) m)
          (cases_eq i d)

      fewer : owed v x d < owed v w s.depth
      fewer = let l = less in let o = owed_same v w x d agrees.values_same in omega arith

      lacks_stood : (fs : List Frame) → d + 1 ≡ length fs → Holds v w fs → (c : List ℕ) → Row v w ((v + 2) * v) c → Row v x ((v + 2) * v) c →
          resume q n v fs (Closed k c st.made) ≡ all → get_or w ((v + 2) * v + d) 0 ≡ 0 → Stood q n v x a (record { depth = d; steps = s.steps; line = Some k }) all
      lacks_stood [] l h c row row' e z = absurd (omega arith)
      lacks_stood (f ∷ fs) l h c row row' e z =
          let is : d ≡ length fs = omega arith in
          let lacks : mentions d c ≡ false = mark_none d c (sym (row d (omega arith)) ∙ z) in
          record {
            stack = fs;
            made = st.made;
            depth_is = is;
            steps_are = st.steps_are;
            lies = st.lies;
            holds = holds_agree v w x d fs (omega arith) agrees h.1;
            unset = unset_below;
            going = (c, row', sym (resume_lacks q n v f fs k c st.made (subst (λ i. mentions i c ≡ false) (is ∙ sym (length_values fs)) lacks)) ∙ e);
          }

      pub move_lacks : ((i : ℕ) → i < v → get_or x ((v + 2) * v + i) 0 ≡ get_or w ((v + 2) * v + i) 0) → get_or w ((v + 2) * v + d) 0 ≡ 0 →
          Moved q n v w x a s all (Continue (record { depth = d; steps = s.steps; line = Some k }))
      move_lacks same z =
          let l = fewer in
          let y = quiet in (
            lacks_stood st.stack (next ∙ st.depth_is) st.holds ends.0 ends.1 (λ i b. same i b ∙ ends.1 i b) ends.2 z,
            omega arith,
            omega arith,
            short,
          )

    module _ (has : get_or w ((v + 2) * v + d) 0 ≡ 0 → ⊥) where
      mentions_it : (fs : List Frame) → d ≡ length fs → (c : List ℕ) → Row v w ((v + 2) * v) c → mentions (length (values fs)) c ≡ true
      mentions_it fs is c row = subst (λ i. mentions i c ≡ true) (is ∙ sym (length_values fs)) (mark_some d c (λ z. has (row d (omega arith) ∙ z)))

      retry_stood : (fs : List Frame) → d + 1 ≡ length fs → Holds v w fs → (c : List ℕ) → Row v w ((v + 2) * v) c → resume q n v fs (Closed k c st.made) ≡ all → get_or w d 0 ≡ 0 → (x : List ℕ) → Turned v d k w x → Stood q n v x a (record { depth = s.depth; steps = s.steps; line = None }) all
      retry_stood [] l h c row e z x t = absurd (omega arith)
      retry_stood (One j b ∷ fs) l h c row e z x t =
          let is : d ≡ length fs = omega arith in
          let one : get_or w (length fs) 0 ≡ 1 = h.0.0 in
          let o : get_or w d 0 ≡ 1 = ap (λ i. get_or w i 0) is ∙ one in
          absurd (omega arith)
      retry_stood (Zero ∷ fs) l h c row e z x t =
          let is : d ≡ length fs = omega arith in
          record {
            stack = One k c ∷ fs;
            made = st.made;
            depth_is = sym next ∙ l;
            steps_are = st.steps_are;
            lies = st.lies;
            holds = (
              subst (λ i. Held v x i (One k c)) is (t.value_is, t.line_is, λ i b. t.row_is i b ∙ row i b),
              holds_agree v w x d fs (omega arith) t.below h.1,
            );
            unset = λ i l m. t.above i (omega arith) m ∙ st.unset i l m;
            going = sym (resume_retry q n v fs k c st.made (mentions_it fs is c row)) ∙ e;
          }

      pub move_retry : get_or w d 0 ≡ 0 → (x : List ℕ) → Turned v d k w x → Moved q n v w x a s all (Continue (record { depth = s.depth; steps = s.steps; line = None }))
      move_retry z x t =
          let y = quiet in
          let o : owed v x d ≡ owed v w d = owed_same v w x d t.below.values_same in
          let one : owed v x s.depth ≡ owed v x d + 1 = subst (λ i. owed v x i ≡ owed v x d + 1) next (owed_one v x d (λ (p : get_or x d 0 ≡ 0). let r = t.value_is in omega arith)) in
          let two : owed v w s.depth ≡ owed v w d + (cost (v - s.depth) + 2) = subst (λ i. owed v w i ≡ owed v w d + (cost (v - i) + 2)) next (owed_zero v w d z) in
          (retry_stood st.stack (next ∙ st.depth_is) st.holds ends.0 ends.1 ends.2 z x t, omega arith, under, short)

      module _ (set-one : get_or w d 0 ≡ 0 → ⊥) where
        over_long : (fs : List Frame) → d + 1 ≡ length fs → Holds v w fs → (c : List ℕ) → Row v w ((v + 2) * v) c → resume q n v fs (Closed k c st.made) ≡ all → fits n s.steps ≡ false → all ≡ Long
        over_long [] l h c row e f = absurd (omega arith)
        over_long (Zero ∷ fs) l h c row e f =
            let is : length fs ≡ d = omega arith in
            absurd (set-one (ap (λ i. get_or w i 0) (sym is) ∙ h.0))
        over_long (One j b ∷ fs) l h c row e f =
            let is : d ≡ length fs = omega arith in
            sym (sym (resume_long q n v fs) ∙ ap (resume q n v fs) (sym (cond-false _ _ _ (ap (fits n) (sym st.steps_are) ∙ f))) ∙ sym (resume_step q n v fs j b k c st.made (mentions_it fs is c row)) ∙ e)

        pub move_long : fits n s.steps ≡ false → Moved q n v w w a s all (Break TooLong)
        move_long f = over_long st.stack (next ∙ st.depth_is) st.holds ends.0 ends.1 ends.2 f

        module _ (f : fits n s.steps ≡ true) (x : List ℕ) (u : Unset v d w x) (joined : Joined v d w x)
            (b : List ℕ) (is-put : b ≡ put a s.steps (record { first = get_or w (v + d) 0; second = k; pivot = d })) where
          step_stood : (fs : List Frame) → d + 1 ≡ length fs → Holds v w fs → (c : List ℕ) → Row v w ((v + 2) * v) c → resume q n v fs (Closed k c st.made) ≡ all → Stood q n v x b (record { depth = d; steps = s.steps + 1; line = Some (clause_count q + s.steps) }) all
          step_stood [] l h c row e = absurd (omega arith)
          step_stood (Zero ∷ fs) l h c row e =
              let is : length fs ≡ d = omega arith in
              absurd (set-one (ap (λ i. get_or w i 0) (sym is) ∙ h.0))
          step_stood (One j g ∷ fs) l h c row e =
              let is : d ≡ length fs = omega arith in
              let at : length (values fs) ≡ d = length_values fs ∙ sym is in
              let first_is : get_or w (v + d) 0 ≡ j = ap (λ i. get_or w (v + i) 0) is ∙ h.0.1 in
              let pending : Row v w ((d + 2) * v) g = subst (λ i. Row v w ((i + 2) * v) g) (sym is) h.0.2 in
              let t : Step = record { first = j; second = k; pivot = length (values fs) } in
              let count : s.steps ≡ length st.made = st.steps_are in
              let fit : fits n (length st.made) ≡ true = ap (fits n) (sym count) ∙ f in
              record {
                stack = fs;
                made = t ∷ st.made;
                depth_is = is;
                steps_are = omega arith;
                lies = is-put ∙ ap (λ i. put a s.steps (record { first = i; second = k; pivot = d })) first_is
                    ∙ ap (λ i. put a s.steps (record { first = j; second = k; pivot = i })) (sym at)
                    ∙ ap (λ i. put a i t) count ∙ ap (λ u. put u (length st.made) t) st.lies;
                holds = holds_agree v w x d fs (omega arith) (agrees x u) h.1;
                unset = unset_below x u;
                going = (
                  joint g c d,
                  λ i m. joined i m ∙ ap (λ u. cond (eqb i d) 0 (cond (eqb u 0) (get_or w ((v + 2) * v + i) 0) 1)) (pending i m)
                      ∙ ap (λ u. cond (eqb i d) 0 (cond (eqb (mark i g) 0) u 1)) (row i m) ∙ mark_joint g c d i,
                  ap (λ u. resume q n v fs (Closed (clause_count q + u) (joint g c d) (t ∷ st.made))) count
                      ∙ ap (λ u. resume q n v fs (Closed (clause_count q + length st.made) (joint g c u) (t ∷ st.made))) (sym at)
                      ∙ ap (resume q n v fs) (sym (cond-true _ _ _ fit))
                      ∙ sym (resume_step q n v fs j g k c st.made (mentions_it fs is c row)) ∙ e,
                );
              }

          pub move_step : s.steps + 1 ≤ 16777216 → Moved q n v w x b s all (Continue (record { depth = d; steps = s.steps + 1; line = Some (clause_count q + s.steps) }))
          move_step more =
              let y = quiet in
              let l = fewer x u in
              (step_stood st.stack (next ∙ st.depth_is) st.holds ends.0 ends.1 ends.2, omega arith, omega arith, more)
