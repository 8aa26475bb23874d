-- The literals of the lines have the values of their partial interpolants. Assumes nothing.
use Rattle.std.proofs.Common.{◌≡◌, ℕ, zero, suc, ◌+◌, ◌-◌, ◌<◌, ◌≤◌, Bool, true, false, cond, ◌&&◌, ◌||◌, ltb, ◌≢◌, List, length, get_or, set, Decides, sym, refl, ap, ◌∙◌, subst, inl, inr, ⊎_elim, arith, length-set}
use Rattle.std.proofs.lemmas.List.{get_or-set_same, get_or-set_other}
use Rattle.std.proofs.lemmas.Bool.{cond_both, cond-true, cond-false, ltb-true, ltb-false, cases_lt, cases_eq, both_ways}
use Rattle.sheet.specs.Sheets.{Sheet}
use Rattle.question.specs.Questions.{clause_count, clause_of}
use Rattle.answer.specs.Derivations.{ComeBefore}
use Rattle.answer.specs.Steps.{step_count, step_of}
use Rattle.formula.specs.Conjunction.{Outcome, grown, short, conjoin, disjoin, Extends}
use Rattle.formula.specs.Formulas.{width, Formula, Gates}
use Rattle.formula.proofs.Valued.{formula_more, value_zero, value_one, extends_refl, extends_trans, Fine, conjoin_fine, disjoin_fine}
use Rattle.interpolant.specs.Drawing.{or_shared, draw_step, draw_line, Drawing, whole, broken, proceed, draw_lines}
use Rattle.interpolant.specs.Interpolation.{Cut, Shares, Partial, line_count}
use Rattle.interpolant.specs.Meaning.{latches_at, value_under}
use Rattle.interpolant.proofs.Gathering.{Latched, Gathers, shared_gathers}

-- each step names lines that come before it
abbrev pub Ordered : List ℕ → List ℕ → Type 0
Ordered q t = (i : ℕ) → i < step_count t → ComeBefore q i (step_of t i)

-- drawn into the list f₀ with n₀ gates
module _ (s : Sheet) (u : Cut) (latched : Latched s u) (q t : List ℕ) (f₀ : List ℕ) (n₀ : ℕ) where
  abbrev w : ℕ
  w = width s

  abbrev c : ℕ
  c = clause_count q

  abbrev first : ℕ → ℕ
  first k = (step_of t (k - c)).first

  abbrev second : ℕ → ℕ
  second k = (step_of t (k - c)).second

  -- whether the step of line k is on a local variable
  abbrev on_local : ℕ → Bool
  on_local k = u.local (step_of t (k - c)).pivot

  -- the values of the lines' literals
  abbrev pub vals : List ℕ → ℕ → List ℕ → (ℕ → Bool) → ℕ → Bool
  vals f n vs α k = value_under s f n α (get_or vs k 0)

  -- b is the value of the partial interpolant of line k, if p has those of the lines before it
  pub record Line (α p : ℕ → Bool) (k : ℕ) (b : Bool) : Type 0 where
    pub root : k < c → k < u.first → Decides b (Shares u α (clause_of q k))
    pub other : k < c → u.first ≤ k → b ≡ true
    pub inner : c ≤ k → b ≡ cond (on_local k) (p (first k) || p (second k)) (p (first k) && p (second k))

  -- the first k lines are as they should be
  pub record Good (k n : ℕ) (f vs : List ℕ) : Type 0 where
    pub room : line_count q t ≤ length vs
    pub extends : Extends s f₀ n₀ f n
    pub formulas : (j : ℕ) → Formula s n (get_or vs j 0)
    pub each : Ordered q t → (α : ℕ → Bool) (j : ℕ) → j < k → Line α (vals f n vs α) j (vals f n vs α j)

  -- line k, with the literal x in the new list
  record Next (k : ℕ) (vs : List ℕ) (n : ℕ) (f : List ℕ) (x n' : ℕ) (f' : List ℕ) : Type 0 where
    extends : Extends s f n f' n'
    formula : Formula s n' x
    is : (α : ℕ → Bool) → Line α (vals f n vs α) k (value_under s f' n' α x)

  abbrev Nexts : ℕ → List ℕ → ℕ → List ℕ → Outcome → Type 0
  Nexts k vs n f (grown x n' f') = Next k vs n f x n' f'
  Nexts k vs n f short = Unit {0}

  module _ (k : ℕ) (vs : List ℕ) (n : ℕ) (f : List ℕ) (gates : Gates s f n) (formulas : (j : ℕ) → Formula s n (get_or vs j 0)) where
    -- a clause of the first part
    first_line : k < c → k < u.first → (o : Outcome) → Gathers s u latched (clause_of q k) 0 n f o → Nexts k vs n f o
    first_line l m short g = tt
    first_line l m (grown x n' f') g =
        record {
          extends = g.extends;
          formula = g.formula;
          is = λ α.
              let d = g.is α in
              record {
                root = λ _ _. (λ e. ⊎_elim (λ h. absurd (both_ways (value_under s f n α 0) (value_zero s f n (latches_at s α)) h)) (λ h. h) (d.0 e), λ h. d.1 (inr h));
                other = λ _ h. absurd (omega arith);
                inner = λ h. absurd (omega arith);
              };
        }

    -- any other clause of the question
    second_line : k < c → u.first ≤ k → Next k vs n f 1 n f
    second_line l m =
        record {
          extends = extends_refl s f n gates;
          formula = inl refl;
          is = λ α. record {
            root = λ _ h. absurd (omega arith);
            other = λ _ _. value_one s f n (latches_at s α);
            inner = λ h. absurd (omega arith);
          };
        }

    -- a step
    module _ (l : c ≤ k) where
      disjoined : on_local k ≡ true → (o : Outcome) → Fine s ◌||◌ f n (get_or vs (first k) 0) (get_or vs (second k) 0) o → Nexts k vs n f o
      disjoined h short j = tt
      disjoined h (grown x n' f') j =
          record {
            extends = j.extends;
            formula = j.formula;
            is = λ α. record {
              root = λ m _. absurd (omega arith);
              other = λ m _. absurd (omega arith);
              inner = λ _. j.value (latches_at s α) ∙ sym (cond-true _ _ _ h);
            };
          }

      conjoined : on_local k ≡ false → (o : Outcome) → Fine s ◌&&◌ f n (get_or vs (first k) 0) (get_or vs (second k) 0) o → Nexts k vs n f o
      conjoined h short j = tt
      conjoined h (grown x n' f') j =
          record {
            extends = j.extends;
            formula = j.formula;
            is = λ α. record {
              root = λ m _. absurd (omega arith);
              other = λ m _. absurd (omega arith);
              inner = λ _. j.value (latches_at s α) ∙ sym (cond-false _ _ _ h);
            };
          }

      step_next : Nexts k vs n f (draw_step w u vs (step_of t (k - c)) n f)
      step_next =
          cond_both (on_local k) _ _ (Nexts k vs n f)
          (λ h. disjoined h (disjoin w n f (get_or vs (first k) 0) (get_or vs (second k) 0)) (disjoin_fine s f n (get_or vs (first k) 0) (get_or vs (second k) 0) gates (formulas (first k)) (formulas (second k))))
          (λ h. conjoined h (conjoin w n f (get_or vs (first k) 0) (get_or vs (second k) 0)) (conjoin_fine s f n (get_or vs (first k) 0) (get_or vs (second k) 0) gates (formulas (first k)) (formulas (second k))))

    line_next : Nexts k vs n f (draw_line w u q t vs k n f)
    line_next =
        cond_both (ltb k c) _ _ (Nexts k vs n f)
        (λ h.
        let m : k < c = ltb-true k c h in
        cond_both (ltb k u.first) _ _ (Nexts k vs n f)
        (λ i. first_line m (ltb-true k u.first i) (or_shared w u (clause_of q k) 0 n f) (shared_gathers s u latched (clause_of q k) 0 n f gates (inl refl)))
        (λ i. second_line m (ltb-false k u.first i)))
        (λ h. step_next (ltb-false k c h))

  -- line k takes its place
  module _ (k : ℕ) (vs : List ℕ) (n : ℕ) (f : List ℕ) (x n' : ℕ) (f' : List ℕ) (l : k < line_count q t) (g : Good k n f vs) (m : Next k vs n f x n' f') where
    at_others : (j : ℕ) → j ≢ k → get_or (set vs k x) j 0 ≡ get_or vs j 0
    at_others j ne = get_or-set_other vs k j x 0 ne

    at_k : get_or (set vs k x) k 0 ≡ x
    at_k = get_or-set_same vs k x 0 (omega (arith, g.room))

    vals_same : (α : ℕ → Bool) (j : ℕ) → j < k → vals f' n' (set vs k x) α j ≡ vals f n vs α j
    vals_same α j h =
        let ne : j ≢ k = λ e. omega arith in
        ap (value_under s f' n' α) (at_others j ne) ∙ m.extends.kept (latches_at s α) (get_or vs j 0) (g.formulas j)

    -- a line up to k says the same of the new values
    line_moved : Ordered q t → (α : ℕ → Bool) (j : ℕ) → j ≤ k → (b b' : Bool) → b' ≡ b → Line α (vals f n vs α) j b → Line α (vals f' n' (set vs k x) α) j b'
    line_moved ordered α j h b b' e i =
        record {
          root = λ p r. subst (λ v. Decides v (Shares u α (clause_of q j))) (sym e) (i.root p r);
          other = λ p r. e ∙ i.other p r;
          inner = λ p.
              let before = ordered (j - c) (omega arith) in
              let old : ℕ → Bool = vals f n vs α in
              let new : ℕ → Bool = vals f' n' (set vs k x) α in
              let one : new (first j) ≡ old (first j) = vals_same α (first j) (omega (arith, before.0)) in
              let two : new (second j) ≡ old (second j) = vals_same α (second j) (omega (arith, before.1)) in
              e ∙ i.inner p ∙ sym (λ d. cond (on_local j) (one d || two d) (one d && two d));
        }

    good_more : Good (k + 1) n' f' (set vs k x)
    good_more =
        record {
          room = omega (arith, g.room, length-set vs k x);
          extends = extends_trans s f₀ f f' n₀ n n' g.extends m.extends;
          formulas = λ j. ⊎_elim
              (λ (e : j ≡ k). subst (λ (i : ℕ). Formula s n' (get_or (set vs k x) i 0)) (sym e) (subst (λ (y : ℕ). Formula s n' y) (sym at_k) m.formula))
              (λ (ne : j ≡ k → ⊥). subst (λ (y : ℕ). Formula s n' y) (sym (at_others j ne)) (formula_more s n n' (get_or vs j 0) m.extends.more (g.formulas j)))
              (cases_eq j k);
          each = λ ordered α j h. ⊎_elim
              (λ (b : j < k). line_moved ordered α j (omega arith) _ _ (vals_same α j b) (g.each ordered α j b))
              (λ (b : k ≤ j).
              let e : k ≡ j = omega arith in
              subst (λ (i : ℕ). Line α (vals f' n' (set vs k x) α) i (vals f' n' (set vs k x) α i)) e
              (line_moved ordered α k (omega arith) _ _ (ap (value_under s f' n' α) at_k) (m.is α)))
              (cases_lt j k);
        }

  -- after k lines
  abbrev pub Ends : ℕ → Drawing → Type 0
  Ends k (whole n f vs) = Good k n f vs
  Ends k broken = Unit {0}

  abbrev Rest : ℕ → Type 0
  Rest m = (k : ℕ) (vs : List ℕ) (n : ℕ) (f : List ℕ) → k + m ≤ line_count q t → Good k n f vs → Ends (k + m) (draw_lines w u q t m k vs n f)

  good_next : (m : ℕ) → Rest m → (k : ℕ) (vs : List ℕ) (n : ℕ) (f : List ℕ) → k + suc m ≤ line_count q t → Good k n f vs
      → (o : Outcome) → Nexts k vs n f o → Ends (k + suc m) (proceed o (λ x n f. draw_lines w u q t m (k + 1) (set vs k x) n f))
  good_next m rest k vs n f l g short h = tt
  good_next m rest k vs n f l g (grown x n' f') h =
      let e : k + 1 + m ≡ k + suc m = omega arith in
      subst (λ (i : ℕ). Ends i (draw_lines w u q t m (k + 1) (set vs k x) n' f')) e
      (rest (k + 1) (set vs k x) n' f' (omega arith) (good_more k vs n f x n' f' (omega arith) g h))

  good_lines : (m : ℕ) → Rest m
  good_lines zero k vs n f l g = let e : k ≡ k + 0 = omega arith in subst (λ (i : ℕ). Good i n f vs) e g
  good_lines (suc m) k vs n f l g =
      good_next m (good_lines m) k vs n f l g (draw_line w u q t vs k n f) (line_next k vs n f g.extends.gates g.formulas)

  -- all lines, into values that are 0
  pub good_all : (vs : List ℕ) → ((j : ℕ) → get_or vs j 0 ≡ 0) → line_count q t ≤ length vs → Gates s f₀ n₀ → Ends (line_count q t) (draw_lines w u q t (line_count q t) 0 vs n₀ f₀)
  good_all vs zeros room gates =
      let e : 0 + line_count q t ≡ line_count q t = omega arith in
      subst (λ (i : ℕ). Ends i (draw_lines w u q t (line_count q t) 0 vs n₀ f₀)) e
      (good_lines (line_count q t) 0 vs n₀ f₀ (omega arith)
      (record {
        room = room;
        extends = extends_refl s f₀ n₀ gates;
        formulas = λ j. subst (λ (y : ℕ). Formula s n₀ y) (sym (zeros j)) (inl refl);
        each = λ _ α j h. absurd (omega arith);
      }))

  pub partial : (n : ℕ) (f vs : List ℕ) → Good (line_count q t) n f vs → Ordered q t → (α : ℕ → Bool) → Partial q t u α (line_count q t) (vals f n vs α)
  partial n f vs g ordered α =
      let p : ℕ → Bool = vals f n vs α in
      let by : (i : ℕ) → c + i < line_count q t → p (c + i) ≡ cond (u.local (step_of t i).pivot) (p (step_of t i).first || p (step_of t i).second) (p (step_of t i).first && p (step_of t i).second) =
      λ i l. let e : c + i - c ≡ i = omega arith in
      (g.each ordered α (c + i) l).inner (omega arith)
      ∙ ap (λ (j : ℕ). cond (u.local (step_of t j).pivot) (p (step_of t j).first || p (step_of t j).second) (p (step_of t j).first && p (step_of t j).second)) e in
      record {
        first = λ k l. (g.each ordered α k l).root;
        second = λ k l. (g.each ordered α k l).other;
        disjoined = λ i l h. by i l ∙ cond-true _ _ _ h;
        conjoined = λ i l h. by i l ∙ cond-false _ _ _ h;
      }

-- the same of other values that are equal up to the last line
pub partial_same : (q t : List ℕ) (u : Cut) (α p p' : ℕ → Bool) → Ordered q t → ((k : ℕ) → k < line_count q t → p' k ≡ p k)
    → Partial q t u α (line_count q t) p → Partial q t u α (line_count q t) p'
partial_same q t u α p p' ordered same is =
    record {
      first = λ k l a b. subst (λ v. Decides v (Shares u α (clause_of q k))) (sym (same k l)) (is.first k l a b);
      second = λ k l a b. same k l ∙ is.second k l a b;
      disjoined = λ i l h.
          let before = ordered i (omega arith) in
          let one = same (step_of t i).first (omega (arith, before.0)) in
          let two = same (step_of t i).second (omega (arith, before.1)) in
          same (clause_count q + i) l ∙ is.disjoined i l h ∙ sym (λ d. one d || two d);
      conjoined = λ i l h.
          let before = ordered i (omega arith) in
          let one = same (step_of t i).first (omega (arith, before.0)) in
          let two = same (step_of t i).second (omega (arith, before.1)) in
          same (clause_count q + i) l ∙ is.conjoined i l h ∙ sym (λ d. one d && two d);
    }
