-- What the parts of a drawing do, turn by turn. Assumes nothing.
use Rattle.std.proofs.Common.{◌≡◌, ℕ, suc, ◌+◌, ◌-◌, ◌*◌, ◌/◌, ◌^◌, ◌<◌, ◌≤◌, min, max, true, false, ◌&&◌, ltb, leb, List, [], ◌++◌, length, get_or, take, drop, set, replicate, Some, None, Ok, Err, Option, Result, sym, refl, ap, ◌∙◌, subst, arith, length-take}
use borrow.Rule.Slice.PartMut.{post_of}
use Rattle.std.proofs.lemmas.List.{append-nil, take_all, drop_all, drop_more, drop-set-lt}
use Rattle.std.proofs.lemmas.Bool.{cond-true, cond-false, cond_both, and_parts, leb-true, le-leb, lt-leb, lt-ltb, le-ltb}
use Rattle.lists.specs.Counted.{counted, uncounted}
use Rattle.lists.proofs.Taken.{take_min, drop_min}
use Rattle.sheet.specs.declared.literal.Literal.{Literal}
use Rattle.formula.specs.declared.builder.Builder.{Builder}
use Rattle.formula.specs.Built.{literal, built}
use Rattle.formula.specs.Conjunction.{Outcome, grown, short, new_gate, conjoin_by, conjoin, negated, disjoin, simple, opposite}
use Rattle.formula.specs.Starting.{onward}
use Rattle.formula.proofs.Building.{by_some, by_none}
use Rattle.interpolant.specs.declared.parts.Parts.{Parts}
use Rattle.question.specs.Questions.{clause_count, clause_of}
use Rattle.answer.specs.Steps.{step_count, step_of}
use Rattle.answer.specs.declared.steps.Step.{Step}
use Rattle.interpolant.specs.declared.draw.Short.{Short}
use Rattle.interpolant.specs.declared.draw.Short.TheVariants.{LineValues, Formula}
use Rattle.formula.specs.declared.root.Root.{Root}
use Rattle.interpolant.specs.Interpolation.{Cut, line_count}
use Rattle.interpolant.specs.Drawing.{or_shared, draw_step, draw_line, Drawing, whole, broken, proceed, draw_lines, Found, cleared, answered, draw_all, interpolation, Stays, Gives}
use Rattle.interpolant.specs.Parting.{width_in, parts_of, cut_by, cut_of, latch_in}

-- ---- zeros in the places that count
pub cleared_by : (xs zeros : List ℕ) (len : ℕ) → len ≡ min (length xs) (2 ^ 28) → zeros ≡ replicate (length (take (len - 0) xs)) 0
    → zeros ++ post_of 0 (len - 0) xs ≡ cleared xs
cleared_by xs zeros len is filled =
    let front : take (len - 0) xs ≡ counted xs = take_min xs (2 ^ 28) (len - 0) (omega arith) in
    let rest : drop (len - 0) xs ≡ uncounted xs = drop_min xs (2 ^ 28) (len - 0) (omega arith) in
    let zero_front : zeros ≡ replicate (length (counted xs)) 0 = filled ∙ ap (λ (ys : List ℕ). replicate (length ys) 0) front in
    (λ i. zero_front i ++ rest i)

-- a list that counts whole
cleared_whole : (xs : List ℕ) → length xs ≤ 2 ^ 28 → cleared xs ≡ replicate (length xs) 0
cleared_whole xs few =
    let front : counted xs ≡ xs = take_all (2 ^ 28) xs few in
    let rest : uncounted xs ≡ [] = drop_all (2 ^ 28) xs few in
    (λ i. replicate (length (front i)) 0 ++ rest i) ∙ append-nil (replicate (length xs) 0)

-- ---- what lies behind the places that count stays
pub stays_refl : (f : List ℕ) → Stays f f
stays_refl f = record { rest = refl }

pub stays_trans : (f g h : List ℕ) → Stays f g → Stays g h → Stays f h
stays_trans f g h a b = record { rest = b.rest ∙ a.rest }

abbrev Kept : List ℕ → Outcome → Type 0
Kept f (grown x n f') = Stays f f'
Kept f short = Unit {0}

gate_kept : (w n : ℕ) (f : List ℕ) (a b : ℕ) → Kept f (new_gate w n f a b)
gate_kept w n f a b =
    cond_both (leb (2 * n + 2) (length (counted f)) && ltb (w + n) (2 ^ 31)) _ _ (Kept f)
    (λ e.
    let l : 2 * n + 2 ≤ 2 ^ 28 = omega (arith, leb-true (2 * n + 2) (length (counted f)) (and_parts _ _ e).0, length-take (2 ^ 28) f) in
    record { rest = drop-set-lt (2 ^ 28) (set f (2 * n) a) (2 * n + 1) b (omega arith) ∙ drop-set-lt (2 ^ 28) f (2 * n) a (omega arith) })
    (λ e. tt)

by_kept : (w n : ℕ) (f : List ℕ) (a b : ℕ) (o : Option ℕ) → Kept f (conjoin_by w n f a b o)
by_kept w n f a b (Some x) = stays_refl f
by_kept w n f a b None = gate_kept w n f (max a b) (min a b)

negated_kept : (f : List ℕ) (o : Outcome) → Kept f o → Kept f (negated o)
negated_kept f (grown x n f') k = k
negated_kept f short k = tt

abbrev Answer : Type 0
Answer = Option Literal × Builder × List ℕ

found_kept : (g : Builder) (f : List ℕ) (o : Outcome) → Kept f o → (r : Option Literal) (g' : Builder) (f' : List ℕ)
    → ◌≡◌ {A = Answer} (r, g', f') (built g f o) → Stays f f'
found_kept g f (grown x n h) k r g' f' e = subst (Stays f) (sym (ap (λ (q : Answer). q.2) e)) k
found_kept g f short k r g' f' e = subst (Stays f) (sym (ap (λ (q : Answer). q.2) e)) (stays_refl f)

module _ (g : Builder) (f : List ℕ) (w n a b : ℕ) (r : Option Literal) (g' : Builder) (f' : List ℕ) where
  and_keeps : ◌≡◌ {A = Answer} (r, g', f') (built g f (conjoin w n f a b)) → Stays f f'
  and_keeps = found_kept g f (conjoin w n f a b) (by_kept w n f a b (simple a b)) r g' f'

  pub or_keeps : ◌≡◌ {A = Answer} (r, g', f') (built g f (disjoin w n f a b)) → Stays f f'
  or_keeps =
      found_kept g f (disjoin w n f a b)
      (negated_kept f (conjoin w n f (opposite a) (opposite b)) (by_kept w n f (opposite a) (opposite b) (simple (opposite a) (opposite b)))) r g' f'

-- ---- the shared literals of a clause
latch_some : (u : Parts) (y : ℕ) (x : Literal) → Some x ≡ latch_in u y → ((cut_by u).shared (y / 2) ≡ true) × (x.0 ≡ y - 2 * u.width)
latch_some u y x =
    cond_both ((cut_by u).shared (y / 2)) (Some (literal (y - 2 * u.width))) None (λ o. Some x ≡ o → ((cut_by u).shared (y / 2) ≡ true) × (x.0 ≡ y - 2 * u.width))
    (λ h e. (h, cc))
    (λ h e. let z : ◌≡◌ {A = ℕ} 0 1 = cc in absurd (omega arith))

latch_none : (u : Parts) (y : ℕ) → None ≡ latch_in u y → (cut_by u).shared (y / 2) ≡ false
latch_none u y =
    cond_both ((cut_by u).shared (y / 2)) (Some (literal (y - 2 * u.width))) None (λ o. None ≡ o → (cut_by u).shared (y / 2) ≡ false)
    (λ h e. let z : ◌≡◌ {A = ℕ} 0 1 = cc in absurd (omega arith))
    (λ h e. h)

module _ (u : Parts) (ys : List ℕ) (i : ℕ) where
  abbrev w : ℕ
  w = u.width

  pub or_end : (x n : ℕ) (f : List ℕ) → length ys ≤ i → or_shared w (cut_by u) (drop i ys) x n f ≡ grown x n f
  or_end x n f h = rw (drop_all i ys h)

  module _ (l : i < length ys) where
    pub or_skip : (x n : ℕ) (f : List ℕ) → None ≡ latch_in u (get_or ys i 0)
        → or_shared w (cut_by u) (drop i ys) x n f ≡ or_shared w (cut_by u) (drop (i + 1) ys) x n f
    or_skip x n f none = rw (drop_more ys i 0 l) (cond-false _ _ _ (latch_none u (get_or ys i 0) none))

    -- by what OR answers, in a builder as wide as a frame
    module _ (g : Builder) (f : List ℕ) (wide : g.width ≡ w) (x y : Literal) (latch : Some y ≡ latch_in u (get_or ys i 0)) (g' : Builder) (f' : List ℕ) where
      abbrev either : Outcome
      either = disjoin g.width g.count f x.0 y.0

      or_by : (o : Outcome) → either ≡ o
          → or_shared w (cut_by u) (drop i ys) x.0 g.count f ≡ onward o (λ x n f. or_shared w (cut_by u) (drop (i + 1) ys) x n f)
      or_by o e =
          let is = latch_some u (get_or ys i 0) y latch in
          let same : disjoin w g.count f x.0 (get_or ys i 0 - 2 * w) ≡ either = sym (λ j. disjoin (wide j) g.count f x.0 (is.1 j)) in
          rw (drop_more ys i 0 l)
          (cond-true _ _ _ is.0 ∙ ap (λ o. onward o (λ x n f. or_shared w (cut_by u) (drop (i + 1) ys) x n f)) (same ∙ e))

      pub or_more : (z : Literal) → ◌≡◌ {A = Answer} (Some z, g', f') (built g f either)
          → (g'.width ≡ w) × (or_shared w (cut_by u) (drop i ys) x.0 g.count f ≡ or_shared w (cut_by u) (drop (i + 1) ys) z.0 g'.count f')
      or_more z e = let p = by_some g f either z g' f' e in (p.1 ∙ wide, or_by (grown z.0 g'.count f') p.0)

      pub or_short : ◌≡◌ {A = Answer} (None, g', f') (built g f either) → or_shared w (cut_by u) (drop i ys) x.0 g.count f ≡ short
      or_short e = or_by short (by_none g f either g' f' e).0

-- ---- a step
-- what is drawn, by what AND or OR answers
abbrev drawn_by : Option Literal → Builder → Option Root
drawn_by (Some x) g = Some (record { literal = x; gates = g.count })
drawn_by None g = None

gives_by : (g : Builder) (f : List ℕ) (o : Outcome) (r : Option Literal) (g' : Builder) (f' : List ℕ) → ◌≡◌ {A = Answer} (r, g', f') (built g f o) → Gives (drawn_by r g') f' o
gives_by g f o (Some x) g' f' e = (by_some g f o x g' f' e).0
gives_by g f o None g' f' e = (by_none g f o g' f' e).0

module _ (u : Parts) (vs : List ℕ) (s : Step) (n : ℕ) (f : List ℕ) (a b : Literal) (is-a : a.0 ≡ get_or vs s.first 0) (is_b : b.0 ≡ get_or vs s.second 0)
    (r : Option Literal) (g' : Builder) (f' : List ℕ) where
  abbrev start : Builder
  start = record { width = u.width; count = n }

  abbrev Told : Type 0
  Told = Gives (drawn_by r g') f' (draw_step u.width (cut_by u) vs s n f) × Stays f f'

  pub local_told : (cut_by u).local s.pivot ≡ true → ◌≡◌ {A = Answer} (r, g', f') (built start f (disjoin u.width n f a.0 b.0)) → Told
  local_told h e =
      let is : draw_step u.width (cut_by u) vs s n f ≡ disjoin u.width n f a.0 b.0 =
      cond-true _ _ _ h ∙ sym (λ i. disjoin u.width n f (is-a i) (is_b i)) in (
        subst (λ (o : Outcome). Gives (drawn_by r g') f' o) (sym is) (gives_by start f (disjoin u.width n f a.0 b.0) r g' f' e),
        or_keeps start f u.width n a.0 b.0 r g' f' e,
      )

  pub other_told : (cut_by u).local s.pivot ≡ false → ◌≡◌ {A = Answer} (r, g', f') (built start f (conjoin u.width n f a.0 b.0)) → Told
  other_told h e =
      let is : draw_step u.width (cut_by u) vs s n f ≡ conjoin u.width n f a.0 b.0 =
      cond-false _ _ _ h ∙ sym (λ i. conjoin u.width n f (is-a i) (is_b i)) in (
        subst (λ (o : Outcome). Gives (drawn_by r g') f' o) (sym is) (gives_by start f (conjoin u.width n f a.0 b.0) r g' f' e),
        and_keeps start f u.width n a.0 b.0 r g' f' e,
      )

-- ---- a line, where every place of the question and of the refutation counts
module _ (u : Parts) (q t vs : List ℕ) (k n : ℕ) (f : List ℕ) (few_clauses : length q ≤ 2 ^ 28) (few-steps : length t ≤ 2 ^ 28)
    (clauses : ℕ) (told : clauses ≡ clause_count (counted q)) where
  abbrev line : Outcome
  line = draw_line u.width (cut_by u) q t vs k n f

  whole_question : counted q ≡ q
  whole_question = take_all (2 ^ 28) q few_clauses

  whole_refutation : counted t ≡ t
  whole_refutation = take_all (2 ^ 28) t few-steps

  count_is : clauses ≡ clause_count q
  count_is = told ∙ ap (λ (xs : List ℕ). clause_count xs) whole_question

  pub line_step : clauses ≤ k → (s : Step) → s ≡ step_of (counted t) (k - clauses) → line ≡ draw_step u.width (cut_by u) vs s n f
  line_step h s is =
      cond-false _ _ _ (le-ltb k (clause_count q) (omega (arith, count_is)))
      ∙ ap (λ (s : Step). draw_step u.width (cut_by u) vs s n f)
      (sym (is ∙ ap (λ (xs : List ℕ). step_of xs (k - clauses)) whole_refutation ∙ ap (λ (c : ℕ). step_of t (k - c)) count_is))

  pub line_second : k < clauses → u.first ≤ k → (x : ℕ) → x ≡ 1 → line ≡ grown x n f
  line_second h l x is =
      cond-true _ _ _ (lt-ltb k (clause_count q) (omega (arith, count_is))) ∙ cond-false _ _ _ (le-ltb k u.first l)
      ∙ ap (λ (x : ℕ). grown x n f) (sym is)

  pub line_first : k < clauses → k < u.first → (c : List ℕ) → c ≡ clause_of (counted q) k → line ≡ or_shared u.width (cut_by u) c 0 n f
  line_first h l c is =
      cond-true _ _ _ (lt-ltb k (clause_count q) (omega (arith, count_is))) ∙ cond-true _ _ _ (lt-ltb k u.first l)
      ∙ ap (λ (c : List ℕ). or_shared u.width (cut_by u) c 0 n f) (sym (is ∙ ap (λ (xs : List ℕ). clause_of xs k) whole_question))

-- ---- all lines
module _ (w : ℕ) (u : Cut) (q t : List ℕ) (m k : ℕ) (vs : List ℕ) (n : ℕ) (f : List ℕ) where
  pub lines_more : k < m → (o : Outcome) → draw_line w u q t vs k n f ≡ o
      → draw_lines w u q t (m - k) k vs n f ≡ proceed o (λ x n f. draw_lines w u q t (m - (k + 1)) (k + 1) (set vs k x) n f)
  lines_more l o e =
      let h : m - k ≡ suc (m - (k + 1)) = omega arith in
      ap (λ (j : ℕ). draw_lines w u q t j k vs n f) h
      ∙ ap (λ o. proceed o (λ x n f. draw_lines w u q t (m - (k + 1)) (k + 1) (set vs k x) n f)) e

  pub lines_end : m ≤ k → draw_lines w u q t (m - k) k vs n f ≡ whole n f vs
  lines_end l = let h : m - k ≡ 0 = omega arith in ap (λ (j : ℕ). draw_lines w u q t j k vs n f) h

module _ (w : ℕ) (u : Cut) (q t : List ℕ) (n : ℕ) (f vs : List ℕ) (few_clauses : length q ≤ 2 ^ 28) (lines clauses steps : ℕ)
    (sum : lines ≡ clauses + steps) (given : clauses ≡ clause_count (counted q)) (taken : steps ≡ step_count t) where
  all_lines : lines ≡ line_count q t
  all_lines =
      let whole_question : counted q ≡ q = take_all (2 ^ 28) q few_clauses in
      omega (arith, sum, taken, given ∙ ap (λ (xs : List ℕ). clause_count xs) whole_question)

  pub all_refused : length vs < lines → ◌≡◌ {A = Found} (Err LineValues, f, vs) (draw_all w u q t n f vs)
  all_refused h = sym (cond-false _ _ _ (lt-leb (line_count q t) (length vs) (omega (arith, all_lines))))

  module _ (room : lines ≤ length vs) (zeros : List ℕ) (filled : zeros ≡ replicate (length vs) 0) where
    all_by : (o : Drawing) → draw_lines w u q t lines 0 zeros n f ≡ o → answered lines f vs o ≡ draw_all w u q t n f vs
    all_by o e =
        let same : draw_lines w u q t (line_count q t) 0 (replicate (length vs) 0) n f ≡ o =
        (λ i. draw_lines w u q t (sym all_lines i) 0 (sym filled i) n f) ∙ e in
        (λ i. answered (all_lines i) f vs (sym same i))
        ∙ sym (cond-true _ _ _ (le-leb (line_count q t) (length vs) (omega (arith, all_lines))))

    pub all_drawn : (n' : ℕ) (f' vs' : List ℕ) → draw_lines w u q t lines 0 zeros n f ≡ whole n' f' vs' → (x : ℕ) → x ≡ get_or vs' (lines - 1) 0
        → ◌≡◌ {A = Found} (Ok (record { literal = literal x; gates = n' }), f', vs') (draw_all w u q t n f vs)
    all_drawn n' f' vs' e x is =
        ap (λ (x : ℕ). let r : Found = (Ok (record { literal = literal x; gates = n' }), f', vs') in r) is ∙ all_by (whole n' f' vs') e

    pub all_broken : draw_lines w u q t lines 0 zeros n f ≡ broken → (f' : List ℕ) → Stays f f' → length f' ≡ length f → (none : List ℕ) → none ≡ cleared f'
        → (vs' : List ℕ) → length vs' ≡ length vs → length vs ≤ 2 ^ 28 → (nones : List ℕ) → nones ≡ cleared vs'
        → ◌≡◌ {A = Found} (Err Formula, none, nones) (draw_all w u q t n f vs)
    all_broken e f' stays same none cleared-f' vs' same-values few nones cleared-vs' =
        let long : length (counted f') ≡ length (counted f) = omega (arith, length-take (2 ^ 28) f', length-take (2 ^ 28) f) in
        let is_none : none ≡ cleared f = cleared-f' ∙ (λ i. replicate (long i) 0 ++ stays.rest i) in
        let is_nones : nones ≡ replicate (length vs) 0 = cleared-vs' ∙ cleared_whole vs' (omega arith) ∙ ap (λ (k : ℕ). replicate k 0) same-values in
        (λ i. (Err Formula, is_none i, is_nones i)) ∙ all_by broken e

-- where of each list the front counts
pub interpolation_by : (l q t : List ℕ) (n : ℕ) (f old : List ℕ) (u : Parts) → u ≡ parts_of l q n → (q' t' : List ℕ) → q' ≡ q → t' ≡ t
    → (len : ℕ) → len ≡ min (length old) (2 ^ 28) → (r : Result Root Short) (f' vs : List ℕ)
    → ◌≡◌ {A = Found} (r, f', vs) (draw_all u.width (cut_by u) q' t' n f (take (len - 0) old))
    → ◌≡◌ {A = Found} (r, f', vs ++ post_of 0 (len - 0) old) (interpolation l q t f n old)
interpolation_by l q t n f old u parts q' t' is-q is-t len cut r f' vs e =
    let front : take (len - 0) old ≡ counted old = take_min old (2 ^ 28) (len - 0) (omega arith) in
    let rest : drop (len - 0) old ≡ uncounted old = drop_min old (2 ^ 28) (len - 0) (omega arith) in
    let done : ◌≡◌ {A = Found} (r, f', vs) (draw_all (width_in l) (cut_of l q n) q t n f (counted old)) =
    e ∙ (λ i. draw_all (parts i).width (cut_by (parts i)) (is-q i) (is-t i) n f (front i)) in
    (λ i. ((done i).0, (done i).1, (done i).2 ++ rest i))
