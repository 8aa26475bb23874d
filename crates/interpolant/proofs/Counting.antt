-- How many gates drawing needs at most. Assumes nothing.
use Rattle.std.proofs.Common.{◌/◌, ◌≡◌, ℕ, zero, suc, ◌+◌, ◌-◌, ◌*◌, ◌^◌, ◌<◌, ◌≤◌, min, max, ◌&&◌, ltb, leb, List, [], ◌∷◌, length, get_or, set, replicate, Some, None, Option, Result, sym, refl, ap, ◌∙◌, subst, ⊎_elim, arith, length-set, length-take}
use Rattle.std.proofs.lemmas.Bool.{cond_both, cond-true, cond-false, and_from, le-leb, lt-ltb, le-ltb, both_ways, cases_lt}
use Rattle.lists.specs.Counted.{counted}
use Rattle.formula.specs.Conjunction.{Outcome, grown, short, new_gate, conjoin_by, conjoin, negated, disjoin, simple, opposite}
use Rattle.formula.specs.Starting.{onward}
use Rattle.question.specs.Questions.{clause_count, first_count, clause_of}
use Rattle.answer.specs.Derivations.{total}
use Rattle.answer.specs.Steps.{step_count, step_of}
use Rattle.answer.specs.declared.steps.Step.{Step}
use Rattle.answer.proofs.Blaming.{total_within}
use Rattle.answer.proofs.Laying.{total_next}
use Rattle.interpolant.specs.Drawing.{or_shared, draw_step, draw_line, Drawing, whole, broken, proceed, draw_lines, Found, answered, interpolation, most_gates, HasRoom, NeedsGates}
use Rattle.interpolant.specs.Interpolation.{Cut, line_count}
use Rattle.interpolant.specs.Parting.{width_in, cut_of}
use Rattle.interpolant.specs.declared.draw.Short.{Short}
use Rattle.formula.specs.declared.root.Root.{Root}

module _ (w : ℕ) where
  -- at most c gates more, unless there is no room for as many
  abbrev Costs : ℕ → ℕ → List ℕ → Outcome → Type 0
  Costs c n f (grown x n' f') = (n' ≤ n + c) × (length f' ≡ length f)
  Costs c n f short = HasRoom w c n f → ⊥

  gate_costs : (n : ℕ) (f : List ℕ) (a b : ℕ) → Costs 1 n f (new_gate w n f a b)
  gate_costs n f a b =
      cond_both (leb (2 * n + 2) (length (counted f)) && ltb (w + n) (2 ^ 31)) _ _ (Costs 1 n f)
      (λ e. (omega arith, length-set (set f (2 * n) a) (2 * n + 1) b ∙ length-set f (2 * n) a))
      (λ e room.
      let one : 2 * n + 2 ≤ length (counted f) = omega (arith, room.0) in
      let two : w + n < 2 ^ 31 = omega (arith, room.1) in
      both_ways _ e (and_from _ _ (le-leb _ _ one) (lt-ltb _ _ two)))

  by_costs : (n : ℕ) (f : List ℕ) (a b : ℕ) (o : Option ℕ) → Costs 1 n f (conjoin_by w n f a b o)
  by_costs n f a b (Some x) = (omega arith, refl)
  by_costs n f a b None = gate_costs n f (max a b) (min a b)

  and_costs : (n : ℕ) (f : List ℕ) (a b : ℕ) → Costs 1 n f (conjoin w n f a b)
  and_costs n f a b = by_costs n f a b (simple a b)

  negated_costs : (c n : ℕ) (f : List ℕ) (o : Outcome) → Costs c n f o → Costs c n f (negated o)
  negated_costs c n f (grown x m g) h = h
  negated_costs c n f short h = h

  or_costs : (n : ℕ) (f : List ℕ) (a b : ℕ) → Costs 1 n f (disjoin w n f a b)
  or_costs n f a b = negated_costs 1 n f (conjoin w n f (opposite a) (opposite b)) (and_costs n f (opposite a) (opposite b))

  -- room that is left after a gates
  room_left : (a b c n m : ℕ) (f g : List ℕ) → a + b ≤ c → m ≤ n + a → length g ≡ length f → HasRoom w c n f → HasRoom w b m g
  room_left a b c n m f g sum few same room = (
    omega (arith, room.0, length-take (2 ^ 28) f, length-take (2 ^ 28) g),
    omega (arith, room.1),
  )

  costs_trans : (a b c n m : ℕ) (f g : List ℕ) → a + b ≤ c → m ≤ n + a → length g ≡ length f → (o : Outcome) → Costs b m g o → Costs c n f o
  costs_trans a b c n m f g sum few same (grown x k h) (less, as_long) = (omega arith, as_long ∙ same)
  costs_trans a b c n m f g sum few same short never = λ room. never (room_left a b c n m f g sum few same room)

  onward_costs : (a b c n : ℕ) (f : List ℕ) → a + b ≤ c → (o : Outcome) (next : ℕ → ℕ → List ℕ → Outcome) → Costs a n f o
      → ((x m : ℕ) (g : List ℕ) → Costs b m g (next x m g)) → Costs c n f (onward o next)
  onward_costs a b c n f sum (grown x m g) next (few, same) rest = costs_trans a b c n m f g sum few same (next x m g) (rest x m g)
  onward_costs a b c n f sum short next never rest = λ room. never (room_left 0 a c n n f f (omega arith) (omega arith) refl room)

  -- all lines
  abbrev AllCost : ℕ → ℕ → List ℕ → Drawing → Type 0
  AllCost c n f (whole n' f' vs) = n' ≤ n + c
  AllCost c n f broken = HasRoom w c n f → ⊥

  all_trans : (a b c n m : ℕ) (f g : List ℕ) → a + b ≤ c → m ≤ n + a → length g ≡ length f → (o : Drawing) → AllCost b m g o → AllCost c n f o
  all_trans a b c n m f g sum few same (whole k h vs) less = omega arith
  all_trans a b c n m f g sum few same broken never = λ room. never (room_left a b c n m f g sum few same room)

  proceed_costs : (a b c n : ℕ) (f : List ℕ) → a + b ≤ c → (o : Outcome) (next : ℕ → ℕ → List ℕ → Drawing) → Costs a n f o
      → ((x m : ℕ) (g : List ℕ) → AllCost b m g (next x m g)) → AllCost c n f (proceed o next)
  proceed_costs a b c n f sum (grown x m g) next (few, same) rest = all_trans a b c n m f g sum few same (next x m g) (rest x m g)
  proceed_costs a b c n f sum short next never rest = λ room. never (room_left 0 a c n n f f (omega arith) (omega arith) refl room)

  module _ (u : Cut) (q t : List ℕ) where
    shared_costs : (ys : List ℕ) (x n : ℕ) (f : List ℕ) → Costs (length ys) n f (or_shared w u ys x n f)
    shared_costs [] x n f = (omega arith, refl)
    shared_costs (y ∷ ys) x n f =
        cond_both (u.shared (y / 2)) _ _ (Costs (length (y ∷ ys)) n f)
        (λ e. onward_costs 1 (length ys) (length (y ∷ ys)) n f (omega arith) (disjoin w n f x (y - 2 * w)) (λ x n f. or_shared w u ys x n f)
        (or_costs n f x (y - 2 * w)) (shared_costs ys))
        (λ e. costs_trans 0 (length ys) (length (y ∷ ys)) n n f f (omega arith) (omega arith) refl (or_shared w u ys x n f) (shared_costs ys x n f))

    step_costs : (vs : List ℕ) (s : Step) (n : ℕ) (f : List ℕ) → Costs 1 n f (draw_step w u vs s n f)
    step_costs vs s n f =
        cond_both (u.local s.pivot) _ _ (Costs 1 n f)
        (λ e. or_costs n f (get_or vs s.first 0) (get_or vs s.second 0))
        (λ e. and_costs n f (get_or vs s.first 0) (get_or vs s.second 0))

    abbrev c : ℕ
    c = clause_count q

    -- the clauses of the first part, and their literals so far
    abbrev a : ℕ
    a = min u.first c

    abbrev literals : ℕ → ℕ
    literals k = total (clause_of q) k

    module _ (vs : List ℕ) (k n : ℕ) (f : List ℕ) where
      first_costs : k < a → Costs (length (clause_of q k)) n f (draw_line w u q t vs k n f)
      first_costs h =
          subst (Costs (length (clause_of q k)) n f)
          (sym (cond-true _ _ _ (lt-ltb k c (omega arith)) ∙ cond-true _ _ _ (lt-ltb k u.first (omega arith)))) (shared_costs (clause_of q k) 0 n f)

      second_costs : a ≤ k → k < c → Costs 0 n f (draw_line w u q t vs k n f)
      second_costs h l =
          subst (Costs 0 n f) (sym (cond-true _ _ _ (lt-ltb k c l) ∙ cond-false _ _ _ (le-ltb k u.first (omega arith)))) (omega arith, refl)

      step_line_costs : c ≤ k → Costs 1 n f (draw_line w u q t vs k n f)
      step_line_costs h = subst (Costs 1 n f) (sym (cond-false _ _ _ (le-ltb k c h))) (step_costs vs (step_of t (k - c)) n f)

    -- what is still to come of the literals, and of the steps
    lines_cost : (m k budget : ℕ) (vs : List ℕ) (n : ℕ) (f : List ℕ) → k + m ≡ line_count q t
        → literals a + step_count t ≤ literals (min k a) + (k - c) + budget → AllCost budget n f (draw_lines w u q t m k vs n f)
    lines_cost zero k budget vs n f all enough = omega arith
    lines_cost (suc m) k budget vs n f all enough =
        let next : ℕ → ℕ → List ℕ → Drawing = λ x n f. draw_lines w u q t m (k + 1) (set vs k x) n f in
        let this : Outcome = draw_line w u q t vs k n f in
        ⊎_elim
        (λ (h : k < a).
        let here : min k a ≡ k = omega arith in
        let there : min (k + 1) a ≡ k + 1 = omega arith in
        let size : ℕ = length (clause_of q k) in
        let now = ap literals here in
        let then = ap literals there in
        let more = total_next (clause_of q) k in
        let top = total_within (clause_of q) (k + 1) a (omega arith) in
        proceed_costs size (budget - size) budget n f (omega arith) this next (first_costs vs k n f h)
        (λ x n' g. lines_cost m (k + 1) (budget - size) (set vs k x) n' g (omega arith) (omega arith)))
        (λ (h : a ≤ k).
        let here : min k a ≡ a = omega arith in
        let there : min (k + 1) a ≡ a = omega arith in
        let now = ap literals here in
        let then = ap literals there in
        ⊎_elim
        (λ (l : k < c).
        proceed_costs 0 budget budget n f (omega arith) this next (second_costs vs k n f h l)
        (λ x n' g. lines_cost m (k + 1) budget (set vs k x) n' g (omega arith) (omega arith)))
        (λ (l : c ≤ k).
        proceed_costs 1 (budget - 1) budget n f (omega arith) this next (step_line_costs vs k n f l)
        (λ x n' g. lines_cost m (k + 1) (budget - 1) (set vs k x) n' g (omega arith) (omega arith)))
        (cases_lt k c))
        (cases_lt k a)

answered_needs : (l q t f : List ℕ) (n : ℕ) (vs : List ℕ) (o : Drawing) → AllCost (width_in l) (most_gates q t) n f o → NeedsGates l q t f n (answered (line_count q t) f vs o).0
answered_needs l q t f n vs (whole n' f' vs') h = h
answered_needs l q t f n vs broken h = h

pub needs_gates : (l q t f : List ℕ) (n : ℕ) (old f' vs : List ℕ) (r : Result Root Short) → ◌≡◌ {A = Found} (r, f', vs) (interpolation l q t f n old) → NeedsGates l q t f n r
needs_gates l q t f n old f' vs r is =
    subst (λ (found : Found). NeedsGates l q t f n found.0) (sym is)
    (cond_both (leb (line_count q t) (length (counted old))) _ _ (λ (found : Found). NeedsGates l q t f n found.0)
    (λ e.
    let zeros : List ℕ = replicate (length (counted old)) 0 in
    let start : min 0 (min (first_count q) (clause_count q)) ≡ 0 = omega arith in
    answered_needs l q t f n (counted old) (draw_lines (width_in l) (cut_of l q n) q t (line_count q t) 0 zeros n f)
    (lines_cost (width_in l) (cut_of l q n) q t (line_count q t) 0 (most_gates q t) zeros n f (omega arith) (omega (arith, ap (total (clause_of q)) start))))
    (λ e. tt))
