-- Drawing adds gates behind those that there are, and leaves the rest of the formula list alone. Assumes nothing.
use Rattle.std.proofs.Common.{◌/◌, ◌≡◌, ℕ, zero, suc, ◌+◌, ◌-◌, ◌*◌, ◌^◌, min, max, ◌&&◌, ltb, leb, ◌≢◌, List, [], ◌∷◌, length, get_or, set, replicate, IfOk, Some, None, Option, Result, sym, refl, ◌∙◌, subst, arith, length-set}
use Rattle.std.proofs.lemmas.List.{get_or-set_other}
use Rattle.std.proofs.lemmas.Bool.{cond_both}
use Rattle.lists.specs.Counted.{counted}
use Rattle.formula.specs.Conjunction.{Outcome, grown, short, new_gate, conjoin_by, conjoin, negated, disjoin, simple, opposite}
use Rattle.formula.specs.Starting.{onward}
use Rattle.question.specs.Questions.{clause_count, clause_of}
use Rattle.answer.specs.Steps.{step_of}
use Rattle.answer.specs.declared.steps.Step.{Step}
use Rattle.interpolant.specs.Drawing.{or_shared, draw_step, draw_line, Drawing, whole, broken, proceed, draw_lines, Found, answered, interpolation, Adds}
use Rattle.interpolant.specs.Interpolation.{Cut, line_count}
use Rattle.interpolant.specs.Parting.{width_in, cut_of}
use Rattle.interpolant.specs.declared.draw.Short.{Short}
use Rattle.formula.specs.declared.root.Root.{Root}

pub adds_refl : (f : List ℕ) (n : ℕ) → Adds f n f n
adds_refl f n = record { more = omega arith; size = refl; before = λ i l. refl; behind = λ i l. refl }

adds_trans : (f g h : List ℕ) (n m k : ℕ) → Adds f n g m → Adds g m h k → Adds f n h k
adds_trans f g h n m k a b =
    let low = a.more in
    let high = b.more in
    record {
      more = omega arith;
      size = b.size ∙ a.size;
      before = λ i l. b.before i (omega arith) ∙ a.before i l;
      behind = λ i l. b.behind i l ∙ a.behind i (omega arith);
    }

abbrev pub Added : List ℕ → ℕ → Outcome → Type 0
Added f n (grown x n' f') = Adds f n f' n'
Added f n short = Unit {0}

pub added_trans : (f g : List ℕ) (n m : ℕ) → Adds f n g m → (o : Outcome) → Added g m o → Added f n o
added_trans f g n m a (grown x k h) b = adds_trans f g h n m k a b
added_trans f g n m a short b = tt

gate_added : (w n : ℕ) (f : List ℕ) (a b : ℕ) → Added f n (new_gate w n f a b)
gate_added w n f a b =
    cond_both (leb (2 * n + 2) (length (counted f)) && ltb (w + n) (2 ^ 31)) _ _ (Added f n)
    (λ e.
    let other : (i : ℕ) → i ≢ 2 * n → i ≢ 2 * n + 1 → get_or (set (set f (2 * n) a) (2 * n + 1) b) i 0 ≡ get_or f i 0 =
    λ i one two. get_or-set_other (set f (2 * n) a) (2 * n + 1) i b 0 two ∙ get_or-set_other f (2 * n) i a 0 one in
    record {
      more = omega arith;
      size = length-set (set f (2 * n) a) (2 * n + 1) b ∙ length-set f (2 * n) a;
      before = λ i l. other i (λ k. omega arith) (λ k. omega arith);
      behind = λ i l. other i (λ k. omega arith) (λ k. omega arith);
    })
    (λ e. tt)

by_added : (w n : ℕ) (f : List ℕ) (a b : ℕ) (o : Option ℕ) → Added f n (conjoin_by w n f a b o)
by_added w n f a b (Some x) = adds_refl f n
by_added w n f a b None = gate_added w n f (max a b) (min a b)

pub and_added : (w n : ℕ) (f : List ℕ) (a b : ℕ) → Added f n (conjoin w n f a b)
and_added w n f a b = by_added w n f a b (simple a b)

negated_added : (f : List ℕ) (n : ℕ) (o : Outcome) → Added f n o → Added f n (negated o)
negated_added f n (grown x m g) h = h
negated_added f n short h = tt

pub or_added : (w n : ℕ) (f : List ℕ) (a b : ℕ) → Added f n (disjoin w n f a b)
or_added w n f a b = negated_added f n (conjoin w n f (opposite a) (opposite b)) (and_added w n f (opposite a) (opposite b))

onward_added : (f : List ℕ) (n : ℕ) (o : Outcome) (next : ℕ → ℕ → List ℕ → Outcome) → Added f n o → ((x m : ℕ) (g : List ℕ) → Added g m (next x m g)) → Added f n (onward o next)
onward_added f n (grown x m g) next a rest = added_trans f g n m a (next x m g) (rest x m g)
onward_added f n short next a rest = tt

abbrev AllAdded : List ℕ → ℕ → Drawing → Type 0
AllAdded f n (whole n' f' vs) = Adds f n f' n'
AllAdded f n broken = Unit {0}

all_trans : (f g : List ℕ) (n m : ℕ) → Adds f n g m → (o : Drawing) → AllAdded g m o → AllAdded f n o
all_trans f g n m a (whole k h vs) b = adds_trans f g h n m k a b
all_trans f g n m a broken b = tt

proceed_added : (f : List ℕ) (n : ℕ) (o : Outcome) (next : ℕ → ℕ → List ℕ → Drawing) → Added f n o → ((x m : ℕ) (g : List ℕ) → AllAdded g m (next x m g)) → AllAdded f n (proceed o next)
proceed_added f n (grown x m g) next a rest = all_trans f g n m a (next x m g) (rest x m g)
proceed_added f n short next a rest = tt

module _ (w : ℕ) (u : Cut) (q t : List ℕ) where
  shared_added : (ys : List ℕ) (x n : ℕ) (f : List ℕ) → Added f n (or_shared w u ys x n f)
  shared_added [] x n f = adds_refl f n
  shared_added (y ∷ ys) x n f =
      cond_both (u.shared (y / 2)) _ _ (Added f n)
      (λ e. onward_added f n (disjoin w n f x (y - 2 * w)) (λ x n f. or_shared w u ys x n f) (or_added w n f x (y - 2 * w)) (shared_added ys))
      (λ e. shared_added ys x n f)

  step_added : (vs : List ℕ) (s : Step) (n : ℕ) (f : List ℕ) → Added f n (draw_step w u vs s n f)
  step_added vs s n f =
      cond_both (u.local s.pivot) _ _ (Added f n)
      (λ e. or_added w n f (get_or vs s.first 0) (get_or vs s.second 0))
      (λ e. and_added w n f (get_or vs s.first 0) (get_or vs s.second 0))

  line_added : (vs : List ℕ) (k n : ℕ) (f : List ℕ) → Added f n (draw_line w u q t vs k n f)
  line_added vs k n f =
      cond_both (ltb k (clause_count q)) _ _ (Added f n)
      (λ e. cond_both (ltb k u.first) _ _ (Added f n) (λ i. shared_added (clause_of q k) 0 n f) (λ i. adds_refl f n))
      (λ e. step_added vs (step_of t (k - clause_count q)) n f)

  lines_added : (m k : ℕ) (vs : List ℕ) (n : ℕ) (f : List ℕ) → AllAdded f n (draw_lines w u q t m k vs n f)
  lines_added zero k vs n f = adds_refl f n
  lines_added (suc m) k vs n f =
      proceed_added f n (draw_line w u q t vs k n f) (λ x n f. draw_lines w u q t m (k + 1) (set vs k x) n f) (line_added vs k n f)
      (λ x n f. lines_added m (k + 1) (set vs k x) n f)

answered_added : (m : ℕ) (f vs : List ℕ) (n : ℕ) (o : Drawing) → AllAdded f n o → (let found : Found = answered m f vs o in IfOk found.0 (λ d. Adds f n found.1 d.gates))
answered_added m f vs n (whole n' f' vs') h = h
answered_added m f vs n broken h = tt

pub adds_gates : (l q t f : List ℕ) (n : ℕ) (old f' vs : List ℕ) (r : Result Root Short) → ◌≡◌ {A = Found} (r, f', vs) (interpolation l q t f n old)
    → IfOk r (λ d. Adds f n f' d.gates)
adds_gates l q t f n old f' vs r is =
    subst (λ (found : Found). IfOk found.0 (λ d. Adds f n found.1 d.gates)) (sym is)
    (cond_both (leb (line_count q t) (length (counted old))) _ _ (λ (found : Found). IfOk found.0 (λ d. Adds f n found.1 d.gates))
    (λ e.
    let zeros : List ℕ = replicate (length (counted old)) 0 in
    answered_added (line_count q t) f (counted old) n (draw_lines (width_in l) (cut_of l q n) q t (line_count q t) 0 zeros n f)
    (lines_added (width_in l) (cut_of l q n) q t (line_count q t) 0 zeros n f))
    (λ e. tt))
