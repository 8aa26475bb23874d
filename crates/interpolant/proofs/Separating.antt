-- What the partial interpolants of a derivation say of its lines. Assumes nothing.
use Rattle.std.proofs.Common.{◌≡◌, ℕ, zero, suc, ◌+◌, ◌-◌, ◌/◌, ◌<◌, ◌≤◌, Bool, true, false, not, ◌&&◌, ◌||◌, ◌⊎◌, List, [], sym, ap, ◌∙◌, subst, inl, inr, ⊎_elim, arith}
use Rattle.std.proofs.lemmas.Bool.{cases_lt, cases_Bool, and_from, and_parts, or_cases, or_left, or_right}
use Rattle.question.specs.Questions.{clause_count, clause_of, Clause}
use Rattle.answer.specs.Derivations.{Makes, MakesAll}
use Rattle.answer.specs.Lines.{line_of}
use Rattle.answer.specs.Steps.{step_count, step_of}
use Rattle.answer.proofs.Resolving.{Proper, line_given, line_derived, lines_proper}
use Rattle.interpolant.specs.Interpolation.{Cut, Parted, Partial, First, Second, Separates}
use Rattle.interpolant.proofs.Resolving.{holds_some, Some, one_has, both_have}

module _ (q t : List ℕ) (s : ℕ) (d : ℕ → List ℕ) (u : Cut) (sound : Proper q) (parted : Parted q u) (steps : MakesAll q t s d)
    (α p : ℕ → Bool) (is : Partial q t u α (clause_count q + s) p) where
  abbrev c : ℕ
  c = clause_count q

  -- where the first part is true: the partial interpolant of a line is, or a local literal of its clause
  abbrev Above : ℕ → List ℕ → Type 0
  Above k xs = (p k ≡ true) ⊎ Some u.local true α xs

  -- where the second part is true, and the partial interpolant of a line: a literal of its clause is true that is not local
  abbrev Below : ℕ → List ℕ → Type 0
  Below k xs = p k ≡ true → Some u.local false α xs

  proper : (k : ℕ) → k < c + s → Clause (line_of q d k)
  proper = lines_proper q t s d sound steps

  module _ (i : ℕ) (l : i < s) where
    abbrev f : ℕ
    f = (step_of t i).first

    abbrev g : ℕ
    g = (step_of t i).second

    abbrev v : ℕ
    v = (step_of t i).pivot

    it : Makes q d i (step_of t i)
    it = steps i l

    f_less : f < c + i
    f_less = it.earlier.0

    g_less : g < c + i
    g_less = it.earlier.1

    one : (b : Bool) → u.local v ≡ not b → Some u.local b α (line_of q d f) ⊎ Some u.local b α (line_of q d g) → Some u.local b α (d i)
    one b = one_has u.local b α (line_of q d f) (line_of q d g) v (d i) it.resolves

    both : (b : Bool) → Some u.local b α (line_of q d f) → Some u.local b α (line_of q d g) → Some u.local b α (d i)
    both b =
        both_have u.local b α (line_of q d f) (line_of q d g) v (d i) it.resolves
        (proper f (omega (arith, f_less))) (proper g (omega (arith, g_less)))

    above_step : Above f (line_of q d f) → Above g (line_of q d g) → Above (c + i) (d i)
    above_step x y = ⊎_elim
        (λ (h : u.local v ≡ true).
        let e : p (c + i) ≡ (p f || p g) = is.disjoined i (omega arith) h in
        ⊎_elim
        (λ m. inl (e ∙ or_left (p f) (p g) m))
        (λ m. ⊎_elim (λ n. inl (e ∙ or_right (p f) (p g) n)) (λ n. inr (both true m n)) y)
        x)
        (λ (h : u.local v ≡ false).
        let e : p (c + i) ≡ (p f && p g) = is.conjoined i (omega arith) h in
        ⊎_elim
        (λ m. ⊎_elim (λ n. inl (e ∙ and_from (p f) (p g) m n)) (λ n. inr (one true h (inr n))) y)
        (λ m. inr (one true h (inl m)))
        x)
        (cases_Bool (u.local v))

    below_step : Below f (line_of q d f) → Below g (line_of q d g) → Below (c + i) (d i)
    below_step x y k = ⊎_elim
        (λ (h : u.local v ≡ true).
        let e : p (c + i) ≡ (p f || p g) = is.disjoined i (omega arith) h in
        one false h (⊎_elim (λ m. inl (x m)) (λ m. inr (y m)) (or_cases (p f) (p g) (sym e ∙ k))))
        (λ (h : u.local v ≡ false).
        let e : p (c + i) ≡ (p f && p g) = is.conjoined i (omega arith) h in
        let m = and_parts (p f) (p g) (sym e ∙ k) in
        both false (x m.0) (y m.1))
        (cases_Bool (u.local v))

  -- a clause of the question
  module _ (k : ℕ) (l : k < c) where
    above_root : First q u α → Above k (clause_of q k)
    above_root all = ⊎_elim
        (λ (h : k < u.first).
        let (x, m, e) = holds_some α (clause_of q k) (all k l h) in
        ⊎_elim (λ n. inr (x, m, n, e)) (λ n. inl ((is.first k (omega arith) l h).1 (x, m, n, e))) (parted.first k x l h m))
        (λ (h : u.first ≤ k). inl (is.second k (omega arith) l h))
        (cases_lt k u.first)

    below_root : Second q u α → Below k (clause_of q k)
    below_root all e = ⊎_elim
        (λ (h : k < u.first).
        let (x, m, n, o) = (is.first k (omega arith) l h).0 e in
        (x, m, parted.apart (x / 2) n, o))
        (λ (h : u.first ≤ k).
        let (x, m, o) = holds_some α (clause_of q k) (all k l h) in
        (x, m, parted.second k x l h m, o))
        (cases_lt k u.first)

  -- the lines below n, by what holds of the question's clauses and is kept by the steps
  module _ (P : ℕ → List ℕ → Type 0) (root : (k : ℕ) → k < c → P k (clause_of q k))
      (step : (i : ℕ) → i < s → P (step_of t i).first (line_of q d (step_of t i).first) → P (step_of t i).second (line_of q d (step_of t i).second) → P (c + i) (d i)) where
    each : (n k : ℕ) → k < n → n ≤ c + s → P k (line_of q d k)
    each zero k l m = absurd (omega arith)
    each (suc n) k l m = ⊎_elim
        (λ (h : k < c). subst (P k) (sym (line_given q d k h)) (root k h))
        (λ (h : c ≤ k).
        let i : ℕ = k - c in
        let before = (steps i (omega arith)).earlier in
        let f : (step_of t i).first < c + i = before.0 in
        let g : (step_of t i).second < c + i = before.1 in
        let same : c + i ≡ k = omega arith in
        subst (P k) (sym (line_derived q d k h))
        (subst (λ j. P j (d i)) same (step i (omega arith) (each n (step_of t i).first (omega arith) (omega arith)) (each n (step_of t i).second (omega arith) (omega arith)))))
        (cases_lt k c)

  module _ (some : 1 ≤ s) (empty : d (s - 1) ≡ []) where
    last_empty : line_of q d (c + s - 1) ≡ []
    last_empty =
        let place : c + s - 1 - c ≡ s - 1 = omega arith in
        line_derived q d (c + s - 1) (omega arith) ∙ ap d place ∙ empty

    no_literal : (b : Bool) → Some u.local b α (line_of q d (c + s - 1)) → ⊥
    no_literal b h = (subst (Some u.local b α) last_empty h).1

    pub implied : First q u α → p (c + s - 1) ≡ true
    implied all = ⊎_elim (λ e. e) (λ h. absurd (no_literal true h))
        (each Above (λ k l. above_root k l all) above_step (c + s) (c + s - 1) (omega arith) (omega arith))

    pub refuted : Second q u α → p (c + s - 1) ≡ false
    refuted all = ⊎_elim
        (λ (e : p (c + s - 1) ≡ true).
        absurd (no_literal false (each Below (λ k l. below_root k l all) below_step (c + s) (c + s - 1) (omega arith) (omega arith) e)))
        (λ e. e)
        (cases_Bool (p (c + s - 1)))

pub separates : Separates
separates q t d u asked parted some der α p is =
    let s = step_count t in (
      implied q t s d u asked.clauses parted der.steps α p is some der.empty,
      refuted q t s d u asked.clauses parted der.steps α p is some der.empty,
    )
