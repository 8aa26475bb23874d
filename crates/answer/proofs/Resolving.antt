-- The joint clause is the resolvent, and a resolvent is true where its clauses are. Assumes nothing.
use Rattle.std.proofs.Common.{◌≡◌, ℕ, zero, suc, ◌+◌, ◌-◌, ◌*◌, ◌/◌, ◌%◌, ◌<◌, ◌≤◌, Bool, true, false, not, ◌&&◌, List, [], ◌∷◌, Ok, Result, sym, refl, ap, ◌∙◌, subst, inl, inr, ⊎_elim, arith}
use Rattle.std.proofs.lemmas.Bool.{cond-true, cond-false, lt-ltb, le-ltb, eq-eqb, ne_eqb, and_from, or_cases, or_left, or_right, not_from_false, cases_lt, cases_eq}
use Rattle.sheet.specs.Faults.{demand}
use Rattle.sheet.specs.declared.fault.Fault.{Fault}
use Rattle.signal.specs.Truth.{lit, holds}
use Rattle.question.specs.Questions.{clause_count, clause_of, Mem, Clause, Satisfies, Satisfiable}
use Rattle.answer.specs.Joint.{union, joint, has, clashing}
use Rattle.answer.specs.Lines.{line_of}
use Rattle.answer.specs.Steps.{step_count, step_of, matched}
use Rattle.answer.specs.Derivations.{Resolves, Makes, MakesAll, Derives}
use Rattle.answer.proofs.Members.{Asc, mem_union, union_mem, clause_asc, asc_union, mem_without, without_mem, asc_without, proper_from, quiet_from, has_mem, mem_has, asc_same}

all_pass : (a b c : Bool) (f g : Fault) → ◌≡◌ {A = Result (Unit {0}) Fault} (demand (a && b) f (demand (not c) g (Ok tt))) (Ok tt) → (a ≡ true) × (b ≡ true) × (c ≡ false)
all_pass true true false f g h = (refl, refl, refl)
all_pass true true true f g h = let z : ◌≡◌ {A = ℕ} 0 1 = cc in absurd (omega arith)
all_pass true false c f g h = let z : ◌≡◌ {A = ℕ} 0 1 = cc in absurd (omega arith)
all_pass false b c f g h = let z : ◌≡◌ {A = ℕ} 0 1 = cc in absurd (omega arith)

pub asc_joint : (xs ys : List ℕ) (p : ℕ) → Clause xs → Clause ys → Asc (joint xs ys p)
asc_joint xs ys p cx cy = asc_without p (union xs ys) (asc_union xs ys (clause_asc xs cx) (clause_asc ys cy))

module _ (xs ys : List ℕ) (p i : ℕ) (cx : Clause xs) (cy : Clause ys) where
  pub resolves_from : matched xs ys p i ≡ Ok tt → Resolves xs ys p (joint xs ys p)
  resolves_from h = let g = all_pass (has (2 * p) xs) (has (2 * p + 1) ys) (clashing xs ys p) _ _ h in record {
    opposes = (has_mem (2 * p) xs g.0, has_mem (2 * p + 1) ys g.1);
    proper = proper_from p (joint xs ys p) (asc_joint xs ys p cx cy) g.2;
    only = λ z m. let k = mem_without p (union xs ys) z m in (mem_union xs ys z k.0, k.1);
    every = λ z m ne. without_mem p (union xs ys) z (union_mem xs ys z m) ne;
  }

  module _ (zs : List ℕ) (r : Resolves xs ys p zs) where
    pub joint_is : joint xs ys p ≡ zs
    joint_is =
        asc_same (joint xs ys p) zs (asc_joint xs ys p cx cy) (clause_asc zs r.proper)
        (λ z m. let k = mem_without p (union xs ys) z m in r.every z (mem_union xs ys z k.0) k.1)
        (λ z m. let k = r.only z m in without_mem p (union xs ys) z (union_mem xs ys z k.0) k.1)

    pub matched_from : matched xs ys p i ≡ Ok tt
    matched_from =
        let quiet : clashing xs ys p ≡ false =
        quiet_from p (joint xs ys p) (subst Clause (sym joint_is) r.proper) (λ y m. (mem_without p (union xs ys) y m).1) in
        cond-true _ _ _ (and_from _ _ (mem_has (2 * p) xs r.opposes.0) (mem_has (2 * p + 1) ys r.opposes.1))
        ∙ cond-true _ _ _ (not_from_false _ quiet)

-- a clause has a variable once
pub once : (xs : List ℕ) (x y : ℕ) → Clause xs → Mem x xs → Mem y xs → x / 2 ≡ y / 2 → x ≡ y
once [] x y c m n e = absurd m
once (z ∷ zs) x y c m n e =
    ⊎_elim
    (λ s. ⊎_elim (λ t. s ∙ sym t) (λ t. let l : z / 2 < y / 2 = c.0 y t in absurd (omega (arith, ap (λ v. v / 2) s))) n)
    (λ s. ⊎_elim (λ t. let l : z / 2 < x / 2 = c.0 x s in absurd (omega (arith, ap (λ v. v / 2) t))) (λ t. once zs x y c.1 s t e) n)
    m

-- ---- clauses under an assignment
holds_some : (α : ℕ → Bool) (xs : List ℕ) → holds α xs ≡ true → (x : ℕ) × Mem x xs × (lit α x ≡ true)
holds_some α [] h = let z : ◌≡◌ {A = ℕ} 0 1 = cc in absurd (omega arith)
holds_some α (x ∷ xs) h =
    ⊎_elim (λ e. (x, inl refl, e)) (λ e. let k = holds_some α xs e in (k.0, inr k.1, k.2)) (or_cases (lit α x) (holds α xs) h)

some_holds : (α : ℕ → Bool) (xs : List ℕ) (x : ℕ) → Mem x xs → lit α x ≡ true → holds α xs ≡ true
some_holds α [] x m e = absurd m
some_holds α (y ∷ ys) x m e =
    ⊎_elim (λ s. or_left _ _ (ap (lit α) (sym s) ∙ e)) (λ k. or_right (lit α y) _ (some_holds α ys x k e)) m

plain : (α : ℕ → Bool) (p : ℕ) → lit α (2 * p) ≡ α p
plain α p =
    let r : (2 * p) % 2 ≡ 0 = omega arith in
    let h : (2 * p) / 2 ≡ p = omega arith in
    cond-true _ _ _ (eq-eqb _ _ r) ∙ ap α h

negated : (α : ℕ → Bool) (p : ℕ) → lit α (2 * p + 1) ≡ not (α p)
negated α p =
    let r : (2 * p + 1) % 2 ≡ 0 → ⊥ = λ e. omega arith in
    let h : (2 * p + 1) / 2 ≡ p = omega arith in
    cond-false _ _ _ (ne_eqb _ _ r) ∙ ap (λ v. not (α v)) h

not_both : (b : Bool) → b ≡ true → not b ≡ true → ⊥
not_both true h k = let z : ◌≡◌ {A = ℕ} 0 1 = cc in omega arith
not_both false h k = let z : ◌≡◌ {A = ℕ} 0 1 = cc in omega arith

-- the resolvent of two true clauses is true
pub resolvent_holds : (α : ℕ → Bool) (xs ys : List ℕ) (p : ℕ) (zs : List ℕ) → Clause xs → Clause ys → Resolves xs ys p zs → holds α xs ≡ true → holds α ys ≡ true → holds α zs ≡ true
resolvent_holds α xs ys p zs cx cy r hx hy =
    let (x, mx, tx) = holds_some α xs hx in
    let (y, my, ty) = holds_some α ys hy in
    ⊎_elim
    (λ (e : x / 2 ≡ p). ⊎_elim
    (λ (f : y / 2 ≡ p).
    let sx : x ≡ 2 * p = once xs x (2 * p) cx mx r.opposes.0 (omega arith) in
    let sy : y ≡ 2 * p + 1 = once ys y (2 * p + 1) cy my r.opposes.1 (omega arith) in
    absurd (not_both (α p) (sym (plain α p) ∙ subst (λ v. lit α v ≡ true) sx tx) (sym (negated α p) ∙ subst (λ v. lit α v ≡ true) sy ty)))
    (λ n. some_holds α zs y (r.every y (inr my) n) ty)
    (cases_eq (y / 2) p))
    (λ n. some_holds α zs x (r.every x (inl mx) n) tx)
    (cases_eq (x / 2) p)

-- ---- the lines of a derivation
module _ (q : List ℕ) (d : ℕ → List ℕ) where
  pub line_given : (k : ℕ) → k < clause_count q → line_of q d k ≡ clause_of q k
  line_given k h = cond-true _ _ _ (lt-ltb _ _ h)

  pub line_derived : (k : ℕ) → clause_count q ≤ k → line_of q d k ≡ d (k - clause_count q)
  line_derived k h = cond-false _ _ _ (le-ltb _ _ h)

abbrev pub Proper : List ℕ → Type 0
Proper q = (k : ℕ) → k < clause_count q → Clause (clause_of q k)

module _ (q t : List ℕ) (n : ℕ) (d : ℕ → List ℕ) (proper : Proper q) (steps : MakesAll q t n d) where
  pub lines_proper : (k : ℕ) → k < clause_count q + n → Clause (line_of q d k)
  lines_proper k l = ⊎_elim
      (λ (h : k < clause_count q). subst Clause (sym (line_given q d k h)) (proper k h))
      (λ (h : clause_count q ≤ k). subst Clause (sym (line_derived q d k h)) (steps (k - clause_count q) (omega arith)).resolves.proper)
      (cases_lt k (clause_count q))

  -- an assignment that satisfies the question makes each line true
  pub lines_hold : (α : ℕ → Bool) → Satisfies α q → (m k : ℕ) → k < m → m ≤ clause_count q + n → holds α (line_of q d k) ≡ true
  lines_hold α all zero k l below = absurd (omega arith)
  lines_hold α all (suc m) k l below = ⊎_elim
      (λ (h : k < clause_count q). ap (holds α) (line_given q d k h) ∙ all k h)
      (λ (h : clause_count q ≤ k).
      let i : ℕ = k - clause_count q in
      let it : Makes q d i (step_of t i) = steps i (omega arith) in
      let f : (step_of t i).first < clause_count q + i = it.earlier.0 in
      let g : (step_of t i).second < clause_count q + i = it.earlier.1 in
      ap (holds α) (line_derived q d k h)
      ∙ resolvent_holds α _ _ (step_of t i).pivot (d i) (lines_proper _ (omega arith)) (lines_proper _ (omega arith)) it.resolves
      (lines_hold α all m (step_of t i).first (omega arith) (omega arith)) (lines_hold α all m (step_of t i).second (omega arith) (omega arith)))
      (cases_lt k (clause_count q))

pub unsatisfiable : (q t : List ℕ) (d : ℕ → List ℕ) → Proper q → 1 ≤ step_count t → Derives q t d → Satisfiable q → ⊥
unsatisfiable q t d proper some der (α, all) =
    let s : ℕ = step_count t in
    let c : ℕ = clause_count q in
    let last : holds α (line_of q d (c + (s - 1))) ≡ true = lines_hold q t s d proper der.steps α all (c + s) (c + (s - 1)) (omega arith) (omega arith) in
    let place : c + (s - 1) - c ≡ s - 1 = omega arith in
    let is : line_of q d (c + (s - 1)) ≡ [] = line_derived q d (c + (s - 1)) (omega arith) ∙ ap d place ∙ der.empty in
    let z : false ≡ true = sym (ap (holds α) is) ∙ last in
    let y : ◌≡◌ {A = ℕ} 0 1 = cc in
    omega arith
