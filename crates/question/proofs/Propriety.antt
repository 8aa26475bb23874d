-- Every clause of a question is a clause over the question's variables. Assumes nothing.
use Rattle.std.proofs.Common.{◌≡◌, ℕ, ◌+◌, ◌*◌, ◌/◌, ◌<◌, ◌≤◌, List, subst, one-mul, zero-mul, arith}
use Rattle.std.specs.List.{AllByRecursion}
use Rattle.std.proofs.lemmas.Nat.{mul-add-lt, mul-le}
use Rattle.std.proofs.ByRecursion.{All-append}
use Rattle.sheet.specs.Sheets.{Sheet, sheet_of}
use Rattle.formula.specs.Conjunction.{opposite}
use Rattle.formula.specs.Formulas.{width, Formula, Gates}
use Rattle.formula.specs.Framing.{in_frame, in_question}
use Rattle.formula.proofs.Valued.{formula_opposite}
use Rattle.question.specs.Clauses.{state_clauses, first_clauses, second_clauses, path_clauses}
use Rattle.question.specs.Meaning.{Proper, StartProper, PathProper, InclusionProper}
use Rattle.question.proofs.Ascents.{Rising, path_rises, state_rises}
use Rattle.question.proofs.Parts.{all_both}
use Rattle.question.proofs.Variables.{Lawful, legal_lawful, Over, over_mem, NodesOf, FormulaNodes, formula_over, first_over, second_over, state_over}

pub all_proper : (v : ℕ) (cs : List (List ℕ)) → AllByRecursion Rising cs → AllByRecursion (Over (λ j. j < v)) cs → AllByRecursion (Proper v) cs
all_proper v =
    all_both Rising (Over (λ j. j < v)) (Proper v) (λ c rises over.
    record { some_literal = rises.0; ascends = rises.1; below = over_mem (λ j. j < v) c over })

module _ (s : Sheet) (lawful : Lawful s) (f : List ℕ) (n : ℕ) (gates : Gates s f n) where
  -- with m frames
  module _ (m : ℕ) where
    abbrev v : ℕ
    v = m * width s + n

    abbrev Below : ℕ → Type 0
    Below j = j < v

    nodes_below : (t : ℕ) → t < m → NodesOf Below s lawful t
    nodes_below t h j l = omega (arith, mul-add-lt t (width s) j m h l)

    formulas_below : 1 ≤ m → FormulaNodes Below s lawful m n
    formulas_below h =
        record {
          latches = λ i l. let one : width s ≤ m * width s = omega (arith, mul-le 1 (width s) m (width s) h (omega arith), one-mul (width s)) in omega arith;
          gates = λ g l. omega arith;
        }

    pub formula_below : 1 ≤ m → (x : ℕ) → Formula s n x → in_question (width s) m x / 2 < v
    formula_below h x is =
        formula_over Below s lawful m n x h (omega (arith, mul-le 1 (width s) m (width s) h (omega arith), one-mul (width s))) (formulas_below h) is

  pub path_all_proper : (r k : ℕ) → Formula s n r → AllByRecursion (Proper ((k + 2) * width s + n)) (path_clauses s f n r k)
  path_all_proper r k is =
      let m : ℕ = k + 2 in
      all_proper (v m) (path_clauses s f n r k) (path_rises s lawful f n gates r k)
      (All-append (Over (Below m)) (first_clauses s f n r k) (second_clauses s k)
      (first_over (Below m) s lawful f n gates r k is (nodes_below m 0 (omega arith))
      (λ i l. nodes_below m 1 (omega arith) (1 + s.inputs + i) (omega arith)) (formulas_below m (omega arith)))
      (second_over (Below m) s lawful f n gates k (λ t _ l. nodes_below m t (omega arith))))

  -- with one
  pub state_all_proper : (x y : ℕ) → in_question (width s) 1 x / 2 < width s + n → y / 2 < width s + n → AllByRecursion (Proper (width s + n)) (state_clauses s f n x y)
  state_all_proper x y a b =
      let one : v 1 ≡ width s + n = omega (arith, one-mul (width s)) in
      subst (λ (k : ℕ). AllByRecursion (Proper k) (state_clauses s f n x y)) one
      (all_proper (v 1) (state_clauses s f n x y) (state_rises s lawful f n gates x y)
      (state_over (Below 1) s lawful f n gates x y (nodes_below 1 0 (omega arith)) (formulas_below 1 (omega arith)) (omega arith) (omega arith)))

  pub formula_low : (x : ℕ) → Formula s n x → in_question (width s) 1 x / 2 < width s + n
  formula_low x is = omega (arith, formula_below 1 (omega arith) x is, one-mul (width s))

pub start_proper : StartProper
start_proper l f n r legal gates is =
    let s : Sheet = sheet_of l in
    let lawful = legal_lawful l legal in
    state_all_proper s lawful f n gates r (in_frame (width s) 0 s.bad) (formula_low s lawful f n gates r is)
    (let low : s.bad / 2 < width s = lawful.bads in omega (arith, zero-mul (width s)))

pub path_proper : PathProper
path_proper l f n r k legal gates is = path_all_proper (sheet_of l) (legal_lawful l legal) f n gates r k is

pub inclusion_proper : InclusionProper
inclusion_proper l f n p r legal gates a b =
    let s : Sheet = sheet_of l in
    let lawful = legal_lawful l legal in
    let other : Formula s n (opposite r) = formula_opposite s n r b in
    state_all_proper s lawful f n gates p (in_question (width s) 1 (opposite r))
    (formula_low s lawful f n gates p a) (formula_low s lawful f n gates (opposite r) other)
