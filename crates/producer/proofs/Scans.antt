-- Clauses of a question in full, and which of them ends a branch. Assumes nothing.
use Rattle.std.specs.List.{find, range_with_len}
use Rattle.std.proofs.Common.{zero, ◌≡◌, ℕ, suc, ◌+◌, ◌^◌, ◌≤◌, Bool, true, false, cond, not, ◌&&◌, List, length, Some, sym, refl, ap, ◌∙◌, arith}
use Rattle.lists.specs.Counted.{counted}
use Rattle.signal.specs.Circuit.{clause_of as value_of}
use Rattle.signal.specs.Kinds.{tri_ops, may_tri}
use Rattle.question.specs.Questions.{variable_count, clause_count, clause_of}
use Rattle.answer.proofs.Judging.{counted_all, span_few}
use Rattle.producer.specs.Procedure.{is_due, is_false, closes, lowest}

-- of a question that is short enough every place counts
pub whole_clause : (q : List ℕ) (k : ℕ) → length q ≤ 2 ^ 28 → clause_of (counted q) k ≡ clause_of q k
whole_clause q k size = ap (λ u. clause_of u k) (counted_all q size)

pub whole_counts : (q : List ℕ) → length q ≤ 2 ^ 28 → (variable_count (counted q) ≡ variable_count q) × (clause_count (counted q) ≡ clause_count q)
whole_counts q size = (ap variable_count (counted_all q size), ap clause_count (counted_all q size))

module _ (q numbers c : List ℕ) (d k : ℕ) (size : length q ≤ 2 ^ 28) (short : length numbers ≤ 2 ^ 28) (is : c ≡ clause_of (counted q) k) where
  read : c ≡ clause_of q k
  read = is ∙ whole_clause q k size

  pub closes_due : (r : Bool) → is_due d c ≡ true → r ≡ not (may_tri (value_of tri_ops (counted numbers) (counted c)) 0 true) →
      r ≡ closes numbers d (clause_of q k)
  closes_due r due told =
      let zero : List ℕ → List ℕ → Bool = λ u x. not (may_tri (value_of tri_ops u x) 0 true) in
      let few : length c ≤ 2 ^ 28 = omega (arith, size, ap length read, span_few q (3 + k)) in
      told
      ∙ ap (λ u. zero u (counted c)) (counted_all numbers short)
      ∙ ap (zero numbers) (counted_all c few)
      ∙ sym (ap (λ b. b && zero numbers c) due)
      ∙ ap (closes numbers d) read

  pub closes_not_due : is_due d c ≡ false → is_due d c ≡ closes numbers d (clause_of q k)
  closes_not_due due = due ∙ sym (ap (λ b. b && is_false numbers c) due) ∙ ap (closes numbers d) read

pub finds_lowest : (q numbers : List ℕ) (d n k : ℕ) → find (λ (i : ℕ). closes numbers d (clause_of q i)) (range_with_len k n) ≡ lowest q numbers d n k
finds_lowest q numbers d zero k = refl
finds_lowest q numbers d (suc n) k = ap (cond (closes numbers d (clause_of q k)) (Some k)) (finds_lowest q numbers d n (k + 1))
