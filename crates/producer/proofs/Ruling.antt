-- On a question the procedure ends a branch as soon as any clause is false. Assumes nothing.
use Rattle.std.proofs.Common.{◌≡◌, ℕ, zero, suc, ◌+◌, ◌*◌, ◌≤◌, Bool, true, false, cond, ◌&&◌, leb, List, [], ◌∷◌, ◌++◌, length, replicate, Some, None, Option, refl, ap, ◌∙◌, arith}
use Rattle.std.proofs.lemmas.List.{length_push}
use Rattle.std.proofs.lemmas.Bool.{le-leb}
use Rattle.question.specs.Questions.{variable_count, clause_count, clause_of, IsQuestion}
use Rattle.answer.specs.declared.steps.Step.{Step}
use Rattle.producer.specs.Honesty.{lowest_false, lowest_false_at, ruled}
use Rattle.producer.specs.Procedure.{is_false, lowest, lowest_at, End, Found, Long, after_zero, closing, split_by, split, roomy, decided}
use Rattle.producer.proofs.Places.{few_clauses}
use Rattle.producer.proofs.Falsity.{Clear, clear_none, Before, before_next, clear_from, closes_all}

closing_same : (q : List ℕ) (ss : List Step) (x y : End) (o : Option ℕ) → (o ≡ None → x ≡ y) → closing q ss x o ≡ closing q ss y o
closing_same q ss x y None h = h refl
closing_same q ss x y (Some k) h = refl

and_true : (b : Bool) → (b && true) ≡ b
and_true true = refl
and_true false = refl

module _ (q : List ℕ) (is : IsQuestion q) where
  module _ (a : List ℕ) (m : ℕ) (all : length a + m ≡ variable_count q) (before : Before q is a) where
    lowest_all : (n k : ℕ) → k + n ≤ clause_count q → lowest q (a ++ replicate m 2) (length a) n k ≡ lowest_false q (a ++ replicate m 2) n k
    lowest_all zero k h = refl
    lowest_all (suc n) k h =
        ap (λ b. cond b (Some k) (lowest q (a ++ replicate m 2) (length a) n (k + 1))) (closes_all q is a m all before k (omega arith))
        ∙ ap (cond (is_false (a ++ replicate m 2) (clause_of q k)) (Some k)) (lowest_all n (k + 1) (omega arith))

    lowest_same : lowest_at q a m ≡ lowest_false_at q a m
    lowest_same = lowest_all (clause_count q) 0 (omega arith)

  module _ (n : ℕ) where
    abbrev plain : ℕ → List ℕ → List Step → End
    plain m a ss = split_by (lowest_false_at q) q n m a ss

    split_plain : (m : ℕ) (a : List ℕ) (ss : List Step) → length a + m ≡ variable_count q → Before q is a → split q n m a ss ≡ plain m a ss
    split_plain zero a ss all before = ap (closing q ss (Found a)) (lowest_same a zero all before)
    split_plain (suc m) a ss all before =
        closing_same q ss _ _ (lowest_at q a (suc m))
        (λ none.
        let clear : Clear q a = clear_from q is a (suc m) all before none in
        let zeros = split_plain m (a ++ 0 ∷ []) ss (omega (arith, length_push a 0)) (before_next q is a 0 clear) in
        let ones : (ts : List Step) → split q n m (a ++ 1 ∷ []) ts ≡ plain m (a ++ 1 ∷ []) ts =
        λ ts. split_plain m (a ++ 1 ∷ []) ts (omega (arith, length_push a 1)) (before_next q is a 1 clear) in
        λ i. after_zero (clause_count q) n (length a) (λ ts. ones ts i) (zeros i))
        ∙ ap (closing q ss _) (lowest_same a (suc m) all before)

    pub ends_at_once : split q n (variable_count q) [] [] ≡ plain (variable_count q) [] []
    ends_at_once = split_plain (variable_count q) [] [] (omega arith) (λ k l _. clear_none q is k l)

    module _ (m : ℕ) where
      abbrev side : ℕ
      side = variable_count q + 4

      roomy_plain : roomy q n m ≡ (leb (variable_count q) n && leb (side * side) m)
      roomy_plain =
          ap (λ b. leb (variable_count q) n && (leb (side * side) m && b)) (le-leb (clause_count q) (length q) (few_clauses q is))
          ∙ ap (λ b. leb (variable_count q) n && b) (and_true (leb (side * side) m))

      pub by_the_rule : decided q n m ≡ ruled q n m
      by_the_rule = λ i. cond (roomy_plain i) (ends_at_once i) Long
