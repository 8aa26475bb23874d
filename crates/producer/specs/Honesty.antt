-- What the splitting procedure does with questions. Assumes nothing.
use Rattle.std.specs.Prelude.{◌≡◌, ℕ, zero, suc, ◌+◌, ◌*◌, ◌^◌, ◌<◌, cond, ◌&&◌, List, [], ◌++◌, replicate, Some, None, Option, nat_le}
use Rattle.question.specs.Questions.{variable_count, clause_count, clause_of, IsQuestion}
use Rattle.answer.specs.Steps.{step_count}
use Rattle.producer.specs.Procedure.{is_false, End, Long, split_by, split, decided, reply_at, answer_at}
use Rattle.producer.specs.Replying.{Upheld}
use Rattle.producer.specs.declared.interface.Reply.TheVariants.{Refutation}

-- its replies are true
abbrev pub Honest : Type 0
Honest = (q : List ℕ) (n m : ℕ) → IsQuestion q → Upheld q (answer_at n (decided q n m)) m (reply_at (decided q n m))

-- a refutation has fewer steps than there are assignments
abbrev pub FewSteps : Type 0
FewSteps =
    (q : List ℕ) (n m : ℕ) → IsQuestion q → reply_at (decided q n m) ≡ Refutation → step_count (answer_at n (decided q n m)) < 2 ^ variable_count q

-- the lowest of the n clauses from k on that is false, whichever variable was set last
abbrev pub lowest_false : List ℕ → List ℕ → ℕ → ℕ → Option ℕ
lowest_false q numbers zero k = None
lowest_false q numbers (suc n) k = cond (is_false numbers (clause_of q k)) (Some k) (lowest_false q numbers n (k + 1))

abbrev pub lowest_false_at : List ℕ → List ℕ → ℕ → Option ℕ
lowest_false_at q a m = lowest_false q (a ++ replicate m 2) (clause_count q) 0

-- a branch ends as soon as any clause is false, at the lowest of those
abbrev pub EndsAtOnce : Type 0
EndsAtOnce =
    (q : List ℕ) (n : ℕ) → IsQuestion q → split q n (variable_count q) [] [] ≡ split_by (lowest_false_at q) q n (variable_count q) [] []

-- the plain rule: every branch ends at the lowest false clause, and what is too long is a step without room, an answer list
-- without a place for each variable, or a working list that is too short
abbrev pub ruled : List ℕ → ℕ → ℕ → End
ruled q n m =
    cond (nat_le (variable_count q) n && nat_le ((variable_count q + 4) * (variable_count q + 4)) m) (split_by (lowest_false_at q) q n (variable_count q) [] []) Long

abbrev pub ByTheRule : Type 0
ByTheRule = (q : List ℕ) (n m : ℕ) → IsQuestion q → decided q n m ≡ ruled q n m
