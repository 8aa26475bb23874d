-- The splitting procedure: variables are set in order, to 0 first. Assumes nothing.
use Rattle.std.specs.Prelude.{ℕ, zero, suc, ◌+◌, ◌-◌, ◌*◌, ◌/◌, Bool, true, false, cond, not, ◌&&◌, List, [], ◌∷◌, ◌++◌, length, replicate, Some, None, Option, ◌==◌, nat_le, nat_lt, slice_index, slice_set}
use Rattle.lists.specs.Counted.{counted, uncounted}
use Rattle.signal.specs.Circuit.{clause_of as value_of}
use Rattle.signal.specs.Kinds.{tri_ops, may_tri}
use Rattle.question.specs.Questions.{variable_count, clause_count, clause_of}
use Rattle.answer.specs.Joint.{joint}
use Rattle.answer.specs.declared.steps.Step.{Step}
use Rattle.producer.specs.declared.interface.Reply.{Reply}
use Rattle.producer.specs.declared.interface.Reply.TheVariants.{Assignment, Refutation, TooLong}

-- whether a clause has a variable
abbrev pub mentions : ℕ → List ℕ → Bool
mentions d [] = false
mentions d (x ∷ xs) = cond (x / 2 == d) true (mentions d xs)

-- whether the last literal of a clause is of the variable that was set last, where d variables are set. A clause of a question
-- is not false before that, so that looking at no others changes nothing there (ByTheRule in Honesty)
abbrev pub is_due : ℕ → List ℕ → Bool
is_due d c = nat_lt 0 (length c) && slice_index c (length c - 1) / 2 + 1 == d

-- whether a clause is false, where the numbers are those of the variables, 2 for one that is not set
abbrev pub is_false : List ℕ → List ℕ → Bool
is_false numbers c = not (may_tri (value_of tri_ops numbers c) 0 true)

-- whether a clause has become false as the last of d variables was set
abbrev pub closes : List ℕ → ℕ → List ℕ → Bool
closes numbers d c = is_due d c && is_false numbers c

-- the lowest of the n clauses from k on that has become false
abbrev pub lowest : List ℕ → List ℕ → ℕ → ℕ → ℕ → Option ℕ
lowest q numbers d zero k = None
lowest q numbers d (suc n) k = cond (closes numbers d (clause_of q k)) (Some k) (lowest q numbers d n (k + 1))

-- the same where the first variables have the values a, and m variables are not set
abbrev pub lowest_at : List ℕ → List ℕ → ℕ → Option ℕ
lowest_at q a m = lowest q (a ++ replicate m 2) (length a) (clause_count q) 0

-- how a branch ends: at an assignment, at a line with its clause and the steps so far (the newest first), or for want of room
pub data End : Type 0 where
  Found : List ℕ → End
  Closed : ℕ → List ℕ → List Step → End
  Long : End

-- whether a step after s steps has room in an answer list of n places
abbrev pub fits : ℕ → ℕ → Bool
fits n s = nat_le (s + 1) 16777216 && nat_le (1 + 3 * (s + 1)) n

-- a new line, from the lines k and l on the variable d
abbrev pub resolved : ℕ → ℕ → ℕ → ℕ → List ℕ → ℕ → List ℕ → List Step → End
resolved own n d k c l e ss =
    cond (fits n (length ss)) (Closed (own + length ss) (joint c e d) (record { first = k; second = l; pivot = d } ∷ ss)) Long

-- after the 1 branch of the variable d, whose 0 branch ended at the line k with the clause c
abbrev pub after_one : ℕ → ℕ → ℕ → ℕ → List ℕ → End → End
after_one own n d k c (Found a) = Found a
after_one own n d k c (Closed l e ss) = cond (mentions d e) (resolved own n d k c l e ss) (Closed l e ss)
after_one own n d k c Long = Long

-- after the 0 branch of the variable d: if its clause lacks the variable it stands, else the 1 branch is tried
abbrev pub after_zero : ℕ → ℕ → ℕ → (List Step → End) → End → End
after_zero own n d other (Found a) = Found a
after_zero own n d other (Closed k c ss) = cond (mentions d c) (after_one own n d k c (other ss)) (Closed k c ss)
after_zero own n d other Long = Long

-- a branch whose lowest false clause is given, or that is open
abbrev pub closing : List ℕ → List Step → End → Option ℕ → End
closing q ss more None = more
closing q ss more (Some k) = Closed k (clause_of q k) ss

-- the branch with the values a, with m variables to set, the steps so far, and an answer list of n places; `low a m` is the
-- clause that ends it, if one does
abbrev pub split_by : (List ℕ → ℕ → Option ℕ) → List ℕ → ℕ → ℕ → List ℕ → List Step → End
split_by low q n zero a ss = closing q ss (Found a) (low a zero)
split_by low q n (suc m) a ss =
    closing q ss
    (after_zero (clause_count q) n (length a) (λ ts. split_by low q n m (a ++ 1 ∷ []) ts) (split_by low q n m (a ++ 0 ∷ []) ss))
    (low a (suc m))

abbrev pub split : List ℕ → ℕ → ℕ → List ℕ → List Step → End
split q n m a ss = split_by (lowest_at q) q n m a ss

-- whether an answer list of n places and a working list of m places do. What says that it has more clauses than places is no
-- question, and is not begun
abbrev pub roomy : List ℕ → ℕ → ℕ → Bool
roomy q n m = nat_le (variable_count q) n && (nat_le ((variable_count q + 4) * (variable_count q + 4)) m && nat_le (clause_count q) (length q))

abbrev pub decided : List ℕ → ℕ → ℕ → End
decided q n m = cond (roomy q n m) (split q n (variable_count q) [] []) Long

-- a list of n places with the steps from place 1 on
abbrev pub put : List ℕ → ℕ → Step → List ℕ
put a i t = slice_set (slice_set (slice_set a (3 * i + 1) t.first) (3 * i + 2) t.second) (3 * i + 3) t.pivot

abbrev pub laid : ℕ → List Step → List ℕ
laid n [] = replicate n 0
laid n (t ∷ ss) = put (laid n ss) (length ss) t

-- what is replied, and what an answer list of n places holds then
abbrev pub reply_at : End → Reply
reply_at (Found a) = Assignment
reply_at (Closed k c ss) = Refutation
reply_at Long = TooLong

abbrev pub answer_at : ℕ → End → List ℕ
answer_at n (Found a) = a ++ replicate (n - length a) 0
answer_at n (Closed k c ss) = slice_set (laid n ss) 0 (length ss)
answer_at n Long = replicate n 0

-- the reply, and what both lists hold then, of n and m places
abbrev pub splitting : List ℕ → ℕ → ℕ → Reply × List ℕ × List ℕ
splitting q n m = (reply_at (decided q n m), answer_at n (decided q n m), replicate m 0)

-- the same of whole lists, of which the first places count
abbrev pub splits : List ℕ → List ℕ → List ℕ → Reply × List ℕ × List ℕ
splits q a w =
    let k = splitting (counted q) (length (counted a)) (length (counted w)) in
    (k.0, k.1 ++ uncounted a, k.2 ++ uncounted w)
