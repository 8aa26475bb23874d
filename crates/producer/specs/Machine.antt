-- The procedure as a machine: a stack of branches, and what is left to do with the end of the topmost one. Assumes nothing.
use Rattle.std.specs.Prelude.{◌≡◌, ℕ, zero, suc, ◌+◌, ◌-◌, ◌*◌, ◌^◌, ◌<◌, ◌≤◌, cond, List, [], ◌∷◌, ◌++◌, length, take, replicate, Some, None, Option, ◌==◌, ◌≢◌, slice_index, slice_index_or, slice_set}
use Rattle.producer.specs.declared.interface.Reply.{Reply}
use Rattle.producer.specs.declared.interface.Reply.TheVariants.{Assignment, Refutation, TooLong}
use Rattle.answer.specs.declared.steps.Step.{Step}
use Rattle.producer.specs.declared.split.State.{State}
use Rattle.std.specs.declared.ops.ControlFlow.{ControlFlow}
use Rattle.std.specs.declared.ops.ControlFlow.TheVariants.{Continue, Break}
use Rattle.question.specs.Questions.{clause_count}
use Rattle.producer.specs.Procedure.{mentions, End, Found, Closed, Long, after_one, after_zero, split, laid, answer_at}

-- a branch that is under way: a 0 branch, or a 1 branch with the line and the clause that its 0 branch ended at
pub data Frame : Type 0 where
  Zero : Frame
  One : ℕ → List ℕ → Frame

abbrev pub value : Frame → ℕ
value Zero = 0
value (One k c) = 1

-- the values set by a stack, the newest branch first in it
abbrev pub values : List Frame → List ℕ
values [] = []
values (f ∷ fs) = values fs ++ value f ∷ []

-- what the whole procedure gives for v variables, if the topmost branch ends at r
abbrev pub resume : List ℕ → ℕ → ℕ → List Frame → End → End
resume q n v [] r = r
resume q n v (Zero ∷ fs) r = resume q n v fs (after_zero (clause_count q) n (length (values fs)) (λ ts. split q n (v - suc (length fs)) (values fs ++ 1 ∷ []) ts) r)
resume q n v (One k c ∷ fs) r = resume q n v fs (after_one (clause_count q) n (length (values fs)) k c r)

-- a clause in the working list: a mark for each variable
abbrev pub mark : ℕ → List ℕ → ℕ
mark x c = cond (mentions x c) 1 0

abbrev pub Row : ℕ → List ℕ → ℕ → List ℕ → Type 0
Row v w from c = (x : ℕ) → x < v → slice_index w (from + x) ≡ mark x c

-- a stack in the working list: a row of values, a row of lines, then a row for each pending clause
abbrev pub Held : ℕ → List ℕ → ℕ → Frame → Type 0
Held v w d Zero = slice_index w d ≡ 0
Held v w d (One k c) = (slice_index w d ≡ 1) × (slice_index w (v + d) ≡ k) × Row v w ((d + 2) * v) c

abbrev pub Holds : ℕ → List ℕ → List Frame → Type 0
Holds v w [] = Unit {0}
Holds v w (f ∷ fs) = Held v w (length fs) f × Holds v w fs

-- the places of a stack of d branches hold the same in two working lists
pub record Agree (v d : ℕ) (w x : List ℕ) : Type 0 where
  pub values_same : (i : ℕ) → i < d → slice_index x i ≡ slice_index w i
  pub lines_same : (i : ℕ) → i < d → slice_index x (v + i) ≡ slice_index w (v + i)
  pub rows_same : (i : ℕ) → 2 * v ≤ i → i < (d + 2) * v → slice_index x i ≡ slice_index w i

-- the 0 branch of the variable d has ended at the line k, with the clause behind the rows, and its 1 branch begins
pub record Turned (v d k : ℕ) (w x : List ℕ) : Type 0 where
  pub value_is : slice_index_or x d 0 ≡ 1
  pub line_is : slice_index_or x (v + d) 0 ≡ k
  pub row_is : (i : ℕ) → i < v → slice_index x ((d + 2) * v + i) ≡ slice_index w ((v + 2) * v + i)
  pub below : Agree v d w x
  pub above : (i : ℕ) → d < i → i < v → slice_index x i ≡ slice_index w i

-- the variable d is not set any more, and what lies before the row of the line that ends the branch is as it was
pub record Unset (v d : ℕ) (w x : List ℕ) : Type 0 where
  pub value_is : slice_index_or x d 0 ≡ 2
  pub others : (i : ℕ) → i < (v + 2) * v → (i ≢ d) → slice_index x i ≡ slice_index w i

-- the clause of the record of the variable d is joined to that of the line that ends the branch
abbrev pub Joined : ℕ → ℕ → List ℕ → List ℕ → Type 0
Joined v d w x =
    (i : ℕ) → i < v → slice_index x ((v + 2) * v + i) ≡ cond (i == d) 0 (cond (slice_index w ((d + 2) * v + i) == 0) (slice_index w ((v + 2) * v + i)) 1)

-- what is left to do from a state gives the whole: a branch to go into, or a line that ends one, whose clause stands behind the rows
abbrev pub Going : List ℕ → ℕ → ℕ → List ℕ → List Frame → List Step → End → Option ℕ → Type 0
Going q n v w fs ss all None = resume q n v fs (split q n (v - length fs) (values fs) ss) ≡ all
Going q n v w fs ss all (Some k) = (c : List ℕ) × Row v w ((v + 2) * v) c × (resume q n v fs (Closed k c ss) ≡ all)

pub record Stood (q : List ℕ) (n v : ℕ) (w a : List ℕ) (s : State) (all : End) : Type 0 where
  pub stack : List Frame
  pub made : List Step
  pub depth_is : s.depth ≡ length stack
  pub steps_are : s.steps ≡ length made
  pub lies : a ≡ laid n made
  pub holds : Holds v w stack
  pub unset : (i : ℕ) → s.depth ≤ i → i < v → slice_index w i ≡ 2
  pub going : Going q n v w stack made all s.line

-- how many turns are left at most
abbrev pub cost : ℕ → ℕ
cost zero = 1
cost (suc m) = 2 * cost m + 3

abbrev pub owed : ℕ → List ℕ → ℕ → ℕ
owed v w zero = 0
owed v w (suc d) = owed v w d + cond (slice_index w d == 0) (cost (v - suc d) + 2) 1

abbrev pub ahead : ℕ → ℕ → Option ℕ → ℕ
ahead v d None = cost (v - d)
ahead v d (Some k) = 0

abbrev pub turns : ℕ → List ℕ → State → ℕ
turns v w s = owed v w s.depth + ahead v s.depth s.line

-- one turn of the machine: where it stands then, or what it replies
abbrev pub Moved : List ℕ → ℕ → ℕ → List ℕ → List ℕ → List ℕ → State → End → ControlFlow Reply State → Type 0
Moved q n v w x b s all (Continue t) = Stood q n v x b t all × (turns v x t < turns v w s) × (t.depth ≤ v) × (t.steps ≤ 16777216)
Moved q n v w x b s all (Break Assignment) = all ≡ Found (take v x)
Moved q n v w x b s all (Break Refutation) = (k : ℕ) × (c : List ℕ) × (ss : List Step) × (all ≡ Closed k c ss) × (b ≡ laid n ss) × (s.steps ≡ length ss)
Moved q n v w x b s all (Break TooLong) = all ≡ Long

-- what a turn can count on
pub record Ready (q : List ℕ) (v : ℕ) (w : List ℕ) (s : State) : Type 0 where
  pub room : (v + 4) * (v + 4) ≤ length w
  pub space : length w ≤ 2 ^ 28
  pub size : length q ≤ 2 ^ 28
  pub few : clause_count q ≤ length q
  pub under : s.depth ≤ v
  pub short : s.steps ≤ 16777216

-- the answer list by the reply, from the answer list a and the working list w at the end of a run
abbrev pub finished : List ℕ → List ℕ → ℕ → ℕ → Reply → List ℕ
finished a w v s Assignment = answer_at (length a) (Found (take v w))
finished a w v s Refutation = slice_set a 0 s
finished a w v s TooLong = replicate (length a) 0
