-- The start and the end of a run. Assumes nothing.
use Rattle.std.proofs.Common.{◌≡◌, ℕ, ◌+◌, ◌-◌, ◌*◌, ◌^◌, ◌<◌, ◌≤◌, true, leb, List, [], ◌++◌, length, get_or, take, drop, set, replicate, None, sym, ap, ◌∙◌, subst, arith, length-drop}
use Rattle.std.proofs.lemmas.List.{length-take-le, length-append, length-replicate, get_or_append_left, get_or-replicate}
use Rattle.std.proofs.lemmas.Bool.{cond-true, and_parts, leb-true}
use Rattle.producer.specs.declared.interface.Reply.{Reply}
use Rattle.producer.specs.declared.interface.Reply.TheVariants.{Assignment, Refutation, TooLong}
use Rattle.producer.specs.declared.split.State.{State}
use Rattle.std.specs.declared.ops.ControlFlow.{ControlFlow}
use Rattle.std.specs.declared.ops.ControlFlow.TheVariants.{Break}
use Rattle.question.specs.Questions.{variable_count, clause_count}
use Rattle.producer.specs.Procedure.{End, Found, split, roomy, decided, laid, reply_at, answer_at, splitting}
use Rattle.lists.specs.Counted.{counted}
use Rattle.producer.proofs.Scans.{whole_counts}
use Rattle.producer.proofs.Stacks.{rows_fit, row_low}
use Rattle.producer.specs.Machine.{Going, Stood, Moved, finished}

pub start : (q : List ℕ) (n v : ℕ) (w a : List ℕ) (s : State) → a ≡ replicate n 0 → ((i : ℕ) → i < v → get_or w i 0 ≡ 2) → (s.depth ≡ 0) × ((s.steps ≡ 0) × (s.line ≡ None)) →
    Stood q n v w a s (split q n v [] [])
start q n v w a s blank unset first =
    let z : v - 0 ≡ v = omega arith in
    let all : End = split q n v [] [] in
    record {
      stack = [];
      made = [];
      depth_is = first.0;
      steps_are = first.1.0;
      lies = blank;
      holds = tt;
      unset = λ i l m. unset i m;
      going = subst (Going q n v w [] [] all) (sym first.1.1) (ap (λ k. split q n k [] []) z);
    }

module _ (q : List ℕ) (n v : ℕ) (w x b : List ℕ) (s : State) (all : End) (long : length b ≡ n) where
  pub done_reply : (r : Reply) → Moved q n v w x b s all (Break r) → r ≡ reply_at all
  done_reply Assignment e = ap reply_at (sym e)
  done_reply Refutation e = ap reply_at (sym e.3)
  done_reply TooLong e = ap reply_at (sym e)

  pub done_answer : (r : Reply) → Moved q n v w x b s all (Break r) → finished b x v s.steps r ≡ answer_at n all
  done_answer Assignment e = ap (λ k. answer_at k (Found (take v x))) long ∙ ap (answer_at n) (sym e)
  done_answer Refutation e = ap (λ u. set u 0 s.steps) e.4 ∙ ap (set (laid n e.2) 0) e.5 ∙ ap (answer_at n) (sym e.3)
  done_answer TooLong e = ap (λ k. replicate k 0) long ∙ ap (answer_at n) (sym e)

pub roomy_parts : (q : List ℕ) (n m : ℕ) → roomy q n m ≡ true → (variable_count q ≤ n) × ((variable_count q + 4) * (variable_count q + 4) ≤ m) × (clause_count q ≤ length q)
roomy_parts q n m h =
    let v = variable_count q in
    let a = and_parts (leb v n) _ h in
    let b = and_parts (leb ((v + 4) * (v + 4)) m) (leb (clause_count q) (length q)) a.1 in
    (leb-true v n a.0, leb-true ((v + 4) * (v + 4)) m b.0, leb-true (clause_count q) (length q) b.1)

-- a turn, told at the length that the answer list had at the start
pub moved_at : (q : List ℕ) (v : ℕ) (w x a b : List ℕ) (s : State) (all : End) (r : ControlFlow Reply State) (n : ℕ) → length a ≡ n → Stood q n v w a s all → ((e : End) → Stood q (length a) v w a s e → Moved q (length a) v w x b s e r) → Moved q n v w x b s all r
moved_at q v w x a b s all r n e st h = subst (λ k. Moved q k v w x b s all r) e (h all (subst (λ k. Stood q k v w a s all) (sym e) st))

-- ---- the row of values, with 2 in it
pub refilled : (w f : List ℕ) (v : ℕ) → v ≤ length w → f ≡ replicate (length (take v w)) 2 →
    (length (f ++ drop v w) ≡ length w) × ((i : ℕ) → i < v → get_or (f ++ drop v w) i 0 ≡ 2)
refilled w f v long is =
    let size : length (take v w) ≡ v = length-take-le v w long in
    let all : length f ≡ v = ap length is ∙ length-replicate (length (take v w)) 2 ∙ size in (
      omega (arith, length-append f (drop v w), length-drop v w),
      λ i l. get_or_append_left f (drop v w) 0 i (omega arith) ∙ ap (λ u. get_or u i 0) is ∙ get_or-replicate (length (take v w)) i 2 0 (omega arith),
    )

-- where there is room to begin, the row of values lies in the working list
pub values_fit : (q : List ℕ) (n m v : ℕ) → length q ≤ 2 ^ 28 → v ≡ variable_count (counted q) → roomy q n m ≡ true → (v ≡ variable_count q) × (v ≤ m)
values_fit q n m v size is room =
    let all : v ≡ variable_count q = is ∙ (whole_counts q size).0 in
    (all, omega (arith, (roomy_parts q n m room).1, rows_fit v, row_low v v))

-- ---- the whole, from its parts
module _ (q : List ℕ) (n m : ℕ) where
  pub begun : (r : Reply) (a : List ℕ) (v : ℕ) → v ≡ variable_count q → roomy q n m ≡ true → r ≡ reply_at (split q n v [] []) → a ≡ answer_at n (split q n v [] []) →
      (r ≡ (splitting q n m).0) × (a ≡ (splitting q n m).1)
  begun r a v all room replies answers =
      let same : split q n v [] [] ≡ decided q n m = ap (λ k. split q n k [] []) all ∙ sym (cond-true _ _ _ room) in
      (replies ∙ ap reply_at same, answers ∙ ap (answer_at n) same)
