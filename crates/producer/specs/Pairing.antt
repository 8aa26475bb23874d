-- What a screened pair of producers does, by what each of the two may do. Assumes nothing.
use Rattle.std.specs.Prelude.{◌≡◌, ℕ, Bool, true, false, ◌⊎◌, List, take, is_ok}
use Rattle.lists.specs.Counted.{counted, on_counted}
use Rattle.question.specs.Questions.{variable_count}
use Rattle.answer.specs.Assignments.{judged}
use Rattle.answer.specs.Runs.{checked}
use Rattle.producer.specs.Replying.{Replies}
use Rattle.producer.specs.declared.interface.Reply.{Reply}
use Rattle.producer.specs.declared.interface.Reply.TheVariants.{Assignment, Refutation, TooLong}

-- whether a reply is accepted, and the working list after it is judged
abbrev pub screened : List ℕ → List ℕ → List ℕ → Reply → Bool × List ℕ
screened q a w Assignment = (is_ok (judged (counted q) (take (variable_count (counted q)) (counted a))), w)
screened q a w Refutation = (is_ok (on_counted (checked (counted q) (counted a)) w).0, (on_counted (checked (counted q) (counted a)) w).1)
screened q a w TooLong = (false, w)

-- the first replies r1 with the lists a1 and w1; if that is accepted it is the pair's reply, else the second is asked
pub record Paired {S T : Type 0} (R1 : Replies S) (R2 : Replies T) (s : S) (t : T) (q a w : List ℕ) (r : Reply) (a' w' : List ℕ) (s' : S) (t' : T) : Type 0 where
  pub reply : Reply
  pub list : List ℕ
  pub work : List ℕ
  pub first : R1 s q a w reply list work s'
  pub then :
      (((screened q list work reply).0 ≡ true) × (r ≡ reply) × (a' ≡ list) × (w' ≡ (screened q list work reply).1) × (t' ≡ t))
      ⊎ (((screened q list work reply).0 ≡ false) × R2 t q list (screened q list work reply).1 r a' w' t')
