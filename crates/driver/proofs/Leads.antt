-- Where driving a check leads. Assumes nothing.
use Rattle.std.proofs.Common.{◌≡◌, ℕ, ◌+◌, ◌^◌, Bool, true, ◌⊎◌, List, [], length, take, Ok, Err, Result, sym, refl, ap, ◌∙◌, subst, inl, inr, arith, length-take}
use Rattle.std.proofs.lemmas.List.{take_all}
use Rattle.lists.specs.Counted.{counted}
use Rattle.lists.proofs.Taken.{take_min}
use Rattle.sheet.specs.Faults.{fault}
use Rattle.sheet.specs.declared.fault.Cause.TheVariants.{NoAnswer}
use Rattle.sheet.specs.declared.fault.Fault.{Fault}
use Rattle.sheet.specs.declared.fault.Layer.TheVariants.{Run, Assignment as OfAssignment, Refutation as OfRefutation}
use Rattle.question.specs.Questions.{variable_count, IsQuestion}
use Rattle.answer.specs.Assignments.{judged}
use Rattle.answer.specs.Reasons.{RefutationReasoned}
use Rattle.answer.specs.Runs.{checked}
use Rattle.answer.proofs.Faulting.{judged_reasoned}
use Rattle.answer.proofs.Verdicts.{check_reasoned}
use Rattle.producer.specs.Replying.{Replies, Stands, Upheld}
use Rattle.producer.specs.declared.interface.Reply.{Reply}
use Rattle.producer.specs.declared.interface.Reply.TheVariants.{Assignment, Refutation, TooLong}
use Rattle.checker.specs.declared.Asked.{Asked}
use Rattle.checker.specs.declared.Weighed.{Weighed}
use Rattle.checker.specs.declared.Ended.{Ended}
use Rattle.checker.specs.declared.Moved.{Moved}
use Rattle.checker.specs.declared.Refused.{Refused}
use Rattle.checker.specs.Lists.{Lists}
use Rattle.checker.specs.Calls.{fetched, showing, shown, weighing, weighed}
use Rattle.checker.specs.Guarantees.{Decided}
use Rattle.checker.specs.Promises.{ShownTo, WeighedTo}
use Rattle.checker.specs.Series.{at_asked, at_ended, reached, Series}
use Rattle.checker.proofs.Guaranteeing.{goes_on as goes-on-all, count_is_true, standing_question}
use Rattle.driver.specs.Driving.{Marked, Turn, assignment_in, weighed_turn, answered, Asking, Driven, stops, ends, goes}
use Rattle.driver.specs.Guarantee.{OnSeries, Unanswered, HonestEnd, SaysTooLong}

-- ---- the assignment is the front of the answer list
front_few : (v : ℕ) (b : List ℕ) → counted (take v (counted b)) ≡ take v (counted b)
front_few v b = take_all (2 ^ 28) (take v (counted b)) (omega (arith, length-take v (counted b), length-take (2 ^ 28) b))

front_again : (v : ℕ) (ys : List ℕ) → take (length (take v ys)) ys ≡ take v ys
front_again v ys = take_min ys v (length (take v ys)) (omega (arith, length-take v ys))

front_of : (v : ℕ) (b : List ℕ) → take (length (counted (take v (counted b)))) (counted b) ≡ counted (take v (counted b))
front_of v b =
    subst (λ (ys : List ℕ). take (length ys) (counted b) ≡ ys) (sym (front_few v b)) (front_again v (counted b))

-- ---- a turn leads from a series to a series
abbrev Led : List ℕ → ℕ → ℕ → Lists → ℕ → List ℕ → Turn → Type 0
Led l K Q x n b p =
    elim p.0 [
      | Ok m ↦ ((xs : List ℕ) × Series l K Q (reached m xs) p.1 (n + 1) × (take (length xs) (counted b) ≡ xs))
      | Err r ↦ Series l K Q (at_asked r.asked) p.1 n
    ]

module _ (l : List ℕ) (K Q : ℕ) (a : Asked) (x : Lists) (n : ℕ) (s : Series l K Q (at_asked a) x n) where
  shown_led : (b w : List ℕ) (v : ℕ) (r : Result Moved Refused) (x' : Lists) → ShownTo l K Q n (take v (counted b)) r x' → Led l K Q x n b (r, x', w)
  shown_led b w v (Ok m) x' h = (counted (take v (counted b)), h, front_of v b)
  shown_led b w v (Err r) x' h = h

  weighed_led : (b w : List ℕ) (o : Result Weighed Refused) → WeighedTo l K Q x n b o → Led l K Q x n b (weighed_turn l b x o w)
  weighed_led b w (Ok d) h = ([], (goes-on-all l K Q).takes d x n b h, refl)
  weighed_led b w (Err r) h = h

  turn_led : (reply : Reply) (b w : List ℕ) → Led l K Q x n b (answered l a reply b w x)
  turn_led Assignment b w =
      let xs = assignment_in a x b in
      let p = shown l a xs x in
      shown_led b w (variable_count (counted (fetched a x.question))) p.0 p.1 ((goes-on-all l K Q).shows a x n xs s)
  turn_led Refutation b w =
      let p = weighed a x.question b w in
      weighed_led b p.1 p.0 ((goes-on-all l K Q).weighs a x n b w s)
  turn_led TooLong b w = s

-- ---- and so does the whole drive
module _ {S : Type 0} (R : Replies S) (l : List ℕ) (K Q : ℕ) where
  asking_led : (a : Asked) (x : Lists) (n : ℕ) → Series l K Q (at_asked a) x n → (b w : List ℕ) (s : S) (t : Result Moved Refused) (x' : Lists) (b' w' : List ℕ) (s' : S)
      → Asking R l a x b w s t x' b' w' s' → Led l K Q x n b' (t, x', w')
  asking_led a x n series b w s t x' b' w' s' h = subst (Led l K Q x n b') (sym h.comes) (turn_led l K Q a x n series h.reply b' h.work)

  pub on_series : {a : Asked} {x : Lists} {b w : List ℕ} {s : S} {o : Result Ended Refused} {x' : Lists} {b' w' : List ℕ} {s' : S} (n : ℕ) → Series l K Q (at_asked a) x n
      → Driven R l a x b w s o x' b' w' s' → OnSeries l K Q o x' b'
  on_series n series (stops h) = (n, asking_led _ _ n series _ _ _ _ _ _ _ _ h)
  on_series n series (ends h) = let led = asking_led _ _ n series _ _ _ _ _ _ _ _ h in (led.0, n + 1, led.1, led.2)
  on_series n series (goes h rest) = on_series (n + 1) (asking_led _ _ n series _ _ _ _ _ _ _ _ h).1 rest

-- ---- an honest producer's turn is refused only beyond its mark
abbrev Excused : List ℕ → ℕ → ℕ → List ℕ → Turn → Type 0
Excused l K Q b p = elim p.0 [ Ok m ↦ Unit {0} | Err r ↦ Unanswered l K Q r p.1 b p.2 ]

module _ (l : List ℕ) (K Q : ℕ) (a : Asked) (x : Lists) (n : ℕ) (s : Series l K Q (at_asked a) x n) where
  abbrev q : List ℕ
  q = counted (fetched a x.question)

  is_asked : IsQuestion q
  is_asked = standing_question l K Q a x n s

  shown_excused : (b w : List ℕ) (o : Result (Unit {0}) Fault) → o ≡ Ok tt → Excused l K Q b ((showing o l a (assignment_in a x b) x).0, (showing o l a (assignment_in a x b) x).1, w)
  shown_excused b w (Ok _) is = tt
  shown_excused b w (Err f) is = let z : ◌≡◌ {A = ℕ} 0 1 = cc in absurd (omega arith)

  weighed_excused : (b w : List ℕ) (o : Result (Unit {0}) Fault) → Stands o → Excused l K Q b (weighed_turn l b x (weighing o a) w)
  weighed_excused b w (Ok _) h = tt
  weighed_excused b w (Err f) h = record { turns = n; series = s; why = inl h }

  excused : (reply : Reply) (b w : List ℕ) → Upheld q (counted b) (length (counted w)) reply → Excused l K Q b (answered l a reply b w x)
  excused Assignment b w h =
      shown_excused b w (judged q (counted (assignment_in a x b))) (ap (judged q) (front_few (variable_count q) b) ∙ h)
  excused Refutation b w h = weighed_excused b _ (checked q (counted b) (counted w)).0 (h (counted w))
  excused TooLong b w h = record { turns = n; series = s; why = inr (ap (λ (i : ℕ). fault Run NoAnswer i) (count_is_true l K Q (at_asked a) x n s), h) }

  -- ---- a refusal of the run's own layer comes of no answer
  abbrev Own : Turn → Type 0
  Own p = elim p.0 [ Ok m ↦ Unit {0} | Err r ↦ (r.fault.layer ≡ Run → ⊥) ]

  shown_own : (b w : List ℕ) (o : Result (Unit {0}) Fault) → o ≡ judged q (counted (assignment_in a x b))
      → Own ((showing o l a (assignment_in a x b) x).0, (showing o l a (assignment_in a x b) x).1, w)
  shown_own b w (Ok _) is = tt
  shown_own b w (Err f) is = λ e.
      let layer : f.layer ≡ OfAssignment = (judged_reasoned q (counted (assignment_in a x b)) (Err f) is).0 in
      let z : ◌≡◌ {A = ℕ} 0 1 = cc in omega arith

  weighed_own : (b v w : List ℕ) (o : Result (Unit {0}) Fault) → o ≡ (checked q (counted b) v).0 → Own (weighed_turn l b x (weighing o a) w)
  weighed_own b v w (Ok _) is = tt
  weighed_own b v w (Err f) is = λ e.
      let layer : f.layer ≡ OfRefutation = (subst (RefutationReasoned q (counted b) (length v)) (sym is) (check_reasoned q (counted b) v is_asked)).0 in
      let z : ◌≡◌ {A = ℕ} 0 1 = cc in omega arith

  own : (reply : Reply) (b w : List ℕ) → (reply ≡ TooLong) ⊎ Own (answered l a reply b w x)
  own Assignment b w = inr (shown_own b w (judged q (counted (assignment_in a x b))) refl)
  own Refutation b w = inr (weighed_own b (counted w) _ (checked q (counted b) (counted w)).0 refl)
  own TooLong b w = inl refl

-- ---- along the whole drive
module _ {S : Type 0} (R : Replies S) (honest : Bool) (l : List ℕ) (K Q : ℕ) where
  asking_excused : honest ≡ true → (a : Asked) (x : Lists) (n : ℕ) → Series l K Q (at_asked a) x n
      → (b w : List ℕ) (s : S) (t : Result Moved Refused) (x' : Lists) (b' w' : List ℕ) (s' : S)
      → Asking (Marked R honest) l a x b w s t x' b' w' s' → Excused l K Q b' (t, x', w')
  asking_excused is a x n series b w s t x' b' w' s' h =
      subst (Excused l K Q b') (sym h.comes)
      (excused l K Q a x n series h.reply b' h.work (h.replies.1.word is (is_asked l K Q a x n series)))

  pub honest_end : honest ≡ true → ((e : Ended) (xs : List ℕ) (x : Lists) (n : ℕ) → Series l K Q (at_ended e xs) x n → Decided e)
      → {a : Asked} {x : Lists} {b w : List ℕ} {s : S} {o : Result Ended Refused} {x' : Lists} {b' w' : List ℕ} {s' : S} (n : ℕ) → Series l K Q (at_asked a) x n
      → Driven (Marked R honest) l a x b w s o x' b' w' s' → HonestEnd l K Q o x' b' w'
  honest_end is decide n series (stops h) = asking_excused is _ _ n series _ _ _ _ _ _ _ _ h
  honest_end is decide n series (ends {x' = y} {e = e} h) =
      let led = asking_led (Marked R honest) l K Q _ _ n series _ _ _ _ _ _ _ _ h in
      decide e led.0 y (n + 1) led.1
  honest_end is decide n series (goes h rest) =
      honest_end is decide (n + 1) (asking_led (Marked R honest) l K Q _ _ n series _ _ _ _ _ _ _ _ h).1 rest

  asking_said : (a : Asked) (x : Lists) (n : ℕ) → Series l K Q (at_asked a) x n → (b w : List ℕ) (s : S) (r : Refused) (x' : Lists) (b' w' : List ℕ) (s' : S)
      → Asking (Marked R honest) l a x b w s (Err r) x' b' w' s' → r.fault.layer ≡ Run → SaysTooLong R
  asking_said a x n series b w s r x' b' w' s' h e =
      elim (own l K Q a x n series h.reply b' h.work) [
        | inl long ↦ record {
          state = s;
          question = fetched a x.question;
          answer = b;
          work = w;
          answer' = b';
          work' = h.work;
          state' = s';
          says = subst (λ (y : Reply). R s (fetched a x.question) b w y b' h.work s') long h.replies.0;
        }
        | inr other ↦ absurd (subst (Own l K Q a x n series) (sym h.comes) other e)
      ]

  -- the result of a drive is a refusal
  abbrev RefusedAt : Result Ended Refused → Type 0
  RefusedAt (Ok e) = ⊥
  RefusedAt (Err r) = r.fault.layer ≡ Run

  said : {a : Asked} {x : Lists} {b w : List ℕ} {s : S} {o : Result Ended Refused} {x' : Lists} {b' w' : List ℕ} {s' : S} (n : ℕ) → Series l K Q (at_asked a) x n
      → Driven (Marked R honest) l a x b w s o x' b' w' s' → RefusedAt o → SaysTooLong R
  said n series (stops h) e = asking_said _ _ n series _ _ _ _ _ _ _ _ h e
  said n series (ends h) e = elim e [ ]
  said n series (goes h rest) e = said (n + 1) (asking_led (Marked R honest) l K Q _ _ n series _ _ _ _ _ _ _ _ h).1 rest e

  pub too_long_said : (a : Asked) (x : Lists) (n : ℕ) → Series l K Q (at_asked a) x n → (b w : List ℕ) (s : S) (r : Refused) (x' : Lists) (b' w' : List ℕ) (s' : S)
      → Driven (Marked R honest) l a x b w s (Err r) x' b' w' s' → r.fault.layer ≡ Run → SaysTooLong R
  too_long_said a x n series b w s r x' b' w' s' d e = said n series d e
