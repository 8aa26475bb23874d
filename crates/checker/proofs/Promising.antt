-- What each call promises where a series led to it. Assumes nothing.
use Rattle.std.proofs.Common.{◌≡◌, ℕ, ◌+◌, ◌⊎◌, List, [], is_ok, Some, None, Ok, Err, Option, Result, sym, refl, ap, ◌∙◌, subst, inl, inr, arith, length-take}
use Rattle.lists.specs.Counted.{counted}
use Rattle.sheet.specs.Trip.{Iff}
use Rattle.sheet.specs.declared.fault.Fault.{Fault}
use Rattle.procedure.specs.Procedure.{Point, Question, start, path, inclusion, safe, undecided, spent, asks, ended, limited, Answer as Step}
use Rattle.procedure.specs.Happens.{starters}
use Rattle.question.specs.Laid.{Lays}
use Rattle.question.specs.Meaning.{Solvable}
use Rattle.question.specs.Questions.{Satisfiable}
use Rattle.question.proofs.Paths.{path_asks}
use Rattle.question.proofs.States.{start_asks, inclusion_asks}
use Rattle.answer.specs.Assignments.{judged}
use Rattle.answer.proofs.Judging.{judged_means}
use Rattle.checker.specs.declared.Kind.{Kind}
use Rattle.checker.specs.declared.Kind.TheVariants.{Start, Path, Inclusion}
use Rattle.checker.specs.declared.Answer.TheVariants.{Assignment, Refutation}
use Rattle.checker.specs.declared.End.{End}
use Rattle.checker.specs.declared.End.TheVariants.{Safe, Run, Undecided, Spent, Short}
use Rattle.checker.specs.declared.Asked.{Asked}
use Rattle.checker.specs.declared.Weighed.{Weighed}
use Rattle.checker.specs.declared.Moved.{Moved}
use Rattle.checker.specs.declared.Refused.{Refused}
use Rattle.checker.specs.Lists.{Lists, lists, said_part}
use Rattle.checker.specs.Opening.{opened}
use Rattle.checker.specs.Turns.{turned, settled}
use Rattle.checker.specs.Calls.{fetched, showing, shown, weighed, taken, set_aside}
use Rattle.checker.specs.Points.{sheet_in, AsksFor, StandsFor, IsShort, AsPoint, AsAsked, AsQuestion, Answers}
use Rattle.checker.specs.Promises.{Begins, ShowGoesOn, WeighGoesOn, TakeGoesOn, AsideGoesOn, ShownAnswersAt, ShownAnswers, TakenAnswers, FetchedStands, CountsTurns}
use Rattle.checker.specs.Series.{Stage, at_asked, at_weighed, at_ended, reached, Series, opens, fetches, show_refused, shows, weigh_refused, weighs, takes, sets_aside}
use Rattle.checker.proofs.Cutting.{few_counted, counted_few}
use Rattle.checker.proofs.Holding.{holds, is_question}
use Rattle.checker.proofs.Moving.{front_gates, question_of, point_of, shown_holds, taken_holds}
use Rattle.checker.proofs.Posed.{OfTurn}
use Rattle.checker.proofs.Standing.{Comes, Came, standing, Asks, Stands, Ends, check_of}

-- ---- every call goes on
pub by_open : (l : List ℕ) (K Q : ℕ) (f q : List ℕ) (r : Result Asked Fault) (f' q' : List ℕ) → (r, f', q') ≡ opened l K Q f q → Begins l K Q r f' q'
by_open l K Q f q (Ok a) f' q' e = λ vs. opens f vs q a f' q' (sym e)
by_open l K Q f q (Err x) f' q' e = tt

pub by_show : (l : List ℕ) (a : Asked) (xs : List ℕ) (x : Lists) (r : Result Moved Refused) (x' : Lists) → (r, x') ≡ shown l a xs x → ShowGoesOn l a xs x r x'
by_show l a xs x (Ok m) x' e K Q n s = shows a x n xs m x' s (sym e)
by_show l a xs x (Err r) x' e K Q n s = show_refused a x n xs r x' s (sym e)

pub by_weigh : (a : Asked) (q t w : List ℕ) (r : Result Weighed Refused) (w' : List ℕ) → (r, w') ≡ weighed a q t w → WeighGoesOn a q t r
by_weigh a q t w (Ok d) w' e l K Q n f vs s = weighs a (lists f vs q) n t w d w' s (sym e)
by_weigh a q t w (Err r) w' e l K Q n f vs s = weigh_refused a (lists f vs q) n t w r w' s (sym e)

pub by_take : (l : List ℕ) (d : Weighed) (t : List ℕ) (x : Lists) (m : Moved) (x' : Lists) → (m, x') ≡ taken l d t x → TakeGoesOn l d t x m x'
by_take l d t x m x' e K Q n s = takes d x n t m x' s (sym e)

-- the part of a list that a refutation says it is, handed on
pub by_set_aside : (d : Weighed) (a : Asked) → a ≡ set_aside d → AsideGoesOn d a
by_set_aside d a e l K Q n said x s = sets_aside d said x n a s (sym e)

-- ---- the question that stands
pub standing_is : (a : Asked) (x : Lists) → standing a x ≡ fetched a x.question
standing_is a x = counted_few (fetched a x.question) (omega (arith, length-take a.size (counted x.question), few_counted x.question))

asks_by : {cs : List (List ℕ)} {q : List ℕ} {v a : ℕ} (P : Type 0) → Lays q v a cs → Iff (Solvable cs) P → Iff (Satisfiable q) P
asks_by P laid both = (
  λ k. both.0 (k.0, (laid.satisfied k.0).0 k.1),
  λ p. let k = both.1 p in (k.0, (laid.satisfied k.0).1 k.1),
)

module _ (l : List ℕ) (K Q : ℕ) (a : Asked) (x : Lists) (n : ℕ) (st : Stands l K Q (Comes l K Q) a x n) where
  kind_asks : (kind : Kind) → Asks l (Comes l K Q) kind a x n st.region → Iff (Satisfiable (standing a x)) (AsksFor l kind a (counted x.formula))
  kind_asks Start h =
      asks_by _ h.1.lays
      (start_asks (counted l) (counted x.formula) a.region.gates a.region.literal.0 st.sound.legal (front_gates l K Q a x n st) st.sound.formula)
  kind_asks Path h =
      asks_by _ h.1.lays
      (path_asks (counted l) (counted x.formula) a.region.gates a.region.literal.0 a.bound st.sound.legal (front_gates l K Q a x n st) st.sound.formula)
  kind_asks (Inclusion p) h =
      asks_by _ h.1.lays
      (inclusion_asks (counted l) (counted x.formula) a.region.gates p.0 a.region.literal.0 st.sound.legal (front_gates l K Q a x n st) h.0.formula st.sound.formula)

  stands_for : StandsFor l a x.formula (standing a x)
  stands_for = record { is_question = is_question l K Q a x n st; asks = kind_asks a.kind st.asks }

pub by_fetch : (a : Asked) (q lent : List ℕ) → lent ≡ fetched a q → FetchedStands a q lent
by_fetch a q lent e l K Q n f vs s = (
  subst (StandsFor l a f) (standing_is a (lists f vs q) ∙ sym e) (stands_for l K Q a (lists f vs q) n (holds s)),
  fetches a (lists f vs q) n lent s (sym e),
)

-- ---- an answer is one of the procedure
as_asked : (l : List ℕ) (K Q : ℕ) (a : Asked) (x : Lists) (n : ℕ) (C : _) (st : Stands l K Q C a x n) (q : Question (sheet_in l)) → AsQuestion l a.kind a x.formula q
    → AsAsked l a x.formula n (asks (check_of (sheet_in l) a st.region n) q)
as_asked l K Q a x n C st q is = (
  check_of (sheet_in l) a st.region n,
  q,
  refl,
  record { bound = refl; region = st.is; grown = refl; turns = refl },
  is,
)

as_question : (l : List ℕ) (K Q : ℕ) (a : Asked) (x : Lists) (n : ℕ) (st : Stands l K Q (Comes l K Q) a x n) (kind : Kind) (h : Asks l (Comes l K Q) kind a x n st.region)
    → AsQuestion l kind a x.formula (question_of l K Q a x n st kind h)
as_question l K Q a x n st Start h = refl
as_question l K Q a x n st Path h = refl
as_question l K Q a x n st (Inclusion p) h = (h.0.set, h.0.is, refl)

as_point : (l : List ℕ) (K Q : ℕ) (a : Asked) (x : Lists) (n : ℕ) (st : Stands l K Q (Comes l K Q) a x n) → AsAsked l a x.formula n (point_of l K Q a x n st)
as_point l K Q a x n st = as_asked l K Q a x n (Comes l K Q) st _ (as_question l K Q a x n st a.kind st.asks)

-- what was reached by a step
module _ (l : List ℕ) (K Q : ℕ) (p : Point (sheet_in l)) where
  abbrev Led : Stage → Lists → ℕ → Type 0
  Led g x n = (q : Point (sheet_in l)) × Step (sheet_in l) (starters (sheet_in l)) (λ k. k + 1) K p q × AsPoint l g x n (limited Q q)

  led : (g : Stage) (x : Lists) (n : ℕ) (q : Point (sheet_in l)) → Came l K Q p q → AsPoint l g x n q → Led g x n
  led g x n q came is = (came.1.0, came.1.1, subst (AsPoint l g x n) came.1.2 is)

  kind_led : (a : Asked) (x : Lists) (n : ℕ) (st : Stands l K Q (Came l K Q p) a x n) (kind : Kind) → kind ≡ a.kind → Asks l (Came l K Q p) kind a x n st.region → Led (at_asked a) x n
  kind_led a x n st Start e h =
      led (at_asked a) x n (asks (check_of (sheet_in l) a st.region n) start) h.0
      (as_asked l K Q a x n (Came l K Q p) st start (subst (λ (k : Kind). AsQuestion l k a x.formula start) e refl))
  kind_led a x n st Path e h =
      led (at_asked a) x n (asks (check_of (sheet_in l) a st.region n) path) h.0
      (as_asked l K Q a x n (Came l K Q p) st path (subst (λ (k : Kind). AsQuestion l k a x.formula path) e refl))
  kind_led a x n st (Inclusion r) e h =
      let q : Question (sheet_in l) = inclusion h.0.set in
      led (at_asked a) x n (asks (check_of (sheet_in l) a st.region n) q) h.0.comes
      (as_asked l K Q a x n (Came l K Q p) st q (subst (λ (k : Kind). AsQuestion l k a x.formula q) e (h.0.set, h.0.is, refl)))

  end_led : (e : End) (bound turns : ℕ) (x : Lists) (n : ℕ) (xs : List ℕ) → Ends l K Q (Came l K Q p) e n xs
      → (let g : Stage = at_ended (record { end = e; bound = bound; turns = turns }) xs in IsShort g ⊎ Led g x n)
  end_led Safe bound turns x n xs h = inr (led (at_ended (record { end = Safe; bound = bound; turns = turns }) xs) x n (ended safe n) h (safe, refl, refl))
  end_led (Run last v) bound turns x n xs h =
      inr (led (at_ended (record { end = Run last v; bound = bound; turns = turns }) xs) x n _ h.comes (_, refl, (_, _, refl)))
  end_led Undecided bound turns x n xs h = inr (led (at_ended (record { end = Undecided; bound = bound; turns = turns }) xs) x n (ended undecided n) h (undecided, refl, refl))
  end_led Spent bound turns x n xs h = inr (led (at_ended (record { end = Spent; bound = bound; turns = turns }) xs) x n (ended spent n) h (spent, refl, refl))
  end_led (Short which) bound turns x n xs h = inl (which, refl)

  turn_led : (n : ℕ) (xs : List ℕ) (o : Option End) (a : Asked) (x : Lists) → OfTurn l K Q (Came l K Q p) n xs (o, a, x)
      → IsShort (reached (settled o a) xs) ⊎ Led (reached (settled o a) xs) x n
  turn_led n xs None a x st = inr (kind_led a x n st a.kind refl st.asks)
  turn_led n xs (Some e) a x h = end_led e a.bound a.turns x n xs h.0

answers_by : (l : List ℕ) (K Q : ℕ) (g : Stage) (x : Lists) (n : ℕ) (p : Point (sheet_in l)) → AsPoint l g x n p → (g' : Stage) (x' : Lists)
    → IsShort g' ⊎ Led l K Q p g' x' (n + 1) → Answers l K Q g x n g' x'
answers_by l K Q g x n p is g' x' (inl short) = inl short
answers_by l K Q g x n p is g' x' (inr h) = inr (p, h.0, is, h.1, h.2)

show_answers : (l : List ℕ) (a : Asked) (xs : List ℕ) (x : Lists) (K Q n : ℕ) → Series l K Q (at_asked a) x n → (o : Result (Unit {0}) Fault)
    → judged (standing a x) (counted xs) ≡ o → (let p = showing o l a xs x in ShownAnswersAt l K Q a x n xs p.0 p.1)
show_answers l a xs x K Q n s (Err e) is = tt
show_answers l a xs x K Q n s (Ok _) is =
    let st = holds s in
    let satisfying = (judged_means (standing a x) (counted xs) _ refl).0 (ap is_ok is) in
    let p = turned Assignment l a xs x in
    answers_by l K Q (at_asked a) x n (point_of l K Q a x n st) (as_point l K Q a x n st) _ p.2
    (turn_led l K Q (point_of l K Q a x n st) (n + 1) (counted xs) p.0 p.1 p.2 (shown_holds l K Q a x n st (counted xs) xs satisfying))

pub shown_answers : (l : List ℕ) (a : Asked) (xs : List ℕ) (x : Lists) (r : Result Moved Refused) (x' : Lists) → (r, x') ≡ shown l a xs x → ShownAnswers l a xs x r x'
shown_answers l a xs x r x' e K Q n s =
    subst (λ (p : Result Moved Refused × Lists). ShownAnswersAt l K Q a x n xs p.0 p.1) (sym e)
    (show_answers l a xs x K Q n s (judged (standing a x) (counted xs)) refl)

pub taken_answers : (l : List ℕ) (d : Weighed) (t : List ℕ) (x : Lists) (m : Moved) (x' : Lists) → (m, x') ≡ taken l d t x → TakenAnswers l d t x m x'
taken_answers l d t x m x' e K Q n s =
    let h = holds s in
    let a : Asked = d.asked in
    let p = turned Refutation l a (said_part t) x in
    subst (λ (p : Moved × Lists). Answers l K Q (at_weighed d (said_part t)) x n (reached p.0 []) p.1) (sym e)
    (answers_by l K Q (at_weighed d (said_part t)) x n (point_of l K Q a x n h.0) (as_point l K Q a x n h.0) _ p.2
    (turn_led l K Q (point_of l K Q a x n h.0) (n + 1) [] p.0 p.1 p.2
    (taken_holds l K Q a x n h.0 [] (said_part t) h.1.unsatisfiable h.1.derived h.1.derives h.1.some)))

pub by_turns : (a : Asked) (turns : ℕ) → turns ≡ a.turns → CountsTurns a turns
by_turns a turns is l K Q n x s = is ∙ (holds s).sound.turns
