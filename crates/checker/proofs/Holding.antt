-- What holds at each point of every series of calls. Assumes nothing.
use Rattle.std.proofs.Common.{◌≡◌, ℕ, ◌+◌, ◌-◌, ◌*◌, ◌<◌, ◌≤◌, List, [], get_or, take, is_ok, Some, None, Ok, Err, Option, Result, sym, refl, ap, subst, arith, length-take}
use Rattle.std.proofs.lemmas.List.{get_or-take}
use Rattle.lists.specs.Counted.{counted, on_counted}
use Rattle.sheet.specs.declared.fault.Fault.{Fault}
use Rattle.question.specs.Questions.{span, IsQuestion, Satisfiable}
use Rattle.answer.specs.Assignments.{judged}
use Rattle.answer.specs.Derivations.{Makes, Derives}
use Rattle.answer.specs.Runs.{checked}
use Rattle.answer.specs.Steps.{step_count, step_of}
use Rattle.answer.proofs.Judging.{judged_means}
use Rattle.answer.proofs.Verdicts.{accepted_derives, accepted_refutes, accepted_unsatisfiable}
use Rattle.procedure.specs.Procedure.{Point}
use Rattle.checker.specs.declared.Kind.{Kind}
use Rattle.checker.specs.declared.Kind.TheVariants.{Start, Path, Inclusion}
use Rattle.checker.specs.declared.Answer.TheVariants.{Assignment, Refutation}
use Rattle.checker.specs.declared.End.{End}
use Rattle.checker.specs.declared.Asked.{Asked}
use Rattle.checker.specs.declared.Weighed.{Weighed}
use Rattle.checker.specs.declared.Moved.{Moved}
use Rattle.checker.specs.declared.Refused.{Refused}
use Rattle.checker.specs.Lists.{Lists, said_part}
use Rattle.checker.specs.Turns.{turned, settled}
use Rattle.checker.specs.Calls.{showing, shown, weighing, weighed, taken}
use Rattle.checker.specs.Series.{Stage, at_asked, at_weighed, at_ended, reached, Series, opens, fetches, show_refused, shows, weigh_refused, weighs, takes, sets_aside, read_off_refused, reads_off}
use Rattle.checker.proofs.Cutting.{few_counted, counted_few}
use Rattle.checker.proofs.Moving.{point_of, shown_holds, taken_holds}
use Rattle.checker.proofs.Opening.{OfOpened, opened_stands}
use Rattle.checker.proofs.Posed.{OfTurn}
use Rattle.checker.proofs.Weaker.{weaker_stands, weaker_ends}
use Rattle.checker.specs.Points.{sheet_in}
use Rattle.checker.proofs.Standing.{Comes, Came, standing, Asks, Stands, Ends}

-- t refutes the question q
pub record Refuted (q t : List ℕ) : Type 0 where
  pub unsatisfiable : Satisfiable q → ⊥
  pub derived : ℕ → List ℕ
  pub derives : Derives q t derived
  pub some : 1 ≤ step_count t

abbrev pub Holds : List ℕ → ℕ → ℕ → Stage → Lists → ℕ → Type 0
Holds l K Q (at_asked a) x n = Stands l K Q (Comes l K Q) a x n
Holds l K Q (at_weighed d said) x n = Stands l K Q (Comes l K Q) d.asked x n × Refuted (standing d.asked x) (counted said)
Holds l K Q (at_ended e xs) x n = Ends l K Q (Comes l K Q) e.end n xs × (e.turns ≡ n)

-- ---- the part that a refutation says it is has all of its steps
module _ (t : List ℕ) where
  abbrev part : List ℕ
  part = take (1 + 3 * step_count t) t

  part_place : (k : ℕ) → k < 1 + 3 * step_count t → get_or part k 0 ≡ get_or t k 0
  part_place k h = get_or-take (1 + 3 * step_count t) t k 0 h

  part_count : step_count part ≡ step_count t
  part_count = part_place 0 (omega arith)

  part_step : (i : ℕ) → i < step_count t → step_of part i ≡ step_of t i
  part_step i h = λ k.
      record {
        first = part_place (3 * i + 1) (omega arith) k;
        second = part_place (3 * i + 2) (omega arith) k;
        pivot = part_place (3 * i + 3) (omega arith) k;
      }

  part_derives : (q : List ℕ) (derived : ℕ → List ℕ) → Derives q t derived → Derives q part derived
  part_derives q derived der =
      record {
        steps = λ i h. let low : i < step_count t = subst (λ (m : ℕ). i < m) part_count h in
            subst (Makes q derived i) (sym (part_step i low)) (der.steps i low);
        empty = subst (λ (m : ℕ). derived (m - 1) ≡ []) (sym part_count) der.empty;
      }

  part_refuted : (q : List ℕ) → Refuted q t → Refuted q part
  part_refuted q h =
      record {
        unsatisfiable = h.unsatisfiable;
        derived = h.derived;
        derives = part_derives q h.derived h.derives;
        some = subst (λ (m : ℕ). 1 ≤ m) (sym part_count) h.some;
      }

said_few : (t : List ℕ) → counted (said_part t) ≡ said_part t
said_few t = counted_few (said_part t) (omega (arith, length-take (1 + 3 * get_or (counted t) 0 0) (counted t), few_counted t))

said_refuted : (q t : List ℕ) → Refuted q (counted t) → Refuted q (counted (said_part t))
said_refuted q t h = subst (Refuted q) (sym (said_few t)) (part_refuted (counted t) q h)

-- ---- it holds of what each call comes to
abbrev OfMoved : List ℕ → ℕ → ℕ → ℕ → List ℕ → Moved × Lists → Type 0
OfMoved l K Q n xs p = Holds l K Q (reached p.0 xs) p.1 n

abbrev OfShown : List ℕ → ℕ → ℕ → ℕ → List ℕ → Result Moved Refused × Lists → Type 0
OfShown l K Q n xs p = elim p.0 [ Ok m ↦ Holds l K Q (reached m xs) p.1 (n + 1) | Err r ↦ Stands l K Q (Comes l K Q) r.asked p.1 n ]

abbrev OfWeighed : List ℕ → ℕ → ℕ → Lists → ℕ → List ℕ → Result Weighed Refused × List ℕ → Type 0
OfWeighed l K Q x n t p = elim p.0 [ Ok d ↦ Holds l K Q (at_weighed d t) x n | Err r ↦ Stands l K Q (Comes l K Q) r.asked x n ]

settled_holds : (l : List ℕ) (K Q : ℕ) (p : Point (sheet_in l)) (n : ℕ) (xs : List ℕ) (o : Option End) (a : Asked) (x : Lists)
    → OfTurn l K Q (Came l K Q p) n xs (o, a, x) → OfMoved l K Q n xs (settled o a, x)
settled_holds l K Q p n xs None a x h = weaker_stands l (Came l K Q p) (Comes l K Q) (λ q came. came.0) K Q a x n h
settled_holds l K Q p n xs (Some e) a x h = (weaker_ends l (Came l K Q p) (Comes l K Q) (λ q came. came.0) K Q e n xs h.0, h.1)

-- the list that stands is a question
kind_question : (l : List ℕ) (K Q : ℕ) (kind : Kind) (a : Asked) (x : Lists) (n : ℕ) (R : _) → Asks l (Comes l K Q) kind a x n R → IsQuestion (standing a x)
kind_question l K Q Start a x n R h = h.1.question
kind_question l K Q Path a x n R h = h.1.question
kind_question l K Q (Inclusion p) a x n R h = h.1.question

pub is_question : (l : List ℕ) (K Q : ℕ) (a : Asked) (x : Lists) (n : ℕ) → Stands l K Q (Comes l K Q) a x n → IsQuestion (standing a x)
is_question l K Q a x n st = kind_question l K Q a.kind a x n st.region st.asks

module _ (l : List ℕ) (K Q : ℕ) (a : Asked) (x : Lists) (n : ℕ) (st : Stands l K Q (Comes l K Q) a x n) where
  after_show : (answer : List ℕ) → OfShown l K Q n (counted answer) (shown l a answer x)
  after_show answer = by (judged (standing a x) (counted answer)) refl
    where
      by : (o : Result (Unit {0}) Fault) → judged (standing a x) (counted answer) ≡ o → OfShown l K Q n (counted answer) (showing o l a answer x)
      by (Err e) is = st
      by (Ok _) is =
          let satisfying = (judged_means (standing a x) (counted answer) _ refl).0 (ap is_ok is) in
          let p = turned Assignment l a answer x in
          settled_holds l K Q (point_of l K Q a x n st) (n + 1) (counted answer) p.0 p.1 p.2 (shown_holds l K Q a x n st (counted answer) answer satisfying)

  after_weigh : (t w : List ℕ) → OfWeighed l K Q x n (said_part t) (weighed a x.question t w)
  after_weigh t w = by (checked (standing a x) (counted t) (counted w)).0 refl
    where
      by : (o : Result (Unit {0}) Fault) → (checked (standing a x) (counted t) (counted w)).0 ≡ o
          → OfWeighed l K Q x n (said_part t) (weighing o a, (on_counted (checked (standing a x) (counted t)) w).1)
      by (Err e) is = st
      by (Ok _) is =
          let ok = ap is_ok is in
          let question = is_question l K Q a x n st in (
            st,
            said_refuted (standing a x) t
                (record {
                  unsatisfiable = accepted_unsatisfiable (standing a x) (counted t) (counted w) ok question;
                  derived = span (checked (standing a x) (counted t) (counted w)).1;
                  derives = accepted_derives (standing a x) (counted t) (counted w) ok question;
                  some = (accepted_refutes (standing a x) (counted t) (counted w) ok question).whole.some;
                }),
          )

after_take : (l : List ℕ) (K Q : ℕ) (d : Weighed) (t : List ℕ) (x : Lists) (n : ℕ) → Holds l K Q (at_weighed d (said_part t)) x n
    → OfMoved l K Q (n + 1) [] (taken l d t x)
after_take l K Q d t x n h =
    let p = turned Refutation l d.asked (said_part t) x in
    settled_holds l K Q (point_of l K Q d.asked x n h.0) (n + 1) [] p.0 p.1 p.2
    (taken_holds l K Q d.asked x n h.0 [] (said_part t) h.1.unsatisfiable h.1.derived h.1.derives h.1.some)

-- ---- every series
pub holds : {l : List ℕ} {K Q : ℕ} {g : Stage} {x : Lists} {n : ℕ} → Series l K Q g x n → Holds l K Q g x n
holds {l} {K} {Q} (opens f vs q a f' q' e) = subst (OfOpened l K Q vs) e (opened_stands l K Q f vs q)
holds (fetches a x n question s e) = holds s
holds {l} {K} {Q} (show_refused a x n answer r x' s e) = subst (OfShown l K Q n (counted answer)) e (after_show l K Q a x n (holds s) answer)
holds {l} {K} {Q} (shows a x n answer m x' s e) = subst (OfShown l K Q n (counted answer)) e (after_show l K Q a x n (holds s) answer)
holds {l} {K} {Q} (weigh_refused a x n t w r w' s e) = subst (OfWeighed l K Q x n (said_part t)) e (after_weigh l K Q a x n (holds s) t w)
holds {l} {K} {Q} (weighs a x n t w d w' s e) = subst (OfWeighed l K Q x n (said_part t)) e (after_weigh l K Q a x n (holds s) t w)
holds {l} {K} {Q} (takes d x n t m x' s e) = subst (OfMoved l K Q (n + 1) []) e (after_take l K Q d t x n (holds s))
holds {l} {K} {Q} (sets_aside d said x n a s e) = subst (λ (b : Asked). Stands l K Q (Comes l K Q) b x n) e (holds s).0
holds (read_off_refused e xs x n lent run f run' s is) = holds s
holds (reads_off e xs x n lent run r run' s is) = holds s
