-- One question asked, from what the calls ensure. Assumes nothing.
use Rattle.std.proofs.Common.{◌≡◌, ℕ, Bool, List, take, Ok, Err, Result, sym, ap, ◌∙◌, subst}
use Rattle.lists.specs.Counted.{counted}
use Rattle.question.specs.Questions.{variable_count}
use Rattle.producer.specs.Replying.{Replies, KeepsWord}
use Rattle.producer.specs.declared.interface.Reply.{Reply}
use Rattle.producer.specs.declared.interface.Reply.TheVariants.{Assignment, Refutation}
use Rattle.checker.specs.declared.Asked.{Asked}
use Rattle.checker.specs.declared.Weighed.{Weighed}
use Rattle.checker.specs.declared.Moved.{Moved}
use Rattle.checker.specs.declared.Refused.{Refused}
use Rattle.checker.specs.Lists.{Lists}
use Rattle.checker.specs.Calls.{fetched, shown, weighed, taken}
use Rattle.checker.specs.Promises.{MovedFewer, ShownFewer}
use Rattle.driver.specs.Driving.{Marked, Turn, assignment_in, weighed_turn, answered, Asking}

pub asked_by : {S : Type 0} (R : Replies S) (honest : Bool) (l : List ℕ) (a : Asked) (x : Lists) (b w : List ℕ) (s : S) (reply : Reply) (lent b' v : List ℕ) (s' : S)
    → lent ≡ fetched a x.question → KeepsWord honest lent b' v reply → R s lent b w reply b' v s'
    → (t : Result Moved Refused) (x' : Lists) (w' : List ℕ) → ◌≡◌ {A = Turn} (t, x', w') (answered l a reply b' v x)
    → Asking (Marked R honest) l a x b w s t x' b' w' s'
asked_by R honest l a x b w s reply lent b' v s' is word told t x' w' comes =
    record {
      reply = reply;
      work = v;
      replies = (subst (λ (q : List ℕ). R s q b w reply b' v s') is told, subst (λ (q : List ℕ). KeepsWord honest q b' v reply) is word);
      comes = comes;
    }

pub shown_by : (l : List ℕ) (a : Asked) (x : Lists) (b w lent xs : List ℕ) (variables : ℕ) (cut : List ℕ) → lent ≡ fetched a x.question
    → variables ≡ variable_count (counted lent) → cut ≡ counted b → xs ≡ take variables cut
    → (r : Result Moved Refused) (x' : Lists) → (r, x') ≡ shown l a xs x → ◌≡◌ {A = Turn} (r, x', w) (answered l a Assignment b w x)
shown_by l a x b w lent xs variables cut is count counts front r x' e =
    let assignment : xs ≡ assignment_in a x b =
    front ∙ (λ i. take (count i) (counts i)) ∙ ap (λ (q : List ℕ). take (variable_count (counted q)) (counted b)) is in
    ap (λ (p : Result Moved Refused × Lists). let t : Turn = (p.0, p.1, w) in t) (e ∙ ap (λ (ys : List ℕ). shown l a ys x) assignment)

-- the turn of a reply, by the case that it is
pub by_reply : (l : List ℕ) (a : Asked) (x : Lists) (b w : List ℕ) (reply is : Reply) → reply ≡ is → (t : Result Moved Refused) (x' : Lists) (w' : List ℕ)
    → ◌≡◌ {A = Turn} (t, x', w') (answered l a is b w x) → ◌≡◌ {A = Turn} (t, x', w') (answered l a reply b w x)
by_reply l a x b w reply is e t x' w' h = h ∙ ap (λ (y : Reply). answered l a y b w x) (sym e)

pub taken_by : (l : List ℕ) (a : Asked) (x : Lists) (b v : List ℕ) (d : Weighed) (w' : List ℕ) (m : Moved) (x' : Lists) → (Ok d, w') ≡ weighed a x.question b v
    → (m, x') ≡ taken l d b x → ◌≡◌ {A = Turn} (Ok m, x', w') (answered l a Refutation b v x)
taken_by l a x b v d w' m x' e h =
    ap (λ (p : Moved × Lists). let t : Turn = (Ok p.0, p.1, w') in t) h
    ∙ ap (λ (p : Result Weighed Refused × List ℕ). weighed_turn l b x p.0 p.1) e

pub unweighed_by : (l : List ℕ) (a : Asked) (x : Lists) (b v : List ℕ) (r : Refused) (w' : List ℕ) → (Err r, w') ≡ weighed a x.question b v
    → ◌≡◌ {A = Turn} (Err r, x, w') (answered l a Refutation b v x)
unweighed_by l a x b v r w' e = ap (λ (p : Result Weighed Refused × List ℕ). weighed_turn l b x p.0 p.1) e

-- ---- a check that goes on may be given fewer answers
pub taken_left : (a : Asked) (d : Weighed) (m : Moved) → d.asked ≡ a → MovedFewer d.asked m → ShownFewer a (Ok m)
taken_left a d m same fewer = subst (λ (c : Asked). MovedFewer c m) same fewer
