-- A turn after which the check goes on is one of those that it had left. Assumes nothing.
use Rattle.std.proofs.Common.{◌≡◌, ℕ, ◌<◌, ◌≤◌, ◌&&◌, eqb, leb, List, IfNone, Some, None, Ok, Err, Option, Result, sym, refl, ap, subst, arith}
use Rattle.std.proofs.lemmas.Bool.{cond_both, leb-false}
use Rattle.lists.specs.Counted.{counted}
use Rattle.sheet.specs.declared.fault.Fault.{Fault}
use Rattle.answer.specs.Assignments.{judged}
use Rattle.formula.specs.Conjunction.{Outcome, grown, short, disjoin}
use Rattle.question.specs.Layout.{path_list, inclusion_list, given, posed_if}
use Rattle.interpolant.specs.Drawing.{interpolation}
use Rattle.interpolant.specs.Parting.{width_in}
use Rattle.formula.specs.declared.root.Root.{Root}
use Rattle.interpolant.specs.declared.draw.Short.{Short}
use Rattle.checker.specs.declared.Kind.{Kind}
use Rattle.checker.specs.declared.Kind.TheVariants.{Start, Path, Inclusion}
use Rattle.checker.specs.declared.Answer.{Answer}
use Rattle.checker.specs.declared.Answer.TheVariants.{Assignment, Refutation}
use Rattle.checker.specs.declared.End.{End}
use Rattle.checker.specs.declared.Region.{Region}
use Rattle.checker.specs.declared.Asked.{Asked}
use Rattle.checker.specs.declared.Weighed.{Weighed}
use Rattle.checker.specs.declared.Moved.{Moved}
use Rattle.checker.specs.declared.Refused.{Refused}
use Rattle.checker.specs.Calls.{fetched, showing, shown, taken}
use Rattle.checker.specs.Lists.{Lists, used_part, said_part}
use Rattle.checker.specs.Points.{sheet_in}
use Rattle.checker.specs.Promises.{answers_left, MovedFewer, ShownFewer}
use Rattle.checker.specs.Turns.{Turned, asked_if, path_asked, inclusion_asked, with_gates, drawn_if, grown_if, next_bound, counting, unless_spent, turn_on, turned, settled, moved_by}

-- a check that goes on has the limits and the count of the check a
abbrev Keeps : Asked → Turned → Type 0
Keeps a p = IfNone p.0 ((p.1.limits ≡ a.limits) × (p.1.turns ≡ a.turns))

asked_keeps : (o : Option ℕ) (kind : Kind) (k : ℕ) (r : Region) (a : Asked) (x : Lists) → Keeps a (asked_if o kind k r a x)
asked_keeps None kind k r a x = tt
asked_keeps (Some n) kind k r a x = (refl, refl)

path_keeps : (l : List ℕ) (a : Asked) (k : ℕ) (r : Region) (x : Lists) → Keeps a (path_asked l a k r x)
path_keeps l a k r x =
    asked_keeps (posed_if (leb k 30 && given l x.formula r.gates) (path_list (sheet_in l) (counted x.formula) r.gates r.literal.0 k) x.question).0 Path k r a _

inclusion_keeps : (l : List ℕ) (a : Asked) (d : Root) (x : Lists) → Keeps a (inclusion_asked l a d x)
inclusion_keeps l a d x =
    asked_keeps (posed_if (given l x.formula d.gates) (inclusion_list (sheet_in l) (counted x.formula) d.gates d.literal.0 a.region.literal.0) x.question).0
    (Inclusion d.literal) a.bound (with_gates d.gates a.region) a _

drawn_keeps : (o : Result Root Short) (l : List ℕ) (a : Asked) (x : Lists) → Keeps a (drawn_if o l a x)
drawn_keeps (Ok d) l a x = inclusion_keeps l a d x
drawn_keeps (Err e) l a x = tt

grown_keeps : (o : Outcome) (l : List ℕ) (a : Asked) (x : Lists) → Keeps a (grown_if o l a x)
grown_keeps (grown y n f) l a x = path_keeps l a a.bound _ _
grown_keeps short l a x = tt

-- and one answer fewer is left
abbrev Fewer : Asked → Turned → Type 0
Fewer a p = IfNone p.0 (answers_left p.1 < answers_left a)

keeps_fewer : (a : Asked) (o : Option End) (b : Asked) (x : Lists) → a.limits.turns ≤ 4294967295 → (counting a).turns < a.limits.turns → Keeps (counting a) (o, b, x) → Fewer a (o, b, x)
keeps_fewer a None b x few left k =
    let limit : b.limits.turns ≡ a.limits.turns = ap (λ m. m.turns) k.0 in
    omega (arith, k.1)
keeps_fewer a (Some e) b x few left k = tt

unspent_fewer : (a : Asked) (x : Lists) (p : Turned) → a.limits.turns ≤ 4294967295 → Keeps (counting a) p → Fewer a (unless_spent (counting a) x p)
unspent_fewer a x p few k =
    cond_both (leb a.limits.turns (counting a).turns) _ _ (Fewer a) (λ _. tt)
    (λ e. keeps_fewer a p.0 p.1 p.2 few (leb-false a.limits.turns (counting a).turns e) k)

turn_fewer : (kind : Kind) (answer : Answer) (l : List ℕ) (a : Asked) (t : List ℕ) (x : Lists) → a.limits.turns ≤ 4294967295 → Fewer a (turn_on kind answer l (counting a) t x)
turn_fewer Start Assignment l a t x few = tt
turn_fewer Start Refutation l a t x few = unspent_fewer a x _ few (path_keeps l (counting a) a.bound a.region x)
turn_fewer Path Assignment l a t x few =
    cond_both a.region.grown _ _ (Fewer a)
    (λ _.
    cond_both (eqb a.bound a.limits.bound) _ _ (Fewer a) (λ _. tt)
    (λ _. unspent_fewer a x _ few (path_keeps l (counting a) (next_bound a.bound a.limits.bound) a.opening _)))
    (λ _. tt)
turn_fewer Path Refutation l a t x few =
    unspent_fewer a x _ few
    (drawn_keeps (interpolation (counted l) (counted (used_part a.size x.question)) (counted t) x.formula a.region.gates x.values).0 l (counting a) _)
turn_fewer (Inclusion p) Assignment l a t x few =
    unspent_fewer a x _ few (grown_keeps (disjoin (width_in (counted l)) a.region.gates x.formula a.region.literal.0 p.0) l (counting a) x)
turn_fewer (Inclusion p) Refutation l a t x few = tt

settled_fewer : (a : Asked) (o : Option End) (b : Asked) (x : Lists) → Fewer a (o, b, x) → MovedFewer a (settled o b)
settled_fewer a None b x h = h
settled_fewer a (Some e) b x h = tt

pub moved_fewer : (answer : Answer) (l : List ℕ) (a : Asked) (t : List ℕ) (x : Lists) → a.limits.turns ≤ 4294967295 → MovedFewer a (moved_by answer l a t x).0
moved_fewer answer l a t x few =
    let p = turned answer l a t x in
    settled_fewer a p.0 p.1 p.2 (turn_fewer a.kind answer l a t x few)

-- ---- the calls
showing_fewer : (o : Result (Unit {0}) Fault) (l : List ℕ) (a : Asked) (xs : List ℕ) (x : Lists) → a.limits.turns ≤ 4294967295 → ShownFewer a (showing o l a xs x).0
showing_fewer (Ok _) l a xs x few = moved_fewer Assignment l a xs x few
showing_fewer (Err e) l a xs x few = tt

pub shown_fewer : (l : List ℕ) (a : Asked) (xs : List ℕ) (x : Lists) → a.limits.turns ≤ 4294967295 → ShownFewer a (shown l a xs x).0
shown_fewer l a xs x few = showing_fewer (judged (counted (fetched a x.question)) (counted xs)) l a xs x few

pub taken_fewer : (l : List ℕ) (d : Weighed) (t : List ℕ) (x : Lists) → d.asked.limits.turns ≤ 4294967295 → MovedFewer d.asked (taken l d t x).0
taken_fewer l d t x few = moved_fewer Refutation l d.asked (said_part t) x few

-- from what the calls ensure
pub by_shown : (l : List ℕ) (a : Asked) (xs : List ℕ) (x : Lists) (r : Result Moved Refused) (x' : Lists) → a.limits.turns ≤ 4294967295
    → (r, x') ≡ shown l a xs x → ShownFewer a r
by_shown l a xs x r x' few e = subst (λ (p : Result Moved Refused × Lists). ShownFewer a p.0) (sym e) (shown_fewer l a xs x few)

pub by_taken : (l : List ℕ) (d : Weighed) (t : List ℕ) (x : Lists) (m : Moved) (x' : Lists) → d.asked.limits.turns ≤ 4294967295
    → (m, x') ≡ taken l d t x → MovedFewer d.asked m
by_taken l d t x m x' few e = subst (λ (p : Moved × Lists). MovedFewer d.asked p.0) (sym e) (taken_fewer l d t x few)
