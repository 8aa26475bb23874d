-- What an answer that was accepted leads to: the check at its next question or its end, and the lists. Assumes nothing.
use Rattle.std.specs.Prelude.{ℕ, ◌+◌, ◌-◌, ◌^◌, min, true, cond, ◌&&◌, List, Some, None, Ok, Err, Option, Result, ◌==◌, nat_le}
use Rattle.lists.specs.Counted.{counted}
use Rattle.sheet.specs.declared.literal.Literal.{Literal}
use Rattle.sheet.specs.Sheets.{sheet_of}
use Rattle.formula.specs.Built.{literal}
use Rattle.formula.specs.Conjunction.{Outcome, grown, short, disjoin}
use Rattle.question.specs.Layout.{path_list, inclusion_list, given, posed_if}
use Rattle.question.specs.Questions.{variable_count}
use Rattle.interpolant.specs.Drawing.{interpolation}
use Rattle.interpolant.specs.Parting.{width_in}
use Rattle.formula.specs.declared.root.Root.{Root}
use Rattle.interpolant.specs.declared.draw.Short.{Short}
use Rattle.interpolant.specs.declared.draw.Short.TheVariants.{LineValues as NoValues, Formula as NoGate}
use Rattle.checker.specs.declared.Kind.{Kind}
use Rattle.checker.specs.declared.Kind.TheVariants.{Start, Path, Inclusion}
use Rattle.checker.specs.declared.Answer.{Answer}
use Rattle.checker.specs.declared.Answer.TheVariants.{Assignment, Refutation}
use Rattle.checker.specs.declared.Region.{Region}
use Rattle.checker.specs.declared.Lack.{Lack}
use Rattle.checker.specs.declared.Lack.TheVariants.{Formula, Question, LineValues}
use Rattle.checker.specs.declared.End.{End}
use Rattle.checker.specs.declared.End.TheVariants.{Safe, Run, Undecided, Spent, Short as TooShort}
use Rattle.checker.specs.declared.Asked.{Asked}
use Rattle.checker.specs.declared.Moved.{Moved}
use Rattle.checker.specs.declared.Moved.TheVariants.{Asked as goes_on, Ended as is-over}
use Rattle.checker.specs.Lists.{Lists, lists, wiped, restored, used_part}

-- the end, if the check ends; the check, and the lists
abbrev pub Turned : Type 0
Turned = Option End × Asked × Lists

-- the bound that is tried after k, where K is the largest
abbrev pub next_bound : ℕ → ℕ → ℕ
next_bound k K = min (k + 1) K

-- a list is too short for what is due
abbrev pub cut_short : Lack → Asked → Lists → Turned
cut_short which a x = (Some (TooShort which), a, wiped x)

-- what an end leaves of the lists
abbrev pub left_by : End → Lists → Lists
left_by (TooShort which) x = wiped x
left_by Safe x = x
left_by (Run last v) x = x
left_by Undecided x = x
left_by Spent x = x

-- what a call tells: a question stands, or the check ends
abbrev pub told : Result (Unit {0}) End → Asked → Lists → Turned
told (Ok _) a x = (None, a, x)
told (Err e) a x = (Some e, a, left_by e x)

-- the check with a question of n numbers standing: its kind, the bound, and the region
abbrev pub asking : Kind → ℕ → ℕ → Region → Asked → Asked
asking kind n k r a =
    record { kind = kind; size = n; bound = k; region = r; opening = a.opening; limits = a.limits; turns = a.turns }

abbrev pub asked_if : Option ℕ → Kind → ℕ → Region → Asked → Lists → Turned
asked_if (Some n) kind k r a x = (None, asking kind n k r a, x)
asked_if None kind k r a x = cut_short Question a x

-- the path question of the region r at the bound k
abbrev pub path_asked : List ℕ → Asked → ℕ → Region → Lists → Turned
path_asked l a k r x =
    let p = posed_if (nat_le k 30 && given l x.formula r.gates) (path_list (sheet_of (counted l)) (counted x.formula) r.gates r.literal.0 k) x.question in
    asked_if p.0 Path k r a (lists x.formula x.values p.1)

-- the inclusion question of what was drawn, and the region
abbrev pub with_gates : ℕ → Region → Region
with_gates n r = record { literal = r.literal; gates = n; grown = r.grown }

abbrev pub inclusion_asked : List ℕ → Asked → Root → Lists → Turned
inclusion_asked l a d x =
    let p = posed_if (given l x.formula d.gates) (inclusion_list (sheet_of (counted l)) (counted x.formula) d.gates d.literal.0 a.region.literal.0) x.question in
    asked_if p.0 (Inclusion d.literal) a.bound (with_gates d.gates a.region) a (lists x.formula x.values p.1)

-- a refutation of the path question: the interpolant is drawn
abbrev pub lack_of : Short → Lack
lack_of NoValues = LineValues
lack_of NoGate = Formula

abbrev pub drawn_if : Result Root Short → List ℕ → Asked → Lists → Turned
drawn_if (Ok d) l a x = inclusion_asked l a d x
drawn_if (Err e) l a x = cut_short (lack_of e) a x

abbrev pub drawn : List ℕ → Asked → List ℕ → Lists → Turned
drawn l a t x =
    let p = interpolation (counted l) (counted (used_part a.size x.question)) (counted t) x.formula a.region.gates x.values in
    drawn_if p.0 l a (lists p.1 p.2 x.question)

-- an assignment of the inclusion question: the region becomes its OR with what was drawn
abbrev pub larger : ℕ → ℕ → Region
larger x n = record { literal = literal x; gates = n; grown = true }

abbrev pub grown_if : Outcome → List ℕ → Asked → Lists → Turned
grown_if (grown y n f) l a x = path_asked l a a.bound (larger y n) (lists f x.values x.question)
grown_if short l a x = cut_short Formula a x

abbrev pub grown_by : List ℕ → Asked → Literal → Lists → Turned
grown_by l a p x = grown_if (disjoin (width_in (counted l)) a.region.gates x.formula a.region.literal.0 p.0) l a x

-- an assignment of the path question of a region that has grown: the next bound, from the opening
abbrev pub deepened : List ℕ → Asked → Lists → Turned
deepened l a x =
    path_asked l a (next_bound a.bound a.limits.bound) a.opening (lists (restored a.opening.gates x.formula) x.values x.question)

-- one answer more
abbrev pub counting : Asked → Asked
counting a =
    record { kind = a.kind; size = a.size; bound = a.bound; region = a.region; opening = a.opening; limits = a.limits; turns = min (a.turns + 1) (2 ^ 32 - 1) }

-- a check ends when its answers are used up
abbrev pub unless_spent : Asked → Lists → Turned → Turned
unless_spent a x more = cond (nat_le a.limits.turns a.turns) (Some Spent, a, x) more

-- the rules: the kind of the question that stands, and what was shown or taken
abbrev pub turn_on : Kind → Answer → List ℕ → Asked → List ℕ → Lists → Turned
turn_on Start Assignment l a t x = (Some (Run 0 (variable_count (counted x.question))), a, x)
turn_on Start Refutation l a t x = unless_spent a x (path_asked l a a.bound a.region x)
turn_on Path Assignment l a t x =
    cond a.region.grown
    (cond (a.bound == a.limits.bound) (Some Undecided, a, x) (unless_spent a x (deepened l a x)))
    (Some (Run (min (a.bound + 1) (2 ^ 32 - 1)) (variable_count (counted x.question))), a, x)
turn_on Path Refutation l a t x = unless_spent a x (drawn l a t x)
turn_on (Inclusion p) Assignment l a t x = unless_spent a x (grown_by l a p x)
turn_on (Inclusion p) Refutation l a t x = (Some Safe, a, x)

abbrev pub turned : Answer → List ℕ → Asked → List ℕ → Lists → Turned
turned answer l a t x = turn_on a.kind answer l (counting a) t x

-- the check at its next question, or at its end
abbrev pub settled : Option End → Asked → Moved
settled None a = goes_on a
settled (Some e) a = is-over (record { end = e; bound = a.bound; turns = a.turns })

abbrev pub moved_by : Answer → List ℕ → Asked → List ℕ → Lists → Moved × Lists
moved_by answer l a t x =
    let p = turned answer l a t x in
    (settled p.0 p.1, p.2)
