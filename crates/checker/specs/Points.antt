-- A check, and the interpolation procedure over sets of states: at which point of the procedure a check stands, and what an answer
-- does. Assumes nothing.
use Rattle.std.specs.Prelude.{◌≡◌, ℕ, ◌+◌, ◌⊎◌, List}
use Rattle.lists.specs.Counted.{counted}
use Rattle.sheet.specs.Sheets.{Sheet, sheet_of}
use Rattle.sheet.specs.Trip.{Iff}
use Rattle.machine.specs.Bits.{bit}
use Rattle.machine.specs.Runs.{State}
use Rattle.procedure.specs.Procedure.{Region as Set, Check, Question, start, path, inclusion, Verdict, safe, run, undecided, spent, Point, asks, ended, Answer, limited}
use Rattle.procedure.specs.Happens.{starters}
use Rattle.formula.specs.Formulas.{value_at}
use Rattle.question.specs.Meaning.{BadInR, BadAfter, Outside}
use Rattle.question.specs.Questions.{IsQuestion, Satisfiable}
use Rattle.checker.specs.declared.Kind.{Kind}
use Rattle.checker.specs.declared.Kind.TheVariants.{Start, Path, Inclusion}
use Rattle.checker.specs.declared.Lack.{Lack}
use Rattle.checker.specs.declared.End.{End}
use Rattle.checker.specs.declared.End.TheVariants.{Safe, Run, Undecided, Spent, Short}
use Rattle.checker.specs.declared.Asked.{Asked}
use Rattle.checker.specs.Lists.{Lists}
use Rattle.checker.specs.Series.{Stage, at_asked, at_weighed, at_ended}

-- the sheet that a list lays out
abbrev pub sheet_in : List ℕ → Sheet
sheet_in l = sheet_of (counted l)

-- a literal of a formula list of n gates is true exactly in the states of a set
abbrev pub IsSet : (s : Sheet) → List ℕ → ℕ → ℕ → Set s → Type 0
IsSet s f n r R = (c : State s) → R c ≡ value_at s f n (bit c) r

-- ---- at which point a check stands
pub record AsCheck (l : List ℕ) (a : Asked) (f : List ℕ) (n : ℕ) (c : Check (sheet_in l)) : Type 0 where
  pub bound : c.bound ≡ a.bound
  pub region : IsSet (sheet_in l) f a.region.gates a.region.literal.0 c.region
  pub grown : c.grown ≡ a.region.grown
  pub turns : c.turns ≡ n

abbrev pub AsQuestion : (l : List ℕ) → Kind → Asked → List ℕ → Question (sheet_in l) → Type 0
AsQuestion l Start a f q = q ≡ start
AsQuestion l Path a f q = q ≡ path
AsQuestion l (Inclusion p) a f q = (P : Set (sheet_in l)) × IsSet (sheet_in l) f a.region.gates p.0 P × (q ≡ inclusion P)

abbrev pub AsAsked : (l : List ℕ) → Asked → List ℕ → ℕ → Point (sheet_in l) → Type 0
AsAsked l a f n p =
    (c : Check (sheet_in l)) × (q : Question (sheet_in l)) × (p ≡ asks c q) × AsCheck l a f n c × AsQuestion l a.kind a f q

abbrev pub AsVerdict : (l : List ℕ) → End → Verdict (sheet_in l) → Type 0
AsVerdict l Safe v = v ≡ safe
AsVerdict l (Run last variables) v = (c : State (sheet_in l)) × (m : ℕ) × (v ≡ run c m)
AsVerdict l Undecided v = v ≡ undecided
AsVerdict l Spent v = v ≡ spent
AsVerdict l (Short which) v = ⊥

abbrev pub AsPoint : (l : List ℕ) → Stage → Lists → ℕ → Point (sheet_in l) → Type 0
AsPoint l (at_asked a) x n p = AsAsked l a x.formula n p
AsPoint l (at_weighed d said) x n p = AsAsked l d.asked x.formula n p
AsPoint l (at_ended e xs) x n p = (v : Verdict (sheet_in l)) × (p ≡ ended v n) × AsVerdict l e.end v

-- a list was too short
abbrev pub IsShort : Stage → Type 0
IsShort (at_asked a) = ⊥
IsShort (at_weighed d said) = ⊥
IsShort (at_ended e xs) = (which : Lack) × (e.end ≡ Short which)

-- An answer that was shown or taken is a true answer at the point where the check stands, and leads to the point where it stands
-- then; unless a list was too short. The bound is raised by one.
abbrev pub Answers : (l : List ℕ) (K Q : ℕ) → Stage → Lists → ℕ → Stage → Lists → Type 0
Answers l K Q g x n g' x' =
    IsShort g'
    ⊎ ((p q : Point (sheet_in l)) × AsPoint l g x n p × Answer (sheet_in l) (starters (sheet_in l)) (λ k. k + 1) K p q × AsPoint l g' x' (n + 1) (limited Q q))

-- ---- what the question that stands asks, with the formulas that lie in f
abbrev pub AsksFor : (l : List ℕ) → Kind → Asked → List ℕ → Type 0
AsksFor l Start a f = BadInR (sheet_in l) f a.region.gates a.region.literal.0
AsksFor l Path a f = BadAfter (sheet_in l) f a.region.gates a.region.literal.0 a.bound
AsksFor l (Inclusion p) a f = Outside (sheet_in l) f a.region.gates p.0 a.region.literal.0

-- a list is a question, and can be satisfied exactly if what the check asks for exists
pub record StandsFor (l : List ℕ) (a : Asked) (f q : List ℕ) : Type 0 where
  pub is_question : IsQuestion q
  pub asks : Iff (Satisfiable q) (AsksFor l a.kind a (counted f))
