-- What holds while a question of a check stands, and where a check has ended: the check is at a point of the procedure over sets
-- of states. Assumes nothing.
use Rattle.std.proofs.Common.{◌≡◌, ℕ, ◌+◌, ◌*◌, ◌^◌, ◌<◌, ◌≤◌, false, ◌⊎◌, List, length}
use Rattle.std.specs.List.{AllByRecursion}
use Rattle.lists.specs.Counted.{counted}
use Rattle.sheet.specs.declared.literal.Literal.{Literal}
use Rattle.sheet.specs.Sheets.{Sheet, Legal}
use Rattle.signal.specs.Truth.{bits_of}
use Rattle.machine.specs.Runs.{Starts, Follows, BadIn}
use Rattle.procedure.specs.Procedure.{Region as Set, Check, Question, start, path, inclusion, Point, asks, ended, safe, run, undecided, spent, Answer, Series, limited}
use Rattle.procedure.specs.Happens.{starters}
use Rattle.formula.specs.Formulas.{width, Formula, Gates}
use Rattle.formula.specs.Starting.{Starts as StartsWith}
use Rattle.question.specs.Clauses.{start_clauses, first_clauses, path_clauses, inclusion_clauses}
use Rattle.question.specs.Laid.{Lays}
use Rattle.question.specs.Meaning.{frame_at, FrameTells}
use Rattle.question.specs.Questions.{IsQuestion}
use Rattle.checker.specs.declared.Kind.{Kind}
use Rattle.checker.specs.declared.Kind.TheVariants.{Start, Path, Inclusion}
use Rattle.checker.specs.declared.End.{End}
use Rattle.checker.specs.declared.End.TheVariants.{Safe, Run, Undecided, Spent, Short}
use Rattle.checker.specs.declared.Asked.{Asked}
use Rattle.checker.specs.Lists.{Lists}
use Rattle.checker.specs.Calls.{fetched}
use Rattle.checker.specs.Points.{sheet_in, IsSet}
use Rattle.checker.specs.Reports.{first_bad}

-- the points that the procedure comes to from the start states, bound after bound
abbrev pub Comes : (l : List ℕ) (K Q : ℕ) → Point (sheet_in l) → Type 0
Comes l K Q p = Series (sheet_in l) (starters (sheet_in l)) (λ k. k + 1) K Q p

-- what is known of a point
abbrev pub Known : List ℕ → Type 1
Known l = Point (sheet_in l) → Type 0

-- the procedure comes to the point q by an answer at the point p
abbrev pub Came : (l : List ℕ) (K Q : ℕ) → Point (sheet_in l) → Known l
Came l K Q p q =
    Comes l K Q q × ((q' : Point (sheet_in l)) × Answer (sheet_in l) (starters (sheet_in l)) (λ k. k + 1) K p q' × (q ≡ limited Q q'))

abbrev pub check_of : (s : Sheet) → Asked → Set s → ℕ → Check s
check_of s a R n = record { bound = a.bound; region = R; grown = a.region.grown; turns = n }

-- the list that stands is a question, and lays out these clauses
pub record Poses (q : List ℕ) (v a : ℕ) (cs : List (List ℕ)) : Type 0 where
  pub question : IsQuestion q
  pub lays : Lays q v a cs

-- the list that stands
abbrev pub standing : Asked → Lists → List ℕ
standing a x = counted (fetched a x.question)

-- limits, counts and formulas
pub record Sound (l : List ℕ) (K Q : ℕ) (a : Asked) (x : Lists) (n : ℕ) : Type 0 where
  pub legal : Legal (counted l)
  pub few_bounds : K ≤ 30
  pub few_turns : Q ≤ 4294967295
  pub bound_limit : a.limits.bound ≡ K
  pub turn_limit : a.limits.turns ≡ Q
  pub turns : a.turns ≡ n
  pub left : n < Q
  pub bound : a.bound ≤ K
  pub some_size : 0 < a.size
  pub few_size : a.size ≤ 2 ^ 28
  pub gates : Gates (sheet_in l) x.formula a.region.gates
  pub room : 2 * a.region.gates ≤ length (counted x.formula)
  pub formula : Formula (sheet_in l) a.region.gates a.region.literal.0
  pub starts : StartsWith (sheet_in l) x.formula a.opening.gates a.opening.literal.0
  pub older : a.opening.gates ≤ a.region.gates
  pub fresh : a.opening.grown ≡ false

-- the question that stands is the one that the procedure asks
pub record Drawn (l : List ℕ) (C : Known l) (a : Asked) (x : Lists) (n : ℕ) (R : Set (sheet_in l)) (p : Literal) : Type 0 where
  pub set : Set (sheet_in l)
  pub is : IsSet (sheet_in l) x.formula a.region.gates p.0 set
  pub formula : Formula (sheet_in l) a.region.gates p.0
  pub comes : C (asks (check_of (sheet_in l) a R n) (inclusion set))

abbrev pub Asks : (l : List ℕ) → Known l → Kind → (a : Asked) (x : Lists) (n : ℕ) → Set (sheet_in l) → Type 0
Asks l C Start a x n R =
    C (asks (check_of (sheet_in l) a R n) start)
    × Poses (standing a x) (width (sheet_in l) + a.region.gates) 0 (start_clauses (sheet_in l) (counted x.formula) a.region.gates a.region.literal.0)
Asks l C Path a x n R =
    C (asks (check_of (sheet_in l) a R n) path)
    × Poses (standing a x) ((a.bound + 2) * width (sheet_in l) + a.region.gates)
    (length (first_clauses (sheet_in l) (counted x.formula) a.region.gates a.region.literal.0 a.bound))
    (path_clauses (sheet_in l) (counted x.formula) a.region.gates a.region.literal.0 a.bound)
Asks l C (Inclusion p) a x n R =
    Drawn l C a x n R p
    × Poses (standing a x) (width (sheet_in l) + a.region.gates) 0
    (inclusion_clauses (sheet_in l) (counted x.formula) a.region.gates p.0 a.region.literal.0)

pub record Stands (l : List ℕ) (K Q : ℕ) (C : Known l) (a : Asked) (x : Lists) (n : ℕ) : Type 0 where
  pub sound : Sound l K Q a x n
  pub region : Set (sheet_in l)
  pub is : IsSet (sheet_in l) x.formula a.region.gates a.region.literal.0 region
  pub asks : Asks l C a.kind a x n region

-- the assignment xs of v numbers has a run in its frames up to the last
pub record Ran (l : List ℕ) (C : Known l) (last v n : ℕ) (xs : List ℕ) : Type 0 where
  pub legal : Legal (counted l)
  pub whole : length xs ≡ v
  pub bits : AllByRecursion (λ x. (x ≡ 0) ⊎ (x ≡ 1)) xs
  pub tells : (t : ℕ) → t ≤ last → FrameTells (sheet_in l) (bits_of xs) t
  pub starts : Starts (sheet_in l) (frame_at (sheet_in l) (bits_of xs) 0).state
  pub follows : (t : ℕ) → t < last → Follows (sheet_in l) (frame_at (sheet_in l) (bits_of xs) t) (frame_at (sheet_in l) (bits_of xs) (t + 1)).state
  pub bad : (t : ℕ) × (t ≤ last) × BadIn (sheet_in l) (frame_at (sheet_in l) (bits_of xs) t)
  pub comes : C (ended (run (frame_at (sheet_in l) (bits_of xs) 0).state (first_bad (sheet_in l) xs last 0)) n)

-- the check ended so, after n answers, the last of them being xs if that was an assignment
abbrev pub Ends : (l : List ℕ) (K Q : ℕ) → Known l → End → ℕ → List ℕ → Type 0
Ends l K Q C Safe n xs = C (ended safe n)
Ends l K Q C (Run last v) n xs = Ran l C last v n xs
Ends l K Q C Undecided n xs = C (ended undecided n)
Ends l K Q C Spent n xs = C (ended spent n)
Ends l K Q C (Short which) n xs = (c : Check (sheet_in l)) × (q : Question (sheet_in l)) × Comes l K Q (asks c q) × (c.turns + 1 ≡ n)
