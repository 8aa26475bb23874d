-- What the interpolant of a refutation means: to the two parts, and in the machine's own words. Assumes nothing.
use Rattle.std.specs.Prelude.{◌≡◌, ℕ, ◌+◌, ◌*◌, ◌<◌, ◌≤◌, Bool, true, false, List, length, slice_index}
use Rattle.sheet.specs.Sheets.{Sheet, Legal, sheet_of}
use Rattle.machine.specs.Runs.{State, Frame, Follows, Reaches}
use Rattle.formula.specs.Conjunction.{Extends}
use Rattle.formula.specs.Formulas.{width, value_at, Formula, Gates}
use Rattle.question.specs.Clauses.{first_clauses, second_clauses, path_clauses}
use Rattle.question.specs.Laid.{Lays}
use Rattle.question.specs.Meaning.{In, AllHold}
use Rattle.question.specs.Questions.{IsQuestion}
use Rattle.answer.specs.Derivations.{Derives}
use Rattle.answer.specs.Steps.{step_count}
use Rattle.interpolant.specs.Interpolation.{Cut, Parted, Partial, First, Second, line_count}
use Rattle.interpolant.specs.Parting.{cut_of}
use Rattle.formula.specs.declared.root.Root.{Root}

-- the latch bits that an assignment has in frame 1, and the value of a formula there
abbrev pub latches_at : Sheet → (ℕ → Bool) → ℕ → Bool
latches_at s α i = α (width s + 1 + s.inputs + i)

abbrev pub value_under : Sheet → List ℕ → ℕ → (ℕ → Bool) → ℕ → Bool
value_under s f n α x = value_at s f n (latches_at s α) x

-- ---- in each, f with n gates is the formula list before a drawing and f' the one after it
-- what is drawn is a formula, and formulas that there were keep their values
pub record Draws (s : Sheet) (f : List ℕ) (n : ℕ) (f' : List ℕ) (n' x : ℕ) : Type 0 where
  pub extends : Extends s f n f' n'
  pub formula : Formula s n' x

abbrev pub DrawsFormula : List ℕ → List ℕ → ℕ → List ℕ → Root → Type 0
DrawsFormula l f n f' d = Legal l → Gates (sheet_of l) f n → Draws (sheet_of l) f n f' d.gates d.literal.0

-- the line values vs are, under every assignment, the partial interpolants of a derivation
abbrev pub Annotates : List ℕ → List ℕ → List ℕ → List ℕ → ℕ → List ℕ → List ℕ → Root → Type 0
Annotates l q t f n f' vs d =
    Legal l → Gates (sheet_of l) f n → (derived : ℕ → List ℕ) → Derives q t derived → (α : ℕ → Bool)
    → Partial q t (cut_of l q n) α (line_count q t) (λ k. value_under (sheet_of l) f' d.gates α (slice_index vs k))

-- P follows from the first part, contradicts the second, and depends on what they share alone
pub record Interpolant (q : List ℕ) (u : Cut) (P : (ℕ → Bool) → Bool) : Type 0 where
  pub implied : (α : ℕ → Bool) → First q u α → P α ≡ true
  pub refuted : (α : ℕ → Bool) → Second q u α → P α ≡ false
  pub of_shared : (α β : ℕ → Bool) → ((v : ℕ) → u.shared v ≡ true → α v ≡ β v) → P α ≡ P β

abbrev pub Interpolates : List ℕ → List ℕ → List ℕ → List ℕ → ℕ → List ℕ → Root → Type 0
Interpolates l q t f n f' d =
    Legal l → Gates (sheet_of l) f n → IsQuestion q → Parted q (cut_of l q n) → 1 ≤ step_count t
    → (derived : ℕ → List ℕ) → Derives q t derived → Interpolant q (cut_of l q n) (λ α. value_under (sheet_of l) f' d.gates α d.literal.0)

-- ---- the path question
-- q asks whether a bad state is reached from a state in r in 1 to k + 1 steps, with n gates of f
abbrev pub IsPath : List ℕ → Sheet → List ℕ → ℕ → ℕ → ℕ → Type 0
IsPath q s f n r k = Lays q ((k + 2) * width s + n) (length (first_clauses s f n r k)) (path_clauses s f n r k)

-- its parts have the variables that the cut says
abbrev pub PathParted : Type 0
PathParted =
    (l q f : List ℕ) (n r k : ℕ) → Legal l → Gates (sheet_of l) f n → Formula (sheet_of l) n r → IsPath q (sheet_of l) f n r k
    → Parted q (cut_of l q n)

-- x lies between: a state that follows one in r is in x, and from no state in x is a bad one reached in k steps or fewer
pub record Between (s : Sheet) (f : List ℕ) (n r k : ℕ) (f' : List ℕ) (n' x : ℕ) : Type 0 where
  pub holds_after_a_step : (a : Frame s) (c : State s) → In s f n r a.state → Follows s a c → In s f' n' x c
  pub keeps_from_bad : (c : State s) (j : ℕ) → In s f' n' x c → Reaches s c j → k < j

-- x follows from the first part and contradicts the second, by the latch bits of frame 1
pub record SeparatesPath (s : Sheet) (f : List ℕ) (n r k : ℕ) (f' : List ℕ) (n' x : ℕ) : Type 0 where
  pub implied : (α : ℕ → Bool) → AllHold α (first_clauses s f n r k) → value_under s f' n' α x ≡ true
  pub refuted : (α : ℕ → Bool) → AllHold α (second_clauses s k) → value_under s f' n' α x ≡ false

-- what is so of every path question that the steps of t refute; the question's formula gates may lie in any list
abbrev pub OfPath : List ℕ → List ℕ → List ℕ → List ℕ → ℕ → (List ℕ → ℕ → ℕ → Type 0) → Type 0
OfPath l q t f n So =
    (asked : List ℕ) (r k : ℕ) → Legal l → Gates (sheet_of l) f n → Gates (sheet_of l) asked n → Formula (sheet_of l) n r
    → IsPath q (sheet_of l) asked n r k → 1 ≤ step_count t → (derived : ℕ → List ℕ) → Derives q t derived → So asked r k

abbrev pub InterpolatesPath : List ℕ → List ℕ → List ℕ → List ℕ → ℕ → List ℕ → Root → Type 0
InterpolatesPath l q t f n f' d = OfPath l q t f n (λ asked r k. SeparatesPath (sheet_of l) asked n r k f' d.gates d.literal.0)

-- the question's formula gates may lie in any list
abbrev pub LiesBetween : List ℕ → List ℕ → List ℕ → List ℕ → ℕ → List ℕ → Root → Type 0
LiesBetween l q t f n f' d =
    (asked : List ℕ) (r k : ℕ) → Legal l → Gates (sheet_of l) f n → Gates (sheet_of l) asked n → Formula (sheet_of l) n r
    → IsPath q (sheet_of l) asked n r k → 1 ≤ step_count t → (derived : ℕ → List ℕ) → Derives q t derived
    → Between (sheet_of l) asked n r k f' d.gates d.literal.0
