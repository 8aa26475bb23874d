-- What the questions ask, in the machine's own words; what a satisfying assignment tells; what every clause is. Assumes nothing.
use Rattle.std.specs.Prelude.{◌≡◌, ℕ, ◌+◌, ◌*◌, ◌/◌, ◌<◌, ◌≤◌, Bool, true, false, ◌&&◌, ◌||◌, List, map, length, nat_le, nat_lt}
use Rattle.std.specs.List.{range_with_len, AllByRecursion}
use Rattle.std.proofs.lemmas.List.FromFn.{length-map-range_with_len}
use Rattle.sheet.specs.Sheets.{Sheet, Legal, sheet_of}
use Rattle.sheet.specs.Trip.{Iff}
use Rattle.signal.specs.Truth.{lit, holds}
use Rattle.machine.specs.Bits.{Bits, bit}
use Rattle.machine.specs.Runs.{State, Frame, value_in, Follows, BadIn, BadState, Reaches}
use Rattle.formula.specs.Formulas.{width, value_at, Formula, Gates}
use Rattle.formula.specs.Framing.{in_frame, in_question}
use Rattle.question.specs.Clauses.{start_clauses, first_clauses, second_clauses, path_clauses, inclusion_clauses}
use Rattle.question.specs.Questions.{Mem, Clause}

-- an assignment makes each of the clauses true
abbrev pub AllHold : (ℕ → Bool) → List (List ℕ) → Type 0
AllHold α cs = AllByRecursion (λ c. holds α c ≡ true) cs

abbrev pub Solvable : List (List ℕ) → Type 0
Solvable cs = (α : ℕ → Bool) × AllHold α cs

-- a state in which a formula is true
abbrev pub In : (s : Sheet) → List ℕ → ℕ → ℕ → State s → Type 0
In s f n r c = value_at s f n (bit c) r ≡ true

-- some state in r is bad
abbrev pub BadInR : (s : Sheet) → List ℕ → ℕ → ℕ → Type 0
BadInR s f n r = (c : State s) × In s f n r c × BadState s c

-- from some state in r a bad one is reached in j steps, for a j from 1 to k + 1
abbrev pub BadAfter : (s : Sheet) → List ℕ → ℕ → ℕ → ℕ → Type 0
BadAfter s f n r k = (c : State s) × In s f n r c × ((j : ℕ) × (1 ≤ j) × (j ≤ k + 1) × Reaches s c j)

-- some state is in p and not in r
abbrev pub Outside : (s : Sheet) → List ℕ → ℕ → ℕ → ℕ → Type 0
Outside s f n p r = (c : State s) × In s f n p c × (value_at s f n (bit c) r ≡ false)

-- a question can be solved exactly if what it asks is so
abbrev pub StartAsks : Sheet → List ℕ → ℕ → ℕ → Type 0
StartAsks s f n r = Iff (Solvable (start_clauses s f n r)) (BadInR s f n r)

abbrev pub PathAsks : Sheet → List ℕ → ℕ → ℕ → ℕ → Type 0
PathAsks s f n r k = Iff (Solvable (path_clauses s f n r k)) (BadAfter s f n r k)

abbrev pub InclusionAsks : Sheet → List ℕ → ℕ → ℕ → ℕ → Type 0
InclusionAsks s f n p r = Iff (Solvable (inclusion_clauses s f n p r)) (Outside s f n p r)

-- ---- reading off
-- n bits of an assignment, from variable j on
abbrev pub bits_from : (ℕ → Bool) → ℕ → (n : ℕ) → Bits n
bits_from α j n = record { bits = map α (range_with_len j n); sized = length-map-range_with_len α j n }

-- the state and the inputs that an assignment has in frame t
abbrev pub frame_at : (s : Sheet) → (ℕ → Bool) → ℕ → Frame s
frame_at s α t =
    record {
      state = bits_from α (t * width s + 1 + s.inputs) s.latches;
      inputs = bits_from α (t * width s + 1) s.inputs;
    }

-- in frame t each literal of the sheet has its value
abbrev pub FrameTells : Sheet → (ℕ → Bool) → ℕ → Type 0
FrameTells s α t = (x : ℕ) → x / 2 < width s → lit α (in_frame (width s) t x) ≡ value_in s (frame_at s α t) x

-- among m frames, each formula has the value that it has at the state of frame 0
abbrev pub FormulasTell : Sheet → List ℕ → ℕ → ℕ → (ℕ → Bool) → Type 0
FormulasTell s f n m α = (x : ℕ) → Formula s n x → lit α (in_question (width s) m x) ≡ value_at s f n (bit (frame_at s α 0).state) x

-- what an assignment that satisfies the start question tells
pub record StartTells (s : Sheet) (f : List ℕ) (n r : ℕ) (α : ℕ → Bool) : Type 0 where
  pub literals : FrameTells s α 0
  pub formulas : FormulasTell s f n 1 α
  pub in_r : In s f n r (frame_at s α 0).state
  pub is_bad : BadIn s (frame_at s α 0)

pub record PathTells (s : Sheet) (f : List ℕ) (n r k : ℕ) (α : ℕ → Bool) : Type 0 where
  pub literals : (t : ℕ) → t ≤ k + 1 → FrameTells s α t
  pub formulas : FormulasTell s f n (k + 2) α
  pub in_r : In s f n r (frame_at s α 0).state
  pub follows : (t : ℕ) → t ≤ k → Follows s (frame_at s α t) (frame_at s α (t + 1)).state
  pub meets_bad : (t : ℕ) × (1 ≤ t) × (t ≤ k + 1) × BadIn s (frame_at s α t)

pub record InclusionTells (s : Sheet) (f : List ℕ) (n p r : ℕ) (α : ℕ → Bool) : Type 0 where
  pub literals : FrameTells s α 0
  pub formulas : FormulasTell s f n 1 α
  pub in_p : In s f n p (frame_at s α 0).state
  pub outside_r : value_at s f n (bit (frame_at s α 0).state) r ≡ false

-- ---- clauses
-- a clause over v variables: not empty, literals ascend, no variable twice
pub record Proper (v : ℕ) (c : List ℕ) : Type 0 where
  pub some_literal : 0 < length c
  pub ascends : Clause c
  pub below : (x : ℕ) → Mem x c → x / 2 < v

-- in the path question at bound k, variables of frame 0 and of formula gates are local to the first part
abbrev pub is_local : Sheet → ℕ → ℕ → Bool
is_local s k j = nat_lt j (width s) || nat_le ((k + 2) * width s) j

-- and the latches of frame 1 are what the parts share
abbrev pub is_shared : Sheet → ℕ → Bool
is_shared s j = nat_le (width s + 1 + s.inputs) j && nat_lt j (width s + 1 + s.inputs + s.latches)

-- which variables the parts of a path question have
pub record Sides (s : Sheet) (f : List ℕ) (n r k : ℕ) : Type 0 where
  pub first : AllByRecursion (λ c. (x : ℕ) → Mem x c → (is_local s k (x / 2) || is_shared s (x / 2)) ≡ true) (first_clauses s f n r k)
  pub second : AllByRecursion (λ c. (x : ℕ) → Mem x c → is_local s k (x / 2) ≡ false) (second_clauses s k)
  pub apart : (j : ℕ) → is_shared s j ≡ true → is_local s k j ≡ false

-- ---- the laws, of every legal sheet and its formulas
abbrev pub StartAlwaysAsks : Type 0
StartAlwaysAsks =
    (l f : List ℕ) (n r : ℕ) → Legal l → Gates (sheet_of l) f n → Formula (sheet_of l) n r → StartAsks (sheet_of l) f n r

abbrev pub PathAlwaysAsks : Type 0
PathAlwaysAsks =
    (l f : List ℕ) (n r k : ℕ) → Legal l → Gates (sheet_of l) f n → Formula (sheet_of l) n r → PathAsks (sheet_of l) f n r k

abbrev pub InclusionAlwaysAsks : Type 0
InclusionAlwaysAsks =
    (l f : List ℕ) (n p r : ℕ) → Legal l → Gates (sheet_of l) f n → Formula (sheet_of l) n p → Formula (sheet_of l) n r
    → InclusionAsks (sheet_of l) f n p r

abbrev pub StartAlwaysTells : Type 0
StartAlwaysTells =
    (l f : List ℕ) (n r : ℕ) → Legal l → Gates (sheet_of l) f n → Formula (sheet_of l) n r
    → (α : ℕ → Bool) → AllHold α (start_clauses (sheet_of l) f n r) → StartTells (sheet_of l) f n r α

abbrev pub PathAlwaysTells : Type 0
PathAlwaysTells =
    (l f : List ℕ) (n r k : ℕ) → Legal l → Gates (sheet_of l) f n → Formula (sheet_of l) n r
    → (α : ℕ → Bool) → AllHold α (path_clauses (sheet_of l) f n r k) → PathTells (sheet_of l) f n r k α

abbrev pub InclusionAlwaysTells : Type 0
InclusionAlwaysTells =
    (l f : List ℕ) (n p r : ℕ) → Legal l → Gates (sheet_of l) f n → Formula (sheet_of l) n p → Formula (sheet_of l) n r
    → (α : ℕ → Bool) → AllHold α (inclusion_clauses (sheet_of l) f n p r) → InclusionTells (sheet_of l) f n p r α

abbrev pub StartProper : Type 0
StartProper =
    (l f : List ℕ) (n r : ℕ) → Legal l → Gates (sheet_of l) f n → Formula (sheet_of l) n r
    → AllByRecursion (Proper (width (sheet_of l) + n)) (start_clauses (sheet_of l) f n r)

abbrev pub PathProper : Type 0
PathProper =
    (l f : List ℕ) (n r k : ℕ) → Legal l → Gates (sheet_of l) f n → Formula (sheet_of l) n r
    → AllByRecursion (Proper ((k + 2) * width (sheet_of l) + n)) (path_clauses (sheet_of l) f n r k)

abbrev pub InclusionProper : Type 0
InclusionProper =
    (l f : List ℕ) (n p r : ℕ) → Legal l → Gates (sheet_of l) f n → Formula (sheet_of l) n p → Formula (sheet_of l) n r
    → AllByRecursion (Proper (width (sheet_of l) + n)) (inclusion_clauses (sheet_of l) f n p r)

abbrev pub PathSides : Type 0
PathSides =
    (l f : List ℕ) (n r k : ℕ) → Legal l → Gates (sheet_of l) f n → Formula (sheet_of l) n r → Sides (sheet_of l) f n r k
