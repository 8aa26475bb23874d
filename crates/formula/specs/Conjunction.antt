-- AND and OR of two formulas. Assumes nothing.
use Rattle.std.specs.Prelude.{◌≡◌, ℕ, ◌+◌, ◌-◌, ◌*◌, ◌/◌, ◌%◌, ◌^◌, ◌≤◌, min, max, Bool, cond, ◌&&◌, ◌||◌, List, length, Some, None, Option, ◌==◌, nat_le, nat_lt, slice_set}
use Rattle.lists.specs.Counted.{counted}
use Rattle.sheet.specs.Sheets.{Sheet}
use Rattle.formula.specs.Formulas.{value_at, Formula, Gates}

-- the other literal of a node
abbrev pub opposite : ℕ → ℕ
opposite x = cond (x % 2 == 1) (x - 1) (x + 1)

-- the AND of two literals, where it needs no gate: of equal ones, of opposite ones or with 0, and with 1
abbrev pub simple : ℕ → ℕ → Option ℕ
simple a b =
    cond (a == b) (Some a)
    (cond (a / 2 == b / 2 || (a == 0 || b == 0)) (Some 0)
    (cond (a == 1) (Some b)
    (cond (b == 1) (Some a) None)))

-- what comes of it: the literal, how many gates there are, and the list; or no room, and all as it was
pub data Outcome : Type 0 where
  grown : ℕ → ℕ → List ℕ → Outcome
  short : Outcome

-- a new gate behind n others, if there is room for its pair and its literal has 32 bits
abbrev pub new_gate : ℕ → ℕ → List ℕ → ℕ → ℕ → Outcome
new_gate w n f a b =
    cond (nat_le (2 * n + 2) (length (counted f)) && nat_lt (w + n) (2 ^ 31))
    (grown (2 * (w + n)) (n + 1) (slice_set (slice_set f (2 * n) a) (2 * n + 1) b)) short

abbrev pub conjoin_by : ℕ → ℕ → List ℕ → ℕ → ℕ → Option ℕ → Outcome
conjoin_by w n f a b (Some x) = grown x n f
conjoin_by w n f a b None = new_gate w n f (max a b) (min a b)

-- the AND of two literals, where formula gates are numbered from w: the higher node goes left
abbrev pub conjoin : ℕ → ℕ → List ℕ → ℕ → ℕ → Outcome
conjoin w n f a b = conjoin_by w n f a b (simple a b)

abbrev pub negated : Outcome → Outcome
negated (grown x n f) = grown (opposite x) n f
negated short = short

-- OR is the negated AND of the negations
abbrev pub disjoin : ℕ → ℕ → List ℕ → ℕ → ℕ → Outcome
disjoin w n f a b = negated (conjoin w n f (opposite a) (opposite b))

-- f with n gates has become f' with n': gates are as they should be, and what there was keeps its value at every state
pub record Extends (s : Sheet) (f : List ℕ) (n : ℕ) (f' : List ℕ) (n' : ℕ) : Type 0 where
  pub more : n ≤ n'
  pub gates : Gates s f' n'
  pub kept : (c : ℕ → Bool) (x : ℕ) → Formula s n x → value_at s f' n' c x ≡ value_at s f n c x

-- x is a formula of the new list, and at every state it is what `op` makes of a and b in the old one
pub record Joins (op : Bool → Bool → Bool) (s : Sheet) (f : List ℕ) (n a b : ℕ) (f' : List ℕ) (n' x : ℕ) : Type 0 where
  pub extends : Extends s f n f' n'
  pub formula : Formula s n' x
  pub value : (c : ℕ → Bool) → value_at s f' n' c x ≡ op (value_at s f n c a) (value_at s f n c b)
