-- Formulas over the latches of a sheet: literals of further AND gates, which lie in a list as pairs left, right and are numbered
-- on from the sheet's own nodes. Assumes nothing.
use Rattle.std.specs.Prelude.{◌≡◌, ℕ, ◌+◌, ◌-◌, ◌*◌, ◌/◌, ◌<◌, ◌≤◌, Bool, false, cond, ◌⊎◌, List, ◌==◌, slice_index}
use Rattle.sheet.specs.Sheets.{Sheet}
use Rattle.signal.specs.Truth.{lit}
use Rattle.machine.specs.Values.{chain}

-- how many nodes a sheet has
abbrev pub width : Sheet → ℕ
width s = 1 + s.inputs + s.latches + s.gates

-- gate g of a formula list
abbrev pub left_of : List ℕ → ℕ → ℕ
left_of f g = slice_index f (2 * g)

abbrev pub right_of : List ℕ → ℕ → ℕ
right_of f g = slice_index f (2 * g + 1)

-- what a state gives of a sheet's nodes: node 0 is false, and the latches have their bits
abbrev pub held : Sheet → (ℕ → Bool) → ℕ → Bool
held s c j = cond (j == 0) false (c (j - 1 - s.inputs))

-- the nodes at a state, with n formula gates in order
abbrev pub nodes_at : Sheet → List ℕ → ℕ → (ℕ → Bool) → ℕ → Bool
nodes_at s f n c = chain (width s) (left_of f) (right_of f) (held s c) n

-- the value of a formula at a state
abbrev pub value_at : Sheet → List ℕ → ℕ → (ℕ → Bool) → ℕ → Bool
value_at s f n c x = lit (nodes_at s f n c) x

-- a node that a gate may name: a latch, or one of the first n gates
abbrev pub Named : Sheet → ℕ → ℕ → Type 0
Named s n j = ((s.inputs < j) × (j ≤ s.inputs + s.latches)) ⊎ ((width s ≤ j) × (j < width s + n))

-- a literal of a formula: of the constant or of such a node
abbrev pub Formula : Sheet → ℕ → ℕ → Type 0
Formula s n x = (x / 2 ≡ 0) ⊎ Named s n (x / 2)

-- each of n gates names two different nodes, each a latch or a lower gate, the higher one left
pub record Gates (s : Sheet) (f : List ℕ) (n : ℕ) : Type 0 where
  pub lefts : (g : ℕ) → g < n → Named s g (left_of f g / 2)
  pub rights : (g : ℕ) → g < n → Named s g (right_of f g / 2)
  pub order : (g : ℕ) → g < n → right_of f g / 2 < left_of f g / 2
