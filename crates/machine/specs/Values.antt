-- The value of each node of a sheet under latch bits and input bits. Assumes nothing.
use Rattle.std.specs.Prelude.{ℕ, zero, suc, ◌+◌, ◌-◌, Bool, false, cond, ◌&&◌, ◌==◌, nat_le}
use Rattle.sheet.specs.Sheets.{Sheet}
use Rattle.signal.specs.Truth.{lit}

-- the constant, the inputs and the latches, where latch i has the bit c i and input i the bit x i
abbrev pub fed : Sheet → (ℕ → Bool) → (ℕ → Bool) → ℕ → Bool
fed s c x j = cond (j == 0) false (cond (nat_le j s.inputs) (x (j - 1)) (c (j - 1 - s.inputs)))

-- the values v, and those of n AND gates at the nodes first, first + 1, .., in their order, each the AND of its operands
abbrev pub chain : ℕ → (ℕ → ℕ) → (ℕ → ℕ) → (ℕ → Bool) → ℕ → ℕ → Bool
chain first left right v zero j = v j
chain first left right v (suc g) j =
    cond (j == first + g)
    (lit (chain first left right v g) (left g) && lit (chain first left right v g) (right g))
    (chain first left right v g j)

-- the node of the first gate, and of gate g
abbrev pub first_gate : Sheet → ℕ
first_gate s = 1 + s.inputs + s.latches

abbrev pub gate_at : Sheet → ℕ → ℕ
gate_at s g = first_gate s + g

-- every node
abbrev pub values : Sheet → (ℕ → Bool) → (ℕ → Bool) → ℕ → Bool
values s c x = chain (first_gate s) s.left s.right (fed s c x) s.gates
