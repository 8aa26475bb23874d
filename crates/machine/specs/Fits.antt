-- Node values that fit the gates of a sheet. Assumes nothing.
use Rattle.std.specs.Prelude.{◌≡◌, ℕ, ◌+◌, ◌<◌, Bool, false, ◌&&◌}
use Rattle.sheet.specs.Sheets.{Sheet}
use Rattle.signal.specs.Truth.{lit}
use Rattle.machine.specs.Values.{gate_at, values}

-- the node of an input, and of a latch
abbrev pub input_at : Sheet → ℕ → ℕ
input_at s i = 1 + i

abbrev pub latch_at : Sheet → ℕ → ℕ
latch_at s i = 1 + s.inputs + i

-- how many nodes there are
abbrev pub nodes : Sheet → ℕ
nodes s = gate_at s s.gates

-- node values that fit the gates, at latch bits c and input bits x
pub record Settled (s : Sheet) (c x v : ℕ → Bool) : Type 0 where
  pub constant : v 0 ≡ false
  pub inputs : (i : ℕ) → i < s.inputs → v (input_at s i) ≡ x i
  pub latches : (i : ℕ) → i < s.latches → v (latch_at s i) ≡ c i
  pub gates : (g : ℕ) → g < s.gates → v (gate_at s g) ≡ (lit v (s.left g) && lit v (s.right g))

-- the values that a sheet's nodes have fit, and no others do
pub record ValuesFit (s : Sheet) : Type 0 where
  pub fit : (c x : ℕ → Bool) → Settled s c x (values s c x)
  pub alone : (c x v : ℕ → Bool) → Settled s c x v → (j : ℕ) → j < nodes s → v j ≡ values s c x j
