-- Bits in a row. Assumes nothing.
use Rattle.std.specs.Prelude.{◌≡◌, ℕ, Bool, false, List, length, slice_index_or}

pub record Bits (n : ℕ) : Type 0 where
  pub bits : List Bool
  pub sized : length bits ≡ n

abbrev pub bit : {n : ℕ} → Bits n → ℕ → Bool
bit b i = slice_index_or b.bits i false
