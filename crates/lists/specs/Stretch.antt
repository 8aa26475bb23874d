-- Lists made index by index. Assumes nothing.
use Rattle.std.specs.Prelude.{ℕ, zero, suc, ◌+◌, List, [], ◌++◌}

-- f i, f (i + 1), .., n of them, one behind the other
abbrev pub stretch : {X : Type 0} → (ℕ → List X) → ℕ → ℕ → List X
stretch f i zero = []
stretch f i (suc n) = f i ++ stretch f (i + 1) n
