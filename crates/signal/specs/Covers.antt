-- Signals and numbers that may be given bits. Assumes nothing.
use Rattle.std.specs.Prelude.{◌≡◌, ℕ, ◌<◌, Bool, true, List, [], ◌∷◌, length, slice_index, slice_index_or}
use Rattle.signal.specs.Circuit.{Ops}

-- in lane i, what is read from the number of each variable may be the variable's bit
abbrev pub Agrees : {S : Type 0} → Ops S → (S → ℕ → Bool → Bool) → ℕ → List ℕ → (ℕ → Bool) → Type 0
Agrees o may i numbers α = (k : ℕ) → may (o.reading (slice_index numbers k)) i (α k) ≡ true

-- there are as many bits as values, and in lane i each value may be its bit
abbrev pub Covers : {S : Type 0} → (S → ℕ → Bool → Bool) → ℕ → List S → List Bool → Type 0
Covers may i [] [] = Unit {0}
Covers may i [] (b ∷ bs) = ⊥
Covers may i (x ∷ xs) [] = ⊥
Covers may i (x ∷ xs) (b ∷ bs) = (may x i b ≡ true) × Covers may i xs bs

-- in lane i, each of the first n values that is there may be its bit
abbrev pub CoversTo : {S : Type 0} → (S → ℕ → Bool → Bool) → ℕ → ℕ → List S → (ℕ → Bool) → Type 0
CoversTo {S} may i n values α = (k : ℕ) (d : S) → k < n → k < length values → may (slice_index_or values k d) i (α k) ≡ true
