-- The words for sets of bits mean what they say. Assumes nothing.
use Rattle.std.specs.Prelude.{◌≡◌, Bool, true, not, ◌&&◌, ◌||◌, Decides}
use Rattle.signal.specs.Sets.{exactly, nots, ands, ors}

abbrev pub SetsAre : Type 0
SetsAre =
    ((b c : Bool) → Decides (exactly b c) (c ≡ b))
    × ((p : Bool → Bool) (c : Bool) → Decides (nots p c) ((x : Bool) × (p x ≡ true) × (c ≡ not x)))
    × ((p q : Bool → Bool) (c : Bool) → Decides (ands p q c) ((x : Bool) × (y : Bool) × (p x ≡ true) × (q y ≡ true) × (c ≡ (x && y))))
    × ((p q : Bool → Bool) (c : Bool) → Decides (ors p q c) ((x : Bool) × (y : Bool) × (p x ≡ true) × (q y ≡ true) × (c ≡ (x || y))))
