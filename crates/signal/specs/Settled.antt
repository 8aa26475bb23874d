-- What the gates come to, in the words of a circuit. Assumes nothing.
use Rattle.std.specs.Prelude.{◌≡◌, ℕ, ◌+◌, ◌/◌, ◌<◌, Bool, false, ◌&&◌, List, [], ◌∷◌, slice_index_or}
use Rattle.signal.specs.Circuit.{Ops, node_of}
use Rattle.signal.specs.Truth.{lit}

-- each gate, the first of which is at `node`, reads lower nodes alone
abbrev pub Ordered : List ℕ → ℕ → Type 0
Ordered [] node = Unit {0}
Ordered (l ∷ []) node = Unit {0}
Ordered (l ∷ r ∷ rest) node = (l / 2 < node) × (r / 2 < node) × Ordered rest (node + 1)

-- the node of each gate has the AND of the gate's literals
abbrev pub Settled : {S : Type 0} → Ops S → List S → List ℕ → ℕ → Type 0
Settled o values [] node = Unit {0}
Settled o values (l ∷ []) node = Unit {0}
Settled o values (l ∷ r ∷ rest) node =
    (slice_index_or values node (o.known false) ≡ o.conjunction (node_of o values l) (node_of o values r))
    × Settled o values rest (node + 1)

-- the same of an assignment to the nodes
abbrev pub Gated : (ℕ → Bool) → List ℕ → ℕ → Type 0
Gated α [] node = Unit {0}
Gated α (l ∷ []) node = Unit {0}
Gated α (l ∷ r ∷ rest) node = (α node ≡ (lit α l && lit α r)) × Gated α rest (node + 1)
