-- What the code returns while it reads, at what that borrows of the text. Assumes nothing.
use Rattle.std.specs.Prelude.{ℕ, List, ◌∷◌, Some, None, Option}
use Rattle.std.specs.Borrow.{Bor}
use Rattle.sheet.specs.declared.read.Counts.{Counts}
use Rattle.sheet.specs.declared.read.Pair.{Pair}
use Rattle.sheet.specs.declared.read.Head.{Head}

abbrev pub triples_seen : Option (Bor (List ℕ) × Bor (List ℕ) × Bor (List ℕ)) → Option (List ℕ × List ℕ × List ℕ)
triples_seen None = None
triples_seen (Some x) = Some (x.0.now, x.1.now, x.2.now)

abbrev pub parts_seen : Option (Bor (List ℕ) × Bor (List ℕ)) → Option (List ℕ × List ℕ)
parts_seen None = None
parts_seen (Some x) = Some (x.0.now, x.1.now)

abbrev pub part_seen : Option (Bor (List ℕ)) → Option (List ℕ)
part_seen None = None
part_seen (Some x) = Some x.now

abbrev pub contents_seen : Counts × Bor (List ℕ) → ℕ × ℕ × ℕ × List ℕ
contents_seen x = (x.0.inputs, x.0.latches, x.0.gates, x.1.now)

abbrev pub pair_seen : Pair → ℕ × ℕ × List ℕ
pair_seen x = (x.first, x.second, x.rest.now)

abbrev pub bad_seen : ℕ × Bor (List ℕ) → ℕ × List ℕ
bad_seen x = (x.0, x.1.now)

-- what follows the lines whose numbers went behind those before
abbrev pub rest_seen : List ℕ → Bor (List ℕ) → List ℕ × List ℕ
rest_seen before x = (before, x.now)

-- the list that a whole text gives
abbrev pub whole_seen : List ℕ → Head → List ℕ
whole_seen pairs h = h.counts.inputs ∷ h.counts.latches ∷ h.counts.gates ∷ h.bad ∷ pairs
