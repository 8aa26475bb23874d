-- The bits that a literal and a clause may be, where each variable has a set of bits that it may be. Assumes nothing.
use Rattle.std.specs.Prelude.{ℕ, ◌/◌, ◌%◌, Bool, false, cond, List, [], ◌∷◌, ◌==◌}
use Rattle.signal.specs.Sets.{exactly, nots, ors}

-- the bits of the literal's variable, or their negations if the literal is odd
abbrev pub literal_set : (ℕ → Bool → Bool) → ℕ → Bool → Bool
literal_set p l c = cond (l % 2 == 0) (p (l / 2) c) (nots (p (l / 2)) c)

-- the ORs of any bit of s with any bits of the literals
abbrev pub or_sets : (ℕ → Bool → Bool) → (Bool → Bool) → List ℕ → Bool → Bool
or_sets p s [] c = s c
or_sets p s (l ∷ ls) c = or_sets p (ors s (literal_set p l)) ls c

abbrev pub clause_set : (ℕ → Bool → Bool) → List ℕ → Bool → Bool
clause_set p ls c = or_sets p (exactly false) ls c
