-- The kinds of signal: for each, what its operations are and what its values may be. Assumes nothing.
use Rattle.std.specs.Prelude.{ℕ, Bool, true, false, cond, not, ◌&&◌, ◌==◌}
use Rattle.signal.specs.Circuit.{Ops}
use Rattle.signal.specs.Sets.{exactly}
use Rattle.signal.specs.declared.kinds.Tri.{Tri}
use Rattle.signal.specs.declared.kinds.Tri.TheVariants.{Zero, One, Unset}

-- ---- a plain bit: a number is 0, or else it is read as 1
abbrev pub bit_ops : Ops Bool
bit_ops = record { known = λ b. b; reading = λ n. not (n == 0); negation = not; conjunction = ◌&&◌ }

abbrev pub may_bit : Bool → ℕ → Bool → Bool
may_bit x i c = exactly x c

-- ---- a bit that may be unset: a number is 0, or 1, or else it is read as unset
abbrev pub known_tri : Bool → Tri
known_tri true = One
known_tri false = Zero

abbrev pub read_tri : ℕ → Tri
read_tri n = cond (n == 0) Zero (cond (n == 1) One Unset)

abbrev pub not_tri : Tri → Tri
not_tri Zero = One
not_tri One = Zero
not_tri Unset = Unset

abbrev pub and_tri : Tri → Tri → Tri
and_tri Zero y = Zero
and_tri One y = y
and_tri Unset Zero = Zero
and_tri Unset One = Unset
and_tri Unset Unset = Unset

abbrev pub tri_ops : Ops Tri
tri_ops = record { known = known_tri; reading = read_tri; negation = not_tri; conjunction = and_tri }

abbrev pub may_tri : Tri → ℕ → Bool → Bool
may_tri Zero i c = exactly false c
may_tri One i c = exactly true c
may_tri Unset i c = true
