-- What the operations of a kind of signal mean. Assumes nothing.
use Rattle.std.specs.Prelude.{◌≡◌, Bool, cond}
use Rattle.signal.specs.Circuit.{Ops}
use Rattle.signal.specs.Sets.{exactly, nots, ands}

-- each operation gives exactly the bits that it should, where `may x` is the set of bits that x may be
pub record Sound {S : Type 0} (o : Ops S) (may : S → Bool → Bool) : Type 0 where
  pub known : (b c : Bool) → may (o.known b) c ≡ exactly b c
  pub reading : (b c : Bool) → may (o.reading (cond b 1 0)) c ≡ exactly b c
  pub negation : (x : S) (c : Bool) → may (o.negation x) c ≡ nots (may x) c
  pub conjunction : (x y : S) (c : Bool) → may (o.conjunction x y) c ≡ ands (may x) (may y) c
