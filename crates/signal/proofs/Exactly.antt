-- A literal and a clause may be exactly the bits that the laws of a kind make them. Assumes nothing.
use Rattle.std.proofs.Common.{◌≡◌, ℕ, ◌/◌, ◌%◌, Bool, true, false, cond, eqb, List, [], ◌∷◌, get_or, refl, ◌∙◌}
use Rattle.signal.specs.Circuit.{Ops, disjunction, literal_of, or_all, clause_of}
use Rattle.signal.specs.Exact.{literal_set, or_sets, clause_set}
use Rattle.signal.specs.Sets.{exactly, nots, ors}
use Rattle.signal.specs.Sound.{Sound}

ors_same : (p q s t : Bool → Bool) → ((c : Bool) → p c ≡ s c) → ((c : Bool) → q c ≡ t c) → (c : Bool) → ors p q c ≡ ors s t c
ors_same p q s t e f true =
    let a = e true in
    let b = e false in
    let x = f true in
    let y = f false in
    cc
ors_same p q s t e f false =
    let b = e false in
    let y = f false in
    cc

module _ {S : Type 0} {o : Ops S} (may : S → ℕ → Bool → Bool) (i : ℕ) (sound : Sound o (λ x. may x i)) where
  phased_set : (even : Bool) (x : S) (c : Bool) → may (cond even x (o.negation x)) i c ≡ cond even (may x i c) (nots (may x i) c)
  phased_set true x c = refl
  phased_set false x c = sound.negation x c

  or_set : (x y : S) (c : Bool) → may (disjunction o x y) i c ≡ ors (may x i) (may y i) c
  or_set x y true =
      let a = sound.negation x true in
      let b = sound.negation x false in
      let d = sound.negation y true in
      let e = sound.negation y false in
      let both = sound.conjunction (o.negation x) (o.negation y) false in
      sound.negation (o.conjunction (o.negation x) (o.negation y)) true ∙ (both ∙ (cc))
  or_set x y false =
      let a = sound.negation x true in
      let d = sound.negation y true in
      let both = sound.conjunction (o.negation x) (o.negation y) true in
      sound.negation (o.conjunction (o.negation x) (o.negation y)) false ∙ (both ∙ (cc))

  module _ (numbers : List ℕ) where
    -- what the number of each variable may be
    abbrev variables : ℕ → Bool → Bool
    variables k = may (o.reading (get_or numbers k 0)) i

    pub literal_set_lem : (l : ℕ) (c : Bool) → may (literal_of o numbers l) i c ≡ literal_set variables l c
    literal_set_lem l c = phased_set (eqb (l % 2) 0) (o.reading (get_or numbers (l / 2) 0)) c

    or_all_set : (x : S) (s : Bool → Bool) → ((c : Bool) → may x i c ≡ s c) → (ls : List ℕ) (c : Bool)
        → may (or_all o numbers x ls) i c ≡ or_sets variables s ls c
    or_all_set x s e [] c = e c
    or_all_set x s e (l ∷ ls) c =
        or_all_set (disjunction o x (literal_of o numbers l)) (ors s (literal_set variables l))
        (λ b.
        or_set x (literal_of o numbers l) b
        ∙ ors_same (may x i) (may (literal_of o numbers l) i) s (literal_set variables l) e (literal_set_lem l) b) ls c

    pub clause_set_lem : (ls : List ℕ) (c : Bool) → may (clause_of o numbers ls) i c ≡ clause_set variables ls c
    clause_set_lem ls c = or_all_set (o.known false) (exactly false) (sound.known false) ls c
