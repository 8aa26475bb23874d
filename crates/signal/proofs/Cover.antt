-- What signals may be, their literals, clauses and gates may be too: the laws of a kind, carried through. Assumes nothing.
use Rattle.std.proofs.Common.{◌≡◌, ℕ, zero, suc, ◌+◌, ◌/◌, ◌%◌, ◌<◌, Bool, true, false, cond, not, ◌&&◌, ◌||◌, eqb, List, [], ◌∷◌, length, get_or, set, refl, ◌∙◌, ⊎_elim, arith, length-set}
use Rattle.std.proofs.lemmas.List.{get_or-set_same, get_or-set_other}
use Rattle.std.proofs.lemmas.Bool.{cases_eq}
use Rattle.signal.specs.Circuit.{Ops, disjunction, literal_of, or_all, clause_of, node_of, gates_of}
use Rattle.signal.specs.Covers.{Agrees, Covers, CoversTo}
use Rattle.signal.specs.Kinds.{bit_ops}
use Rattle.signal.specs.Sets.{exactly, nots, ands}
use Rattle.signal.specs.Settled.{Ordered, Gated}
use Rattle.signal.specs.Sound.{Sound}
use Rattle.signal.specs.Truth.{lit, holds}

pub exactly_self : (b : Bool) → exactly b b ≡ true
exactly_self true = refl
exactly_self false = refl

nots_has : (p : Bool → Bool) (b : Bool) → p b ≡ true → nots p (not b) ≡ true
nots_has p true h = h
nots_has p false h = h

ands_has : (p q : Bool → Bool) (a b : Bool) → p a ≡ true → q b ≡ true → ands p q (a && b) ≡ true
ands_has p q true true h k = grind arith
ands_has p q true false h k = grind arith
ands_has p q false true h k = grind arith
ands_has p q false false h k = grind arith

or_by_and : (a b : Bool) → not (not a && not b) ≡ (a || b)
or_by_and true b = refl
or_by_and false true = refl
or_by_and false false = refl

or_false : (a : Bool) → (a || false) ≡ a
or_false true = refl
or_false false = refl

or_assoc : (a b c : Bool) → ((a || b) || c) ≡ (a || (b || c))
or_assoc true b c = refl
or_assoc false b c = refl

module _ {S : Type 0} {o : Ops S} (may : S → ℕ → Bool → Bool) (i : ℕ) (sound : Sound o (λ x. may x i)) where
  may_known : (b : Bool) → may (o.known b) i b ≡ true
  may_known b = sound.known b b ∙ exactly_self b

  may_not : (x : S) (a : Bool) → may x i a ≡ true → may (o.negation x) i (not a) ≡ true
  may_not x a h = sound.negation x (not a) ∙ nots_has (λ b. may x i b) a h

  may_and : (x y : S) (a b : Bool) → may x i a ≡ true → may y i b ≡ true → may (o.conjunction x y) i (a && b) ≡ true
  may_and x y a b h k = sound.conjunction x y (a && b) ∙ ands_has (λ c. may x i c) (λ c. may y i c) a b h k

  may_or : (x y : S) (a b : Bool) → may x i a ≡ true → may y i b ≡ true → may (disjunction o x y) i (a || b) ≡ true
  may_or x y a b h k = rw (or_by_and a b) at (may_not _ _ (may_and _ _ _ _ (may_not x a h) (may_not y b k)))

  may_phased : (even : Bool) (x : S) (a : Bool) → may x i a ≡ true → may (cond even x (o.negation x)) i (cond even a (not a)) ≡ true
  may_phased true x a h = h
  may_phased false x a h = may_not x a h

  pub may_literal : (numbers : List ℕ) (α : ℕ → Bool) (l : ℕ) → Agrees o may i numbers α → may (literal_of o numbers l) i (lit α l) ≡ true
  may_literal numbers α l agrees = may_phased (eqb (l % 2) 0) (o.reading (get_or numbers (l / 2) 0)) (α (l / 2)) (agrees (l / 2))

  may_or_all : (numbers : List ℕ) (α : ℕ → Bool) → Agrees o may i numbers α → (x : S) (a : Bool) (ls : List ℕ) → may x i a ≡ true →
      may (or_all o numbers x ls) i (a || holds α ls) ≡ true
  may_or_all numbers α agrees x a [] h = rw (or_false a) h
  may_or_all numbers α agrees x a (l ∷ ls) h =
      let y = literal_of o numbers l in
      let more = may_or x y a (lit α l) h (may_literal numbers α l agrees) in
      rw (or_assoc a (lit α l) (holds α ls)) at (may_or_all numbers α agrees (disjunction o x y) (a || lit α l) ls more)

  pub may_clause : (numbers : List ℕ) (α : ℕ → Bool) (ls : List ℕ) → Agrees o may i numbers α → may (clause_of o numbers ls) i (holds α ls) ≡ true
  may_clause numbers α ls agrees = may_or_all numbers α agrees (o.known false) false ls (may_known false)

  -- ---- gates beside gates of plain bits
  may_node_at : (xs : List S) (bs : List Bool) (k : ℕ) → Covers may i xs bs → may (get_or xs k (o.known false)) i (get_or bs k false) ≡ true
  may_node_at [] [] k h = may_known false
  may_node_at [] (b ∷ bs) k h = absurd h
  may_node_at (x ∷ xs) [] k h = absurd h
  may_node_at (x ∷ xs) (b ∷ bs) zero h = h.0
  may_node_at (x ∷ xs) (b ∷ bs) (suc k) h = may_node_at xs bs k h.1

  may_node : (xs : List S) (bs : List Bool) (l : ℕ) → Covers may i xs bs → may (node_of o xs l) i (node_of bit_ops bs l) ≡ true
  may_node xs bs l h = may_phased (eqb (l % 2) 0) (get_or xs (l / 2) (o.known false)) (get_or bs (l / 2) false) (may_node_at xs bs (l / 2) h)

  covers_set : (xs : List S) (bs : List Bool) (k : ℕ) (x : S) (b : Bool) → Covers may i xs bs → may x i b ≡ true → Covers may i (set xs k x) (set bs k b)
  covers_set [] [] k x b h m = tt
  covers_set [] (c ∷ bs) k x b h m = absurd h
  covers_set (y ∷ xs) [] k x b h m = absurd h
  covers_set (y ∷ xs) (c ∷ bs) zero x b h m = (m, h.1)
  covers_set (y ∷ xs) (c ∷ bs) (suc k) x b h m = (h.0, covers_set xs bs k x b h.1 m)

  pub covers_gates : (ps : List ℕ) (node : ℕ) (xs : List S) (bs : List Bool) → Covers may i xs bs → Covers may i (gates_of o ps node xs) (gates_of bit_ops ps node bs)
  covers_gates [] node xs bs h = h
  covers_gates (l ∷ []) node xs bs h = h
  covers_gates (l ∷ r ∷ ps) node xs bs h =
      covers_gates ps (node + 1) _ _ (covers_set xs bs node _ _ h (may_and _ _ _ _ (may_node xs bs l h) (may_node xs bs r h)))

  -- ---- gates beside an assignment to the nodes
  may_lower : (α : ℕ → Bool) (xs : List S) (node l : ℕ) → CoversTo may i node xs α → l / 2 < node → node < length xs → may (node_of o xs l) i (lit α l) ≡ true
  may_lower α xs node l h lower there =
      may_phased (eqb (l % 2) 0) (get_or xs (l / 2) (o.known false)) (α (l / 2)) (h (l / 2) (o.known false) lower (omega arith))

  covers_one_more : (α : ℕ → Bool) (xs : List S) (node : ℕ) (x : S) → CoversTo may i node xs α → (node < length xs → may x i (α node) ≡ true) → CoversTo may i (node + 1) (set xs node x) α
  covers_one_more α xs node x h here k d low within =
      let inside : k < length xs = rw (length-set xs node x) at within in
      ⊎_elim
      (λ (same : k ≡ node). let there : node < length xs = omega arith in rw (same, get_or-set_same xs node x d there) (here there))
      (λ (other : k ≡ node → ⊥). rw (get_or-set_other xs node k x d other) (h k d (omega arith) inside))
      (cases_eq k node)

  pub covers_gated : (α : ℕ → Bool) (ps : List ℕ) (node : ℕ) (xs : List S) → Ordered ps node → Gated α ps node → CoversTo may i node xs α →
      CoversTo may i (node + length ps / 2) (gates_of o ps node xs) α
  covers_gated α [] node xs ordered gated h k d low within = h k d (omega arith) within
  covers_gated α (l ∷ []) node xs ordered gated h k d low within = h k d (omega arith) within
  covers_gated α (l ∷ r ∷ ps) node xs ordered gated h k d low within =
      let x = o.conjunction (node_of o xs l) (node_of o xs r) in
      covers_gated α ps (node + 1) (set xs node x) ordered.2 gated.1
      (covers_one_more α xs node x h (λ there. rw gated.0 (may_and _ _ _ _ (may_lower α xs node l h ordered.0 there) (may_lower α xs node r h ordered.1 there))))
      k d (omega arith) within
