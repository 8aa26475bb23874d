-- What the builder's calls answer, and the laws of their answers. Assumes nothing.
use Rattle.std.proofs.Common.{◌≡◌, ℕ, ◌+◌, ◌*◌, ◌^◌, ◌<◌, ◌≤◌, min, Bool, false, cond, ◌&&◌, ◌||◌, ltb, leb, ◌⊎◌, List, length, set, IfSome, Some, None, Option, sym, refl, ap, ◌∙◌, subst, ⊎_elim, arith, length-take}
use Rattle.std.proofs.lemmas.Bool.{cond-true, cond-false, le-leb, lt-leb, lt-ltb, le-ltb, and_from, and_left, and_right}
use Rattle.lists.specs.Counted.{counted}
use Rattle.sheet.specs.declared.literal.Literal.{Literal}
use Rattle.sheet.specs.Sheets.{Sheet}
use Rattle.formula.specs.declared.builder.Builder.{Builder}
use Rattle.formula.specs.Formulas.{width, Formula, Gates}
use Rattle.formula.specs.Conjunction.{opposite, Outcome, grown, short, new_gate, conjoin, negated, disjoin, Joins}
use Rattle.formula.specs.Built.{literal, built, JoinsBy}
use Rattle.formula.proofs.Valued.{Fine, conjoin_fine, disjoin_fine}

pub counted_length : (f : List ℕ) (len : ℕ) → len ≡ min (length f) (2 ^ 28) → length (counted f) ≡ len
counted_length f len is = omega (arith, is, length-take (2 ^ 28) f)

no_room : (need room node most : ℕ) → (room < need) ⊎ (most ≤ node) → (leb need room && ltb node most) ≡ false
no_room need room node most =
    ⊎_elim
    (λ (h : room < need). and_left (leb need room) (ltb node most) (lt-leb need room h))
    (λ (h : most ≤ node). and_right (leb need room) (ltb node most) (le-ltb node most h))

module _ (w n : ℕ) (f : List ℕ) (a b len : ℕ) (is : len ≡ min (length f) (2 ^ 28)) where
  abbrev gate : ℕ → Outcome
  gate room = cond (leb (2 * n + 2) room && ltb (w + n) (2 ^ 31)) (grown (2 * (w + n)) (n + 1) (set (set f (2 * n) a) (2 * n + 1) b)) short

  pub gate_short : (len < 2 * n + 2) ⊎ (2 ^ 31 ≤ w + n) → new_gate w n f a b ≡ short
  gate_short why = ap gate (counted_length f len is) ∙ cond-false _ _ _ (no_room (2 * n + 2) len (w + n) (2 ^ 31) why)

  pub gate_grown : 2 * n + 2 ≤ len → w + n < 2 ^ 31 → new_gate w n f a b ≡ grown (2 * (w + n)) (n + 1) (set (set f (2 * n) a) (2 * n + 1) b)
  gate_grown h l =
      ap gate (counted_length f len is)
      ∙ cond-true _ _ _ (and_from (leb (2 * n + 2) len) (ltb (w + n) (2 ^ 31)) (le-leb (2 * n + 2) len h) (lt-ltb (w + n) (2 ^ 31) l))

abbrev Found : Type 0
Found = Option Literal × Builder × List ℕ

-- what a caller finds, part by part
module _ (r r' : Option Literal) (g g' : Builder) (f f' : List ℕ) (e : ◌≡◌ {A = Found} (r, g, f) (r', g', f')) where
  answers : r ≡ r'
  answers = ap (λ (q : Found). q.0) e

  counts : g ≡ g'
  counts = ap (λ (q : Found). q.1) e

  lists : f ≡ f'
  lists = ap (λ (q : Found). q.2) e

none_some : (x : Literal) → None ≡ Some x → ⊥
none_some x h = let z : ◌≡◌ {A = ℕ} 0 1 = cc in omega arith

-- an outcome, by what a caller finds
pub by_some : (g : Builder) (f : List ℕ) (o : Outcome) (x : Literal) (g' : Builder) (f' : List ℕ)
    → ◌≡◌ {A = Found} (Some x, g', f') (built g f o) → (o ≡ grown x.0 g'.count f') × (g'.width ≡ g.width)
by_some g f (grown y n h) x g' f' e =
    let p : Some x ≡ Some (literal y) = answers _ _ _ _ _ _ e in
    let q : g' ≡ record { width = g.width; count = n } = counts _ _ _ _ _ _ e in
    let number : y ≡ x.0 = cc in
    let count : n ≡ g'.count = ap (λ (b : Builder). b.count) (sym q) in
    let list : h ≡ f' = sym (lists _ _ _ _ _ _ e) in
    ((λ i. grown (number i) (count i) (list i)), ap (λ (b : Builder). b.width) q)
by_some g f short x g' f' e = absurd (none_some x (sym (answers _ _ _ _ _ _ e)))

pub by_none : (g : Builder) (f : List ℕ) (o : Outcome) (g' : Builder) (f' : List ℕ)
    → ◌≡◌ {A = Found} (None, g', f') (built g f o) → (o ≡ short) × (g' ≡ g) × (f' ≡ f)
by_none g f (grown y n h) g' f' e = absurd (none_some (literal y) (answers _ _ _ _ _ _ e))
by_none g f short g' f' e = (refl, counts _ _ _ _ _ _ e, lists _ _ _ _ _ _ e)

joins_by : (op : Bool → Bool → Bool) (g : Builder) (f : List ℕ) (a b : Literal) (o : Outcome)
    → ((s : Sheet) → width s ≡ g.width → Gates s f g.count → Formula s g.count a.0 → Formula s g.count b.0 → Fine s op f g.count a.0 b.0 o)
    → (r : Option Literal) (g' : Builder) (f' : List ℕ) → ◌≡◌ {A = Found} (r, g', f') (built g f o) → JoinsBy op g f a b g' f' r
joins_by op g f a b (grown x n h) fine r g' f' e s w gates fa fb =
    subst (λ (q : Found). IfSome q.0 (λ y. Joins op s f g.count a.0 b.0 q.2 q.1.count y.0)) (sym e) (fine s w gates fa fb)
joins_by op g f a b short fine r g' f' e s w gates fa fb =
    subst (λ (q : Found). IfSome q.0 (λ y. Joins op s f g.count a.0 b.0 q.2 q.1.count y.0)) (sym e) tt

module _ (g : Builder) (f : List ℕ) (a b : Literal) (r : Option Literal) (g' : Builder) (f' : List ℕ) where
  pub conjoin_joins : ◌≡◌ {A = Found} (r, g', f') (built g f (conjoin g.width g.count f a.0 b.0)) → JoinsBy ◌&&◌ g f a b g' f' r
  conjoin_joins =
      joins_by ◌&&◌ g f a b (conjoin g.width g.count f a.0 b.0)
      (λ s w gates fa fb. subst (λ (w : ℕ). Fine s ◌&&◌ f g.count a.0 b.0 (conjoin w g.count f a.0 b.0)) w (conjoin_fine s f g.count a.0 b.0 gates fa fb))
      r g' f'

  pub disjoin_joins : ◌≡◌ {A = Found} (r, g', f') (built g f (disjoin g.width g.count f a.0 b.0)) → JoinsBy ◌||◌ g f a b g' f' r
  disjoin_joins =
      joins_by ◌||◌ g f a b (disjoin g.width g.count f a.0 b.0)
      (λ s w gates fa fb. subst (λ (w : ℕ). Fine s ◌||◌ f g.count a.0 b.0 (disjoin w g.count f a.0 b.0)) w (disjoin_fine s f g.count a.0 b.0 gates fa fb))
      r g' f'

-- an OR, by the AND that it is made of
module _ (g : Builder) (f : List ℕ) (a b a' b' : ℕ) (p : a' ≡ opposite a) (q : b' ≡ opposite b) (g' : Builder) (f' : List ℕ) where
  abbrev both : ℕ → ℕ → Outcome
  both x y = conjoin g.width g.count f x y

  negated_some : (o : Outcome) (x y : Literal) → ◌≡◌ {A = Found} (Some x, g', f') (built g f o) → y.0 ≡ opposite x.0 → ◌≡◌ {A = Found} (Some y, g', f') (built g f (negated o))
  negated_some (grown z n h) x y e is =
      let same : Some x ≡ Some (literal z) = answers _ _ _ _ _ _ e in
      let number : x.0 ≡ z = cc in
      ap (λ (l : ℕ). let t : Found = (Some (literal l), g', f') in t) (is ∙ ap opposite number)
      ∙ ap (λ (t : Found). let t' : Found = (Some (literal (opposite z)), t.1, t.2) in t') e
  negated_some short x y e is = absurd (none_some x (sym (answers _ _ _ _ _ _ e)))

  pub or_some : (x y : Literal) → y.0 ≡ opposite x.0 → ◌≡◌ {A = Found} (Some x, g', f') (built g f (both a' b'))
      → ◌≡◌ {A = Found} (Some y, g', f') (built g f (disjoin g.width g.count f a b))
  or_some x y is e = negated_some (both (opposite a) (opposite b)) x y (e ∙ (λ i. built g f (both (p i) (q i)))) is
