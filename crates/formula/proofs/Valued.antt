-- The values of formulas as gates are added. Assumes nothing.
use Rattle.std.proofs.Common.{◌≡◌, ℕ, zero, suc, ◌+◌, ◌-◌, ◌*◌, ◌/◌, ◌%◌, ◌^◌, ◌<◌, ◌≤◌, min, max, Bool, true, false, cond, not, ◌&&◌, ◌||◌, eqb, ltb, leb, ◌≢◌, ◌⊎◌, List, length, get_or, set, Some, Option, sym, refl, ap, ◌∙◌, subst, inl, inr, ⊎_elim, add-one, arith, length-set, length-take}
use Rattle.std.proofs.lemmas.List.{get_or-set_same, get_or-set_other}
use Rattle.std.proofs.lemmas.Bool.{cond-true, cond-false, cond_both, eq-eqb, ne_eqb, eqb-true, eqb-false, leb-true, cases_eq, cases_lt, and_parts, and_right, or_cases, or_parts}
use Rattle.lists.specs.Counted.{counted}
use Rattle.sheet.specs.Sheets.{Sheet}
use Rattle.signal.specs.Truth.{lit}
use Rattle.machine.specs.Values.{chain}
use Rattle.machine.proofs.Chains.{lit_same, both_same, chain_below}
use Rattle.formula.specs.Formulas.{width, left_of, right_of, held, nodes_at, value_at, Named, Formula, Gates}
use Rattle.formula.specs.Conjunction.{opposite, Outcome, grown, short, new_gate, conjoin_by, conjoin, negated, disjoin, Extends, Joins}

-- ---- bits
not_not : (b : Bool) → not (not b) ≡ b
not_not true = refl
not_not false = refl

and_comm : (b c : Bool) → (b && c) ≡ (c && b)
and_comm true true = refl
and_comm true false = refl
and_comm false true = refl
and_comm false false = refl

and_self : (b : Bool) → (b && b) ≡ b
and_self true = refl
and_self false = refl

and_true : (b : Bool) → (b && true) ≡ b
and_true true = refl
and_true false = refl

and_not : (b : Bool) → (b && not b) ≡ false
and_not true = refl
and_not false = refl

not_and_not : (b c : Bool) → not (not b && not c) ≡ (b || c)
not_and_not true true = refl
not_and_not true false = refl
not_and_not false true = refl
not_and_not false false = refl

-- ---- literals
pub lit_even : (v : ℕ → Bool) (j : ℕ) → lit v (2 * j) ≡ v j
lit_even v j =
    let r : (2 * j) % 2 ≡ 0 = omega arith in
    let h : (2 * j) / 2 ≡ j = omega arith in
    cond-true _ _ _ (eq-eqb _ _ r) ∙ ap v h

-- of one node, with the other sign
lit_other : (v : ℕ → Bool) (x y : ℕ) → x / 2 ≡ y / 2 → (x ≡ y → ⊥) → lit v y ≡ not (lit v x)
lit_other v x y h ne =
    ⊎_elim
    (λ (e : x % 2 ≡ 0).
    let o : y % 2 ≡ 0 → ⊥ = λ z. ne (omega arith) in
    cond-false _ _ _ (ne_eqb _ _ o) ∙ ap (λ j. not (v j)) (sym h) ∙ ap not (sym (cond-true _ _ _ (eq-eqb _ _ e))))
    (λ (e : x % 2 ≡ 0 → ⊥).
    let o : y % 2 ≡ 0 = ⊎_elim (λ (z : y % 2 ≡ 0). z) (λ (z : y % 2 ≡ 0 → ⊥). absurd (ne (omega arith))) (cases_eq (y % 2) 0) in
    cond-true _ _ _ (eq-eqb _ _ o) ∙ ap v (sym h) ∙ sym (not_not (v (x / 2))) ∙ ap not (sym (cond-false _ _ _ (ne_eqb _ _ e))))
    (cases_eq (x % 2) 0)

pub opposite_is : (x : ℕ) → (x / 2 ≡ opposite x / 2) × (x ≡ opposite x → ⊥)
opposite_is x =
    cond_both (eqb (x % 2) 1) (x - 1) (x + 1) (λ y. (x / 2 ≡ y / 2) × (x ≡ y → ⊥))
    (λ e. let h : x % 2 ≡ 1 = eqb-true _ _ e in (omega arith, λ z. omega arith))
    (λ e. let h : x % 2 ≡ 1 → ⊥ = eqb-false _ _ e in (omega arith, λ z. omega arith))

pub lit_opposite : (v : ℕ → Bool) (x : ℕ) → lit v (opposite x) ≡ not (lit v x)
lit_opposite v x = lit_other v x (opposite x) (opposite_is x).0 (opposite_is x).1

-- ---- gates
-- the same operands give the same values
chain_same : (first : ℕ) (l r l' r' : ℕ → ℕ) (v : ℕ → Bool) (n : ℕ) → ((g : ℕ) → g < n → l' g ≡ l g) → ((g : ℕ) → g < n → r' g ≡ r g) → (j : ℕ) → chain first l' r' v n j ≡ chain first l r v n j
chain_same first l r l' r' v zero p q j = refl
chain_same first l r l' r' v (suc n) p q j =
    let was = chain first l r v n in
    let is = chain first l' r' v n in
    let less = chain_same first l r l' r' v n (λ g h. p g (omega arith)) (λ g h. q g (omega arith)) in
    let a : lit is (l' n) ≡ lit was (l n) = ap (lit is) (p n (omega arith)) ∙ lit_same is was (l n) (less (l n / 2)) in
    let b : lit is (r' n) ≡ lit was (r n) = ap (lit is) (q n (omega arith)) ∙ lit_same is was (r n) (less (r n / 2)) in
    ap (λ x. cond (eqb j (first + n)) x (is j)) (both_same a b) ∙ ap (λ x. cond (eqb j (first + n)) (lit was (l n) && lit was (r n)) x) (less j)

-- two lists have the same pairs of n gates
abbrev pub SamePairs : List ℕ → List ℕ → ℕ → Type 0
SamePairs f f' n = (k : ℕ) → k < 2 * n → get_or f' k 0 ≡ get_or f k 0

module _ (s : Sheet) where
  named_more : (m n j : ℕ) → m ≤ n → Named s m j → Named s n j
  named_more m n j h = ⊎_elim (λ (p : (s.inputs < j) × (j ≤ s.inputs + s.latches)). inl p) (λ (p : (width s ≤ j) × (j < width s + m)). inr (p.0, omega arith))

  pub formula_more : (m n x : ℕ) → m ≤ n → Formula s m x → Formula s n x
  formula_more m n x h = ⊎_elim (λ (z : x / 2 ≡ 0). inl z) (λ (p : Named s m (x / 2)). inr (named_more m n (x / 2) h p))

  named_low : (n j : ℕ) → Named s n j → (0 < j) × (j < width s + n)
  named_low n j = ⊎_elim (λ (p : (s.inputs < j) × (j ≤ s.inputs + s.latches)). (omega arith, omega arith)) (λ (p : (width s ≤ j) × (j < width s + n)). (omega arith, p.1))

  pub formula_low : (n x : ℕ) → Formula s n x → x / 2 < width s + n
  formula_low n x = ⊎_elim (λ (z : x / 2 ≡ 0). omega arith) (λ (p : Named s n (x / 2)). (named_low n (x / 2) p).1)

  formula_named : (n x : ℕ) → Formula s n x → (x / 2 ≡ 0 → ⊥) → Named s n (x / 2)
  formula_named n x h ne = ⊎_elim (λ (z : x / 2 ≡ 0). absurd (ne z)) (λ (p : Named s n (x / 2)). p) h

  pub formula_opposite : (n x : ℕ) → Formula s n x → Formula s n (opposite x)
  formula_opposite n x h = subst (λ (j : ℕ). (j ≡ 0) ⊎ Named s n j) (opposite_is x).0 h

  pub nodes_same : (f f' : List ℕ) (n : ℕ) → SamePairs f f' n → (c : ℕ → Bool) (j : ℕ) → nodes_at s f' n c j ≡ nodes_at s f n c j
  nodes_same f f' n same c =
      chain_same (width s) (left_of f) (right_of f) (left_of f') (right_of f') (held s c) n
      (λ g h. same (2 * g) (omega arith)) (λ g h. same (2 * g + 1) (omega arith))

  pub value_same : (f f' : List ℕ) (n : ℕ) → SamePairs f f' n → (c : ℕ → Bool) (x : ℕ) → value_at s f' n c x ≡ value_at s f n c x
  value_same f f' n same c x = lit_same (nodes_at s f' n c) (nodes_at s f n c) x (nodes_same f f' n same c (x / 2))

  pub gates_same : (f f' : List ℕ) (n : ℕ) → SamePairs f f' n → Gates s f n → Gates s f' n
  gates_same f f' n same gates =
      let l : (g : ℕ) → g < n → left_of f g ≡ left_of f' g = λ g h. sym (same (2 * g) (omega arith)) in
      let r : (g : ℕ) → g < n → right_of f g ≡ right_of f' g = λ g h. sym (same (2 * g + 1) (omega arith)) in
      record {
        lefts = λ g h. subst (λ (x : ℕ). Named s g (x / 2)) (l g h) (gates.lefts g h);
        rights = λ g h. subst (λ (x : ℕ). Named s g (x / 2)) (r g h) (gates.rights g h);
        order = λ g h. omega (arith, l g h, r g h, gates.order g h);
      }

  pub gates_none : (f : List ℕ) → Gates s f 0
  gates_none f = record { lefts = λ g h. absurd (omega arith); rights = λ g h. absurd (omega arith); order = λ g h. absurd (omega arith) }

  -- the constant
  pub value_zero : (f : List ℕ) (n : ℕ) (c : ℕ → Bool) → value_at s f n c 0 ≡ false
  value_zero f n c = chain_below (width s) (left_of f) (right_of f) (held s c) n 0 (omega arith)

  pub value_one : (f : List ℕ) (n : ℕ) (c : ℕ → Bool) → value_at s f n c 1 ≡ true
  value_one f n c = ap not (value_zero f n c)

  -- the bit of a latch
  pub node_latch : (f : List ℕ) (n : ℕ) (c : ℕ → Bool) (i : ℕ) → i < s.latches → nodes_at s f n c (1 + s.inputs + i) ≡ c i
  node_latch f n c i h =
      let j = 1 + s.inputs + i in
      let ne : j ≡ 0 → ⊥ = λ e. omega arith in
      let back : j - 1 - s.inputs ≡ i = omega arith in
      chain_below (width s) (left_of f) (right_of f) (held s c) n j (omega arith) ∙ cond-false _ _ _ (ne_eqb _ _ ne) ∙ ap c back

  pub extends_refl : (f : List ℕ) (n : ℕ) → Gates s f n → Extends s f n f n
  extends_refl f n gates = record { more = omega arith; gates = gates; kept = λ c x h. refl }

  pub extends_trans : (f g h : List ℕ) (l m n : ℕ) → Extends s f l g m → Extends s g m h n → Extends s f l h n
  extends_trans f g h l m n a b =
      record {
        more = omega (arith, a.more, b.more);
        gates = b.gates;
        kept = λ c x k. b.kept c x (formula_more l m x a.more k) ∙ a.kept c x k;
      }

  -- a new gate, the higher node left
  module _ (f : List ℕ) (n hi lo : ℕ) (room : 2 * n + 2 ≤ length f) (gates : Gates s f n) (high : Named s n (hi / 2)) (low : Named s n (lo / 2)) (order : lo / 2 < hi / 2) where
    abbrev more : List ℕ
    more = set (set f (2 * n) hi) (2 * n + 1) lo

    front : SamePairs f more n
    front k h =
        let p : k ≢ 2 * n + 1 = λ e. omega arith in
        let q : k ≢ 2 * n = λ e. omega arith in
        get_or-set_other (set f (2 * n) hi) (2 * n + 1) k lo 0 p ∙ get_or-set_other f (2 * n) k hi 0 q

    at_left : left_of more n ≡ hi
    at_left =
        let p : 2 * n ≢ 2 * n + 1 = λ e. omega arith in
        get_or-set_other (set f (2 * n) hi) (2 * n + 1) (2 * n) lo 0 p ∙ get_or-set_same f (2 * n) hi 0 (omega arith)

    at_right : right_of more n ≡ lo
    at_right = get_or-set_same (set f (2 * n) hi) (2 * n + 1) lo 0 (omega (arith, length-set f (2 * n) hi))

    -- what holds of the old gates and of the new one
    each : (P : ℕ → Type 0) → ((g : ℕ) → g < n → P g) → P n → (g : ℕ) → g < n + 1 → P g
    each P old new g h = ⊎_elim (λ (l : g < n). old g l) (λ (l : n ≤ g). let e : n ≡ g = omega arith in subst P e new) (cases_lt g n)

    all_gates : Gates s more (n + 1)
    all_gates =
        let old = gates_same f more n front gates in
        record {
          lefts = each (λ g. Named s g (left_of more g / 2)) old.lefts (subst (λ (x : ℕ). Named s n (x / 2)) (sym at_left) high);
          rights = each (λ g. Named s g (right_of more g / 2)) old.rights (subst (λ (x : ℕ). Named s n (x / 2)) (sym at_right) low);
          order = each (λ g. right_of more g / 2 < left_of more g / 2) old.order (omega (arith, at_left, at_right));
        }

    module _ (c : ℕ → Bool) where
      before : (x : ℕ) → value_at s more n c x ≡ value_at s f n c x
      before = value_same f more n front c

      node_kept : (j : ℕ) → j < width s + n → nodes_at s more (suc n) c j ≡ nodes_at s f n c j
      node_kept j h =
          let ne : j ≡ width s + n → ⊥ = λ e. omega arith in
          cond-false _ _ _ (ne_eqb _ _ ne) ∙ nodes_same f more n front c j

      node_new : nodes_at s more (suc n) c (width s + n) ≡ (value_at s f n c hi && value_at s f n c lo)
      node_new =
          cond-true _ _ _ (eq-eqb (width s + n) (width s + n) refl)
          ∙ both_same (ap (value_at s more n c) at_left ∙ before hi) (ap (value_at s more n c) at_right ∙ before lo)

    gate_joins : Joins ◌&&◌ s f n hi lo more (n + 1) (2 * (width s + n))
    gate_joins =
        let node : (2 * (width s + n)) / 2 ≡ width s + n = omega arith in
        record {
          extends = record {
            more = omega arith;
            gates = all_gates;
            kept = λ c x h. rw (add-one n) (lit_same (nodes_at s more (suc n) c) (nodes_at s f n c) x (node_kept c (x / 2) (formula_low n x h)));
          };
          formula = inr (inr (omega arith, omega arith));
          value = λ c. rw (add-one n) (lit_even (nodes_at s more (suc n) c) (width s + n) ∙ node_new c);
        }

  -- an outcome is as it should be
  abbrev pub Fine : (Bool → Bool → Bool) → List ℕ → ℕ → ℕ → ℕ → Outcome → Type 0
  Fine op f n a b (grown x n' f') = Joins op s f n a b f' n' x
  Fine op f n a b short = Unit {0}

  swapped : (f : List ℕ) (n a b : ℕ) (o : Outcome) → Fine ◌&&◌ f n b a o → Fine ◌&&◌ f n a b o
  swapped f n a b (grown x n' f') j =
      record { extends = j.extends; formula = j.formula; value = λ c. j.value c ∙ and_comm (value_at s f n c b) (value_at s f n c a) }
  swapped f n a b short j = tt

  gate_fine : (f : List ℕ) (n hi lo : ℕ) → Gates s f n → Named s n (hi / 2) → Named s n (lo / 2) → lo / 2 < hi / 2 → Fine ◌&&◌ f n hi lo (new_gate (width s) n f hi lo)
  gate_fine f n hi lo gates high low order =
      cond_both (leb (2 * n + 2) (length (counted f)) && ltb (width s + n) (2 ^ 31)) _ _ (Fine ◌&&◌ f n hi lo)
      (λ e.
      let l = leb-true (2 * n + 2) (length (counted f)) (and_parts _ _ e).0 in
      gate_joins f n hi lo (omega (arith, l, length-take (2 ^ 28) f)) gates high low order)
      (λ e. tt)

  sorted_fine : (f : List ℕ) (n a b : ℕ) → Gates s f n → Named s n (a / 2) → Named s n (b / 2) → (a / 2 ≡ b / 2 → ⊥) → Fine ◌&&◌ f n a b (new_gate (width s) n f (max a b) (min a b))
  sorted_fine f n a b gates p q ne =
      let G : ℕ → ℕ → Type 0 = λ x y. Fine ◌&&◌ f n a b (new_gate (width s) n f x y) in
      ⊎_elim
      (λ (l : a < b).
      let x : b ≡ max a b = omega arith in
      let y : a ≡ min a b = omega arith in
      let less : a / 2 < b / 2 = omega arith in
      subst (λ z. G z (min a b)) x (subst (λ z. G b z) y (swapped f n a b (new_gate (width s) n f b a) (gate_fine f n b a gates q p less))))
      (λ (l : b ≤ a).
      let x : a ≡ max a b = omega arith in
      let y : b ≡ min a b = omega arith in
      let less : b / 2 < a / 2 = omega arith in
      subst (λ z. G z (min a b)) x (subst (λ z. G a z) y (gate_fine f n a b gates p q less)))
      (cases_lt a b)

  module _ (f : List ℕ) (n a b : ℕ) (gates : Gates s f n) (fa : Formula s n a) (fb : Formula s n b) where
    -- a literal that needs no gate
    stays : (x : ℕ) → Formula s n x → ((c : ℕ → Bool) → value_at s f n c x ≡ (value_at s f n c a && value_at s f n c b)) → Fine ◌&&◌ f n a b (conjoin_by (width s) n f a b (Some x))
    stays x h v = record { extends = extends_refl f n gates; formula = h; value = v }

    -- AND with a literal of value false, on either side
    false_left : (c : ℕ → Bool) → a ≡ 0 → (value_at s f n c a && value_at s f n c b) ≡ false
    false_left c e = ap (λ (x : ℕ). value_at s f n c x && value_at s f n c b) e ∙ ap (λ x. x && value_at s f n c b) (value_zero f n c)

    false_right : (c : ℕ → Bool) → b ≡ 0 → (value_at s f n c a && value_at s f n c b) ≡ false
    false_right c e = and_right (value_at s f n c a) (value_at s f n c b) (ap (value_at s f n c) e ∙ value_zero f n c)

    opposed : (c : ℕ → Bool) → a / 2 ≡ b / 2 → (a ≡ b → ⊥) → (value_at s f n c a && value_at s f n c b) ≡ false
    opposed c h ne = ap (λ x. value_at s f n c a && x) (lit_other (nodes_at s f n c) a b h ne) ∙ and_not (value_at s f n c a)

    pub conjoin_fine : Fine ◌&&◌ f n a b (conjoin (width s) n f a b)
    conjoin_fine =
        let G : Option ℕ → Type 0 = λ o. Fine ◌&&◌ f n a b (conjoin_by (width s) n f a b o) in
        cond_both (eqb a b) _ _ G
        (λ e.
        let same : a ≡ b = eqb-true a b e in
        stays a fa (λ c. sym (and_self (value_at s f n c a)) ∙ ap (λ (x : ℕ). value_at s f n c a && value_at s f n c x) same))
        (λ ne. cond_both (eqb (a / 2) (b / 2) || (eqb a 0 || eqb b 0)) _ _ G
        (λ e. stays 0 (inl refl) (λ c. value_zero f n c ∙ sym (⊎_elim
        (λ h. opposed c (eqb-true _ _ h) (eqb-false a b ne))
        (λ h. ⊎_elim (λ k. false_left c (eqb-true a 0 k)) (λ k. false_right c (eqb-true b 0 k)) (or_cases (eqb a 0) (eqb b 0) h))
        (or_cases (eqb (a / 2) (b / 2)) (eqb a 0 || eqb b 0) e))))
        (λ far. cond_both (eqb a 1) _ _ G
        (λ k.
        let one : a ≡ 1 = eqb-true a 1 k in
        stays b fb (λ c. sym (ap (λ (x : ℕ). value_at s f n c x && value_at s f n c b) one ∙ ap (λ x. x && value_at s f n c b) (value_one f n c))))
        (λ p. cond_both (eqb b 1) _ _ G
        (λ k.
        let one : b ≡ 1 = eqb-true b 1 k in
        stays a fa (λ c. sym (ap (λ (x : ℕ). value_at s f n c a && value_at s f n c x) one ∙ ap (λ x. value_at s f n c a && x) (value_one f n c) ∙ and_true (value_at s f n c a))))
        (λ q.
        let apart = or_parts (eqb (a / 2) (b / 2)) (eqb a 0 || eqb b 0) far in
        let some = or_parts (eqb a 0) (eqb b 0) apart.1 in
        let a0 : a ≡ 0 → ⊥ = eqb-false a 0 some.0 in
        let b0 : b ≡ 0 → ⊥ = eqb-false b 0 some.1 in
        let a1 : a ≡ 1 → ⊥ = eqb-false a 1 p in
        let b1 : b ≡ 1 → ⊥ = eqb-false b 1 q in
        sorted_fine f n a b gates (formula_named n a fa (λ z. omega arith)) (formula_named n b fb (λ z. omega arith)) (eqb-false _ _ apart.0)))))

  turned : (f : List ℕ) (n a b : ℕ) (o : Outcome) → Fine ◌&&◌ f n (opposite a) (opposite b) o → Fine ◌||◌ f n a b (negated o)
  turned f n a b (grown x n' f') j =
      record {
        extends = j.extends;
        formula = formula_opposite n' x j.formula;
        value = λ c.
            lit_opposite (nodes_at s f' n' c) x
            ∙ ap not (j.value c ∙ both_same (lit_opposite (nodes_at s f n c) a) (lit_opposite (nodes_at s f n c) b))
            ∙ not_and_not (value_at s f n c a) (value_at s f n c b);
      }
  turned f n a b short j = tt

  pub disjoin_fine : (f : List ℕ) (n a b : ℕ) → Gates s f n → Formula s n a → Formula s n b → Fine ◌||◌ f n a b (disjoin (width s) n f a b)
  disjoin_fine f n a b gates fa fb =
      turned f n a b (conjoin (width s) n f (opposite a) (opposite b))
      (conjoin_fine f n (opposite a) (opposite b) gates (formula_opposite n a fa) (formula_opposite n b fb))
