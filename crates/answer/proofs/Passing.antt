-- A pass over two clauses, from literal to literal. Assumes nothing.
use Rattle.std.proofs.Common.{◌≡◌, ℕ, ◌+◌, ◌-◌, ◌*◌, ◌<◌, ◌≤◌, min, Bool, true, false, cond, eqb, leb, ◌&&◌, ◌||◌, ◌⊎◌, List, [], ◌∷◌, ◌++◌, length, get_or, take, drop, Some, None, Option, is_some, sym, refl, ap, ◌∙◌, subst, ⊎_elim, arith, length-drop}
use Rattle.std.specs.Bool.{then_some}
use Rattle.std.specs.Int.{from_bool}
use Rattle.std.proofs.lemmas.Bool.{false≢true, cond-true, cond-false, lt-ltb, le-ltb, le-leb, lt-leb, eq-eqb, ne_eqb, leb-true, cases_lt}
use Rattle.std.proofs.lemmas.List.{append-nil, take_all}
use Rattle.answer.specs.declared.passes.Tally.{Tally}
use Rattle.answer.specs.Joint.{union, has}
use Rattle.answer.specs.Passes.{due, filled, Took, Taken}

none : (f a : Bool) → f ≡ (f || (a && false))
none true a = refl
none false true = refl
none false false = refl

-- whether a literal has come, after one more that may be it and others
told : (f a e h : Bool) → ((f || (a && cond e true false)) || (a && h)) ≡ (f || (a && cond e true h))
told true a e h = refl
told false true true h = refl
told false true false h = refl
told false false e h = refl

module _ (t t' : Tally) (a b : Bool) (w w' : List ℕ) (x : ℕ) (took : Took t t' a b w w' (x ∷ [])) where
  pub taken_more : (v zs : List ℕ) (r : Option Tally) → Taken t' a b w' v zs r → Taken t a b w v (x ∷ zs) r
  taken_more v zs None h = λ u. took.ends (zs ++ u) ∙ h u
  taken_more v zs (Some t'') h = record {
    pivot = h.pivot ∙ took.pivot;
    ends = λ u. took.ends (zs ++ u) ∙ h.ends u;
    writes = λ u. took.writes (zs ++ u) ∙ h.writes u;
    plain = rw (h.plain, took.plain, took.pivot) (told t.plain a _ _);
    negated = rw (h.negated, took.negated, took.pivot) (told t.negated b _ _);
    fits = λ l. h.fits (took.fits l);
  }

pub taken_none : (t : Tally) (a b : Bool) (w : List ℕ) → Took t t a b w w []
taken_none t a b w = record {
  pivot = refl;
  ends = λ u. refl;
  writes = λ u. refl;
  plain = none t.plain a;
  negated = none t.negated b;
  fits = λ h. h;
}

-- ---- what is left of two clauses
-- what comes of the literals xs of the first clause and ys of the second
abbrev pub Ends : Tally → List ℕ → List ℕ → List ℕ → List ℕ → Option ℕ → Type 0
Ends t w v xs ys n =
    (n ≡ cond ((t.plain || has (2 * t.pivot) xs) && (t.negated || has (2 * t.pivot + 1) ys)) (due t (length w) (union xs ys)) None)
    × (is_some n ≡ true → v ≡ filled t w (union xs ys))

union_turn : (x y : ℕ) (xs ys : List ℕ) → union (x ∷ xs) (y ∷ ys) ≡ min x y ∷ union (cond (leb x y) xs (x ∷ xs)) (cond (leb y x) ys (y ∷ ys))
union_turn x y xs ys =
    ⊎_elim
    (λ (l : x < y).
    let m : min x y ≡ x = omega arith in
    let a = le-leb x y (omega arith) in
    let b = lt-leb y x l in
    rw (m, a, b) (cond-true _ _ _ (lt-ltb x y l)))
    (λ (l : y ≤ x). ⊎_elim
    (λ (k : y < x).
    let m : min x y ≡ y = omega arith in
    let a = lt-leb x y k in
    let b = le-leb y x l in
    rw (m, a, b) (cond-false _ _ _ (le-ltb x y l) ∙ cond-true _ _ _ (lt-ltb y x k)))
    (λ (k : x ≤ y).
    let m : min x y ≡ x = omega arith in
    let a = le-leb x y k in
    let b = le-leb y x l in
    rw (m, a, b) (cond-false _ _ _ (le-ltb x y l) ∙ cond-false _ _ _ (le-ltb y x k)))
    (cases_lt y x))
    (cases_lt x y)

-- a list that the literal may come from, which is then the first of the list
seen : (z x m : ℕ) (xs : List ℕ) (f f' a : Bool) → (a ≡ true → m ≡ x) → f' ≡ (f || (a && has z (m ∷ []))) → (f || has z (x ∷ xs)) ≡ (f' || has z (cond a xs (x ∷ xs)))
seen z x m xs f f' true same is = let e = same refl in rw (is, e) (sym (told f true (eqb x z) (has z xs)))
seen z x m xs f f' false same is = rw is (ap (λ b. b || has z (x ∷ xs)) (none f false))

module _ (t t' : Tally) (w w' v : List ℕ) (n : Option ℕ) where
  turned : (x y : ℕ) (xs ys : List ℕ) → Took t t' (leb x y) (leb y x) w w' (min x y ∷ []) →
      Ends t' w' v (cond (leb x y) xs (x ∷ xs)) (cond (leb y x) ys (y ∷ ys)) n → Ends t w v (x ∷ xs) (y ∷ ys) n
  turned x y xs ys took h =
      let xs' : List ℕ = cond (leb x y) xs (x ∷ xs) in
      let ys' : List ℕ = cond (leb y x) ys (y ∷ ys) in
      let u : List ℕ = union xs' ys' in
      let p = seen (2 * t.pivot) x (min x y) xs t.plain t'.plain (leb x y) (λ e. let l = leb-true x y e in omega arith) took.plain in
      let q = seen (2 * t.pivot + 1) y (min x y) ys t.negated t'.negated (leb y x) (λ e. let l = leb-true y x e in omega arith) took.negated in
      let next = union_turn x y xs ys in (
        h.0
            ∙ ap (λ k. cond ((t'.plain || has (2 * k) xs') && (t'.negated || has (2 * k + 1) ys')) (due t' (length w') u) None) took.pivot
            ∙ ap (λ k. cond (k && (t'.negated || has (2 * t.pivot + 1) ys')) (due t' (length w') u) None) (sym p)
            ∙ ap (λ k. cond ((t.plain || has (2 * t.pivot) (x ∷ xs)) && k) (due t' (length w') u) None) (sym q)
            ∙ ap (λ k. cond ((t.plain || has (2 * t.pivot) (x ∷ xs)) && (t.negated || has (2 * t.pivot + 1) (y ∷ ys))) k None) (sym (ap (due t (length w)) next ∙ took.ends u)),
        λ s. h.1 s ∙ sym (took.writes u) ∙ ap (filled t w) (sym next),
      )

  turned_first : (f s f' s' : List ℕ) → 0 < length f → 0 < length s →
      f' ≡ cond (leb (get_or f 0 0) (get_or s 0 0)) (drop 1 f) f → s' ≡ cond (leb (get_or s 0 0) (get_or f 0 0)) (drop 1 s) s →
      (m : ℕ) → m ≡ min (get_or f 0 0) (get_or s 0 0) → Took t t' (leb (get_or f 0 0) (get_or s 0 0)) (leb (get_or s 0 0) (get_or f 0 0)) w w' (m ∷ []) →
      Ends t' w' v f' s' n → Ends t w v f s n
  turned_first [] s f' s' some other a b m is took h = absurd (omega (arith, some))
  turned_first (x ∷ xs) [] f' s' some other a b m is took h = absurd (omega (arith, other))
  turned_first (x ∷ xs) (y ∷ ys) f' s' some other a b m is took h = turned x y xs ys (subst (λ z. Took t t' (leb x y) (leb y x) w w' (z ∷ [])) is took) (subst (λ k. Ends t' w' v k (cond (leb y x) ys (y ∷ ys)) n) a (subst (λ k. Ends t' w' v f' k n) b h))

  -- the lower of the first literals is taken, from the first list if a, and from the second if b
  pub turn : (a b : Bool) (f s f' s' : List ℕ) → 0 < length f → 0 < length s →
      leb (get_or f 0 0) (get_or s 0 0) ≡ a → leb (get_or s 0 0) (get_or f 0 0) ≡ b →
      f' ≡ cond a (drop 1 f) f → s' ≡ cond b (drop 1 s) s →
      (m : ℕ) → m ≡ min (get_or f 0 0) (get_or s 0 0) → Took t t' a b w w' (m ∷ []) →
      Ends t' w' v f' s' n → Ends t w v f s n
  turn a b f s f' s' some other p q g h m is took =
      turned_first f s f' s' some other
      (g ∙ ap (λ k. cond k (drop 1 f) f) (sym p))
      (h ∙ ap (λ k. cond k (drop 1 s) s) (sym q))
      m is
      (subst (λ k. Took t t' k (leb (get_or s 0 0) (get_or f 0 0)) w w' (m ∷ [])) (sym p) (subst (λ k. Took t t' a k w w' (m ∷ [])) (sym q) took))

-- the lower of the first literals of two lists comes first in their union
union_next : (f s : List ℕ) → 0 < length f → 0 < length s →
    union f s
    ≡ min (get_or f 0 0) (get_or s 0 0)
    ∷ union (cond (leb (get_or f 0 0) (get_or s 0 0)) (drop 1 f) f) (cond (leb (get_or s 0 0) (get_or f 0 0)) (drop 1 s) s)
union_next [] s some other = absurd (omega (arith, some))
union_next (x ∷ xs) [] some other = absurd (omega (arith, other))
union_next (x ∷ xs) (y ∷ ys) some other = union_turn x y xs ys

-- the rest of a list from its second place
pub went : (f f' : List ℕ) → f' ≡ take (length f - 1) (drop 1 f) → f' ≡ drop 1 f
went f f' e = e ∙ take_all (length f - 1) (drop 1 f) (simp length-drop (omega arith))

-- the list goes on by a place if b
pub goes : (b : Bool) (k : ℕ) (f f' : List ℕ) → k ≡ from_bool b → f' ≡ take (length f - k) (drop k f) → f' ≡ cond b (drop 1 f) f
goes true k f f' is e = went f f' (e ∙ ap (λ n. take (length f - n) (drop n f)) is)
goes false k f f' is e = e ∙ ap (λ n. take (length f - n) (drop n f)) is ∙ take_all (length f - 0) f (omega arith)

-- where y ≤ x, x ≤ y says that the two are the same
pub tied : (x y : ℕ) → y ≤ x → leb x y ≡ eqb x y
tied x y h =
    ⊎_elim
    (λ (l : y < x). lt-leb x y l ∙ sym (ne_eqb x y (λ (e : x ≡ y). omega (arith, l, e))))
    (λ (l : x ≤ y). le-leb x y l ∙ sym (eq-eqb x y (omega arith)))
    (cases_lt y x)

union_none : (xs : List ℕ) → union xs [] ≡ xs ++ []
union_none [] = refl
union_none (x ∷ xs) = ap (λ v. x ∷ v) (union_none xs)

-- where one list has ended, the other follows
union_ends : (xs ys : List ℕ) → (xs ≡ []) ⊎ (ys ≡ []) → union xs ys ≡ xs ++ ys
union_ends xs ys e = ⊎_elim (λ h. rw h refl) (λ h. rw h (union_none xs)) e

none_either : (b : Bool) → ◌≡◌ {A = Option ℕ} None (cond b None None)
none_either true = refl
none_either false = refl

then_is : (b : Bool) (n : ℕ) → then_some b n ≡ cond b (Some n) None
then_is true n = refl
then_is false n = refl

module _ (t : Tally) (w v xs ys : List ℕ) (n : Option ℕ) where
  ends_none : due t (length w) (union xs ys) ≡ None → n ≡ None → Ends t w v xs ys n
  ends_none h e = (
    e ∙ none_either _ ∙ ap (λ k. cond ((t.plain || has (2 * t.pivot) xs) && (t.negated || has (2 * t.pivot + 1) ys)) k None) (sym h),
    λ s. absurd (false≢true (ap is_some (sym e) ∙ s)),
  )

  pub next_stops : 0 < length xs → 0 < length ys → (m : ℕ) → m ≡ min (get_or xs 0 0) (get_or ys 0 0) → ((u : List ℕ) → due t (length w) (m ∷ u) ≡ None) → n ≡ None → Ends t w v xs ys n
  next_stops some other m is h =
      let u : List ℕ = union (cond (leb (get_or xs 0 0) (get_or ys 0 0)) (drop 1 xs) xs) (cond (leb (get_or ys 0 0) (get_or xs 0 0)) (drop 1 ys) ys) in
      ends_none (ap (due t (length w)) (union_next xs ys some other ∙ ap (λ z. z ∷ u) (sym is)) ∙ h u)

  module _ (one : (xs ≡ []) ⊎ (ys ≡ [])) where
    pub first_stops : (w' : List ℕ) → Taken t true false w w' xs None → n ≡ None → Ends t w v xs ys n
    first_stops w' h = ends_none (ap (due t (length w)) (union_ends xs ys one) ∙ h ys)

    module _ (t₁ : Tally) (w₁ : List ℕ) (took : Took t t₁ true false w w₁ xs) where
      due_second : due t (length w) (union xs ys) ≡ due t₁ (length w₁) (ys ++ [])
      due_second = ap (due t (length w)) (union_ends xs ys one) ∙ took.ends ys ∙ ap (due t₁ (length w₁)) (sym (append-nil ys))

      pub second_stops : (w' : List ℕ) → Taken t₁ false true w₁ w' ys None → n ≡ None → Ends t w v xs ys n
      second_stops w' h = ends_none (due_second ∙ h [])

      module _ (t₂ : Tally) (also : Took t₁ t₂ false true w₁ v ys) (within : t.count ≤ length w) where
        found : (t₂.plain && t₂.negated) ≡ ((t.plain || has (2 * t.pivot) xs) && (t.negated || has (2 * t.pivot + 1) ys))
        found =
            let plain : t₂.plain ≡ (t.plain || has (2 * t.pivot) xs) = also.plain ∙ sym (none t₁.plain false) ∙ took.plain in
            let negated : t₂.negated ≡ (t.negated || has (2 * t.pivot + 1) ys) =
            also.negated
            ∙ ap (λ p. t₁.negated || has (2 * p + 1) ys) took.pivot
            ∙ ap (λ k. k || has (2 * t.pivot + 1) ys) (took.negated ∙ sym (none t.negated false)) in
            rw (plain, negated) refl

        ended_at : due t (length w) (union xs ys) ≡ Some t₂.count
        ended_at =
            let fits : t₂.count + 0 ≤ length v = omega (arith, also.fits (took.fits within)) in
            let same : t₂.count + 0 ≡ t₂.count = omega arith in
            due_second ∙ also.ends [] ∙ cond-true _ _ _ (le-leb _ _ fits) ∙ ap Some same

        pub both_end : (b : Bool) → b ≡ (t₂.plain && t₂.negated) → n ≡ then_some b t₂.count → Ends t w v xs ys n
        both_end b is e = (
          e
              ∙ then_is b t₂.count
              ∙ ap (λ k. cond k (Some t₂.count) None) (is ∙ found)
              ∙ ap (λ k. cond ((t.plain || has (2 * t.pivot) xs) && (t.negated || has (2 * t.pivot + 1) ys)) k None) (sym ended_at),
          λ s. sym (ap (filled t w) (union_ends xs ys one) ∙ took.writes ys ∙ ap (filled t₁ w₁) (sym (append-nil ys)) ∙ also.writes []),
        )
