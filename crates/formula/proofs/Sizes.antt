-- How many gates the start formula has: one for each start bit but the first. Assumes nothing.
use Rattle.std.proofs.Common.{◌≡◌, ℕ, zero, suc, ◌+◌, ◌-◌, ◌*◌, ◌/◌, ◌^◌, ◌<◌, ◌≤◌, min, max, cond, leb, ◌⊎◌, List, length, set as put, replicate, is_some, count_by, Some, None, Option, sym, refl, ap, ◌∙◌, inl, inr, ⊎_elim, arith, length-set, length-take}
use lib.ListN.{length-replicate}
use Rattle.std.proofs.lemmas.Bool.{cond-true, cond-false, ne_eqb, le-leb, lt-leb, cases_lt, or_from}
use Rattle.std.proofs.lemmas.List.Sums.{sum_by-cons}
use Rattle.std.specs.List.{range_with_len}
use Rattle.lists.specs.Counted.{counted}
use Rattle.sheet.specs.Sheets.{Sheet, Start, set, unset, start_bit}
use Rattle.sheet.specs.Trip.{Iff}
use Rattle.formula.specs.Formulas.{width}
use Rattle.formula.specs.Conjunction.{simple, Outcome, grown, short, new_gate, conjoin_by}
use Rattle.formula.specs.Starting.{start_literal, joined, onward, join_starts, start_in, gates_in, start_size}
use Rattle.formula.proofs.Building.{gate_short, gate_grown}
use Rattle.formula.proofs.Starts.{node_of}

module _ (s : Sheet) where
  abbrev bit : Start → ℕ
  bit (set b) = 1
  bit unset = 0

  -- how many of m latches from latch i on start with a bit
  abbrev bits : ℕ → ℕ → ℕ
  bits zero i = 0
  bits (suc m) i = bit (s.start i) + bits m (i + 1)

  -- so many have a start bit
  bit_is : (t : Start) → cond (is_some (start_bit t)) 1 0 ≡ bit t
  bit_is (set b) = refl
  bit_is unset = refl

  counted_bits : (m i : ℕ) → count_by (λ k. is_some (start_bit (s.start k))) (range_with_len i m) ≡ bits m i
  counted_bits zero i = refl
  counted_bits (suc m) i =
      sum_by-cons (λ k. cond (is_some (start_bit (s.start k))) 1 0) i (range_with_len (i + 1) m)
      ∙ (λ j. bit_is (s.start i) j + counted_bits m (i + 1) j)

  bit_few : (t : Start) → bit t ≤ 1
  bit_few (set b) = omega arith
  bit_few unset = omega arith

  bits_few : (m i : ℕ) → bits m i ≤ m
  bits_few zero i = omega arith
  bits_few (suc m) i = omega (arith, bit_few (s.start i), bits_few m (i + 1))

  abbrev sized : Outcome → Option ℕ
  sized (grown x n f) = Some n
  sized short = None

  gates_sized : (o : Outcome) (n : ℕ) → sized o ≡ Some n → gates_in o ≡ n
  gates_sized (grown x m f) n e = cc
  gates_sized short n e = let z : ◌≡◌ {A = ℕ} 0 1 = cc in absurd (omega arith)

  none_sized : (o : Outcome) → sized o ≡ None → o ≡ short
  none_sized (grown x m f) e = let z : ◌≡◌ {A = ℕ} 0 1 = cc in absurd (omega arith)
  none_sized short e = refl

  short_sized : (o : Outcome) (n : ℕ) → o ≡ short → sized o ≡ Some n → ⊥
  short_sized o n e h = let k : sized short ≡ Some n = sym (ap sized e) ∙ h in let z : ◌≡◌ {A = ℕ} 0 1 = cc in omega arith

  some_not : (n : ℕ) → Some n ≡ None → ⊥
  some_not n e = let z : ◌≡◌ {A = ℕ} 0 1 = cc in omega arith

  some_same : (m n : ℕ) → Some m ≡ Some n → m ≡ n
  some_same m n e = cc

  -- n gates, if so many places are enough for them
  abbrev fitting : ℕ → ℕ → Option ℕ
  fitting n places = cond (leb (2 * n) places) (Some n) None

  -- x is no constant, and of none of the latches from latch i on
  abbrev Apart : ℕ → ℕ → Type 0
  Apart i x = (1 < x) × ((k : ℕ) → i ≤ k → k < s.latches → x / 2 ≡ 1 + s.inputs + k → ⊥)

  not_simple : (a b : ℕ) → 1 < a → 1 < b → (a / 2 ≡ b / 2 → ⊥) → simple a b ≡ None
  not_simple a b p q ne =
      let n : a ≡ b → ⊥ = λ e. ne (ap (λ (x : ℕ). x / 2) e) in
      let a0 : a ≡ 0 → ⊥ = λ e. omega arith in
      let b0 : b ≡ 0 → ⊥ = λ e. omega arith in
      let a1 : a ≡ 1 → ⊥ = λ e. omega arith in
      let b1 : b ≡ 1 → ⊥ = λ e. omega arith in
      cond-false _ _ _ (ne_eqb a b n)
      ∙ cond-false _ _ _ (or_from _ _ (ne_eqb (a / 2) (b / 2) ne) (or_from _ _ (ne_eqb a 0 a0) (ne_eqb b 0 b0)))
      ∙ cond-false _ _ _ (ne_eqb a 1 a1) ∙ cond-false _ _ _ (ne_eqb b 1 b1)

  one_simple : (b : ℕ) → 1 < b → simple 1 b ≡ Some b
  one_simple b h =
      let n : 1 ≡ b → ⊥ = λ e. omega arith in
      let z : 0 ≡ b / 2 → ⊥ = λ e. omega arith in
      let b0 : b ≡ 0 → ⊥ = λ e. omega arith in
      cond-false _ _ _ (ne_eqb 1 b n) ∙ cond-false _ _ _ (or_from _ _ (ne_eqb 0 (b / 2) z) (ne_eqb b 0 b0))

  counted_set : (f : List ℕ) (i j a b : ℕ) → length (counted (put (put f i a) j b)) ≡ length (counted f)
  counted_set f i j a b =
      length-take (2 ^ 28) _ ∙ ap (min (2 ^ 28)) (length-set (put f i a) j b ∙ length-set f i a) ∙ sym (length-take (2 ^ 28) f)

  -- one latch more, where x is apart from those that are left
  module _ (m i x n : ℕ) (f : List ℕ) (p : ℕ) (is : length (counted f) ≡ p) (h : i < s.latches) (apart : Apart i x) (room : 2 * n ≤ p) (low : width s + n + suc m ≤ 2 ^ 31)
      (less : (x n : ℕ) (f : List ℕ) → length (counted f) ≡ p → Apart (i + 1) x → 2 * n ≤ p → width s + n + m ≤ 2 ^ 31 → sized (join_starts s m (i + 1) x n f) ≡ fitting (n + bits m (i + 1)) p) where
    abbrev later : Outcome → Outcome
    later o = onward o (λ x n f. join_starts s m (i + 1) x n f)

    abbrev k : ℕ
    k = bits m (i + 1)

    -- an outcome that has no room for the gate, or has it in a list as long
    abbrev Gated : Outcome → Type 0
    Gated o =
        ((p < 2 * n + 2) × (o ≡ short))
        ⊎ ((2 * n + 2 ≤ p) × ((f' : List ℕ) × (length (counted f') ≡ p) × (o ≡ grown (2 * (width s + n)) (n + 1) f')))

    gated_size : (o : Outcome) → Gated o → sized (later o) ≡ fitting (n + (1 + k)) p
    gated_size o =
        ⊎_elim
        (λ (q : (p < 2 * n + 2) × (o ≡ short)).
        ap (λ o. sized (later o)) q.1 ∙ sym (cond-false _ (Some (n + (1 + k))) None (lt-leb (2 * (n + (1 + k))) p (omega arith))))
        (λ (q : (2 * n + 2 ≤ p) × ((f' : List ℕ) × (length (counted f') ≡ p) × (o ≡ grown (2 * (width s + n)) (n + 1) f'))).
        let e : n + 1 + k ≡ n + (1 + k) = omega arith in
        ap (λ o. sized (later o)) q.1.2
        ∙ less (2 * (width s + n)) (n + 1) q.1.0 q.1.1 (omega arith, λ j l₀ l₁ e. omega arith) (omega arith) (omega arith)
        ∙ ap (λ (j : ℕ). fitting j p) e)

    gate_gated : (a b : ℕ) → Gated (new_gate (width s) n f a b)
    gate_gated a b =
        let len : p ≡ min (length f) (2 ^ 28) = omega (arith, is, length-take (2 ^ 28) f) in
        ⊎_elim
        (λ (l : p < 2 * n + 2). let r : Gated (new_gate (width s) n f a b) = inl (l, gate_short (width s) n f a b p len (inl l)) in r)
        (λ (l : 2 * n + 2 ≤ p).
        let r : Gated (new_gate (width s) n f a b) =
        inr (l, (put (put f (2 * n) a) (2 * n + 1) b, counted_set f (2 * n) (2 * n + 1) a b ∙ is, gate_grown (width s) n f a b p len l (omega arith))) in r)
        (cases_lt p (2 * n + 2))

    more_size : (t : Start) → sized (later (joined s i t x n f)) ≡ fitting (n + (bit t + k)) p
    more_size unset =
        let e : n + k ≡ n + (0 + k) = omega arith in
        less x n f is (apart.0, λ j l. apart.1 j (omega arith)) room (omega arith) ∙ ap (λ (j : ℕ). fitting j p) e
    more_size (set b) =
        let y = start_literal s i b in
        let node : y / 2 ≡ 1 + s.inputs + i = node_of (1 + s.inputs + i) b in
        let ne : x / 2 ≡ y / 2 → ⊥ = λ e. apart.1 i (omega arith) h (e ∙ node) in
        let some : 1 < y = omega (arith, node) in
        ap (λ o. sized (later (conjoin_by (width s) n f x y o))) (not_simple x y apart.0 some ne)
        ∙ gated_size (new_gate (width s) n f (max x y) (min x y)) (gate_gated (max x y) (min x y))

  apart_size : (m i x n : ℕ) (f : List ℕ) (p : ℕ) → length (counted f) ≡ p → i + m ≤ s.latches → Apart i x → 2 * n ≤ p → width s + n + m ≤ 2 ^ 31
      → sized (join_starts s m i x n f) ≡ fitting (n + bits m i) p
  apart_size zero i x n f p is h apart room low =
      let e : n ≡ n + 0 = omega arith in
      sym (cond-true _ _ _ (le-leb (2 * n) p room)) ∙ ap (λ (j : ℕ). fitting j p) e
  apart_size (suc m) i x n f p is h apart room low =
      more_size m i x n f p is (omega arith) apart room low
      (λ x n f is apart room low. apart_size m (i + 1) x n f p is (omega arith) apart room low) (s.start i)

  -- the first start bit needs no gate
  module _ (m i : ℕ) (f : List ℕ) (p : ℕ) (is : length (counted f) ≡ p) (h : i + suc m ≤ s.latches) (low : width s + suc m ≤ 2 ^ 31)
      (less : sized (join_starts s m (i + 1) 1 0 f) ≡ fitting (bits m (i + 1) - 1) p) where
    first_size : (t : Start) → sized (onward (joined s i t 1 0 f) (λ x n f. join_starts s m (i + 1) x n f)) ≡ fitting (bit t + bits m (i + 1) - 1) p
    first_size unset = let e : bits m (i + 1) - 1 ≡ 0 + bits m (i + 1) - 1 = omega arith in less ∙ ap (λ (j : ℕ). fitting j p) e
    first_size (set b) =
        let y = start_literal s i b in
        let node : y / 2 ≡ 1 + s.inputs + i = node_of (1 + s.inputs + i) b in
        let e : 0 + bits m (i + 1) ≡ 1 + bits m (i + 1) - 1 = omega arith in
        ap (λ o. sized (onward (conjoin_by (width s) 0 f 1 y o) (λ x n f. join_starts s m (i + 1) x n f))) (one_simple y (omega (arith, node)))
        ∙ apart_size m (i + 1) y 0 f p is (omega arith) (omega (arith, node), λ j l₀ l₁ e. omega (arith, node)) (omega arith) (omega arith)
        ∙ ap (λ (j : ℕ). fitting j p) e

  whole_size : (m i : ℕ) (f : List ℕ) (p : ℕ) → length (counted f) ≡ p → i + m ≤ s.latches → width s + m ≤ 2 ^ 31
      → sized (join_starts s m i 1 0 f) ≡ fitting (bits m i - 1) p
  whole_size zero i f p is h low = sym (cond-true _ _ _ (le-leb 0 p (omega arith)))
  whole_size (suc m) i f p is h low =
      first_size m i f p is h low (whole_size m (i + 1) f p is (omega arith) (omega arith)) (s.start i)

  -- a sheet within its limits
  module _ (few : s.latches ≤ 24) (narrow : width s ≤ 249) where
    abbrev size : ℕ
    size = bits s.latches 0 - 1

    in_places : (places : ℕ) → sized (start_in s places) ≡ fitting size (min places (2 ^ 28))
    in_places places =
        whole_size s.latches 0 (replicate places 0) (min places (2 ^ 28))
        (omega (arith, length-take {A = ℕ} (2 ^ 28) (replicate places 0), length-replicate {A = ℕ} places 0)) (omega arith) (omega arith)

    enough : (places : ℕ) → 2 * size ≤ places → sized (start_in s places) ≡ Some size
    enough places h = in_places places ∙ cond-true _ _ _ (le-leb (2 * size) (min places (2 ^ 28)) (omega (arith, bits_few s.latches 0)))

    too_few : (places : ℕ) → places < 2 * size → sized (start_in s places) ≡ None
    too_few places h = in_places places ∙ cond-false _ _ _ (lt-leb (2 * size) (min places (2 ^ 28)) (omega arith))

    pub start_size_is : start_size s ≡ size
    start_size_is = gates_sized (start_in s (2 * s.latches)) size (enough (2 * s.latches) (omega (arith, bits_few s.latches 0)))

    -- the code counts them so
    pub size_counted : (k : ℕ) → k ≡ count_by (λ i. is_some (start_bit (s.start i))) (range_with_len 0 s.latches) → (k - 1 ≡ start_size s) × (k ≤ 24)
    size_counted k is = (omega (arith, is, counted_bits s.latches 0, start_size_is), omega (arith, is, counted_bits s.latches 0, bits_few s.latches 0))

    pub start_short : (places : ℕ) → Iff (start_in s places ≡ short) (places < 2 * start_size s)
    start_short places = (
      λ e. ⊎_elim (λ (l : places < 2 * start_size s). l) (λ (l : 2 * start_size s ≤ places). absurd (short_sized _ size e (enough places (omega (arith, start_size_is))))) (cases_lt places (2 * start_size s)),
      λ l. none_sized (start_in s places) (too_few places (omega (arith, start_size_is))),
    )

    -- and that many it has, wherever there is room
    pub start_count : (places x n : ℕ) (f : List ℕ) → start_in s places ≡ grown x n f → n ≡ start_size s
    start_count places x n f e =
        ⊎_elim
        (λ (l : places < 2 * size). absurd (some_not n (sym (ap sized e) ∙ too_few places l)))
        (λ (l : 2 * size ≤ places). some_same n size (sym (ap sized e) ∙ enough places l) ∙ sym start_size_is)
        (cases_lt places (2 * size))
