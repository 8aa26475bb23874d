-- How many of the rows of n bits are in a set. Assumes nothing.
use Rattle.std.proofs.Common.{◌≡◌, ℕ, zero, suc, ◌+◌, ◌^◌, ◌<◌, ◌≤◌, Bool, true, false, cond, ltb, List, [], ◌∷◌, length, refl, ap, subst, inl, inr, arith}
use native.Mathlib.Nat.{ℕ_set}
use Rattle.std.proofs.lemmas.Bool.{both_ways, cases_Bool, cases_lt, cond_both, lt-ltb, ltb-true}
use Rattle.machine.specs.Bits.{Bits}

-- a set of rows of n bits
abbrev pub Region : ℕ → Type 0
Region n = Bits n → Bool

abbrev pub none : Bits 0
none = record { bits = []; sized = refl }

abbrev pub with_bit : {n : ℕ} → Bool → Bits n → Bits (suc n)
with_bit b s = record { bits = b ∷ s.bits; sized = ap suc s.sized }

abbrev pub count : (n : ℕ) → Region n → ℕ
count zero R = cond (R none) 1 0
count (suc n) R = count n (λ s. R (with_bit true s)) + count n (λ s. R (with_bit false s))

-- rows with the same bits are one row
pub same_bits : {n : ℕ} (s t : Bits n) → s.bits ≡ t.bits → s ≡ t
same_bits {n} s t e =
    subst (λ (xs : List Bool). (f : length xs ≡ n) → s ≡ record { bits = xs; sized = f }) e
    (λ f i. record { bits = s.bits; sized = ℕ_set (length s.bits) n s.sized f i }) t.sized

no_bits : (xs : List Bool) → length xs ≡ 0 → xs ≡ []
no_bits [] e = refl
no_bits (x ∷ xs) e = absurd (omega arith)

is_none : (s : Bits 0) → s ≡ none
is_none s = same_bits s none (no_bits s.bits s.sized)

some_bits : (n : ℕ) (xs : List Bool) → length xs ≡ suc n → (b : Bool) × (t : Bits n) × (xs ≡ b ∷ t.bits)
some_bits n [] e = absurd (omega arith)
some_bits n (b ∷ xs) e = (b, record { bits = xs; sized = omega arith }, refl)

has_bit : {n : ℕ} (s : Bits (suc n)) → (b : Bool) × (t : Bits n) × (s ≡ with_bit b t)
has_bit {n} s =
    let h = some_bits n s.bits s.sized in
    (h.0, h.1, same_bits s (with_bit h.0 h.1) h.2)

pub count_le : (n : ℕ) (R : Region n) → count n R ≤ 2 ^ n
count_le zero R = cond_both (R none) 1 0 (λ x. x ≤ 1) (λ _. omega arith) (λ _. omega arith)
count_le (suc n) R = omega (arith, count_le n (λ s. R (with_bit true s)), count_le n (λ s. R (with_bit false s)))

abbrev pub Inside : {n : ℕ} → Region n → Region n → Type 0
Inside {n} R P = (s : Bits n) → R s ≡ true → P s ≡ true

pub count_mono : (n : ℕ) (R P : Region n) → Inside R P → count n R ≤ count n P
count_mono zero R P h = cond_both (R none) 1 0 (λ x. x ≤ count 0 P) (λ e. rw (h none e) (omega arith)) (λ _. omega arith)
count_mono (suc n) R P h =
    omega (
      arith,
      count_mono n (λ s. R (with_bit true s)) (λ s. P (with_bit true s)) (λ s. h (with_bit true s)),
      count_mono n (λ s. R (with_bit false s)) (λ s. P (with_bit false s)) (λ s. h (with_bit false s)),
    )

-- a set within another that has a row more has fewer rows
abbrev Grows : ℕ → Type 0
Grows n = (R P : Region n) → Inside R P → (s : Bits n) → R s ≡ false → P s ≡ true → count n R < count n P

grows_bit : (n : ℕ) → Grows n → (R P : Region (suc n)) → Inside R P
    → (b : Bool) (t : Bits n) → R (with_bit b t) ≡ false → P (with_bit b t) ≡ true → count (suc n) R < count (suc n) P
grows_bit n g R P h true t out has =
    omega (
      arith,
      g (λ s. R (with_bit true s)) (λ s. P (with_bit true s)) (λ s. h (with_bit true s)) t out has,
      count_mono n (λ s. R (with_bit false s)) (λ s. P (with_bit false s)) (λ s. h (with_bit false s)),
    )
grows_bit n g R P h false t out has =
    omega (
      arith,
      g (λ s. R (with_bit false s)) (λ s. P (with_bit false s)) (λ s. h (with_bit false s)) t out has,
      count_mono n (λ s. R (with_bit true s)) (λ s. P (with_bit true s)) (λ s. h (with_bit true s)),
    )

pub count_grows : (n : ℕ) → Grows n
count_grows zero R P h s out has =
    let e : R none ≡ false = subst (λ t. R t ≡ false) (is_none s) out in
    let f : P none ≡ true = subst (λ t. P t ≡ true) (is_none s) has in
    rw (e, f) (omega arith)
count_grows (suc n) R P h s out has =
    let b = has_bit s in
    grows_bit n (count_grows n) R P h b.0 b.1 (subst (λ t. R t ≡ false) b.2 out) (subst (λ t. P t ≡ true) b.2 has)

pub count_some : (n : ℕ) (R : Region n) (s : Bits n) → R s ≡ true → 0 < count n R
count_some n R s has = omega (arith, count_grows n (λ _. false) R (λ t e. absurd (both_ways false refl e)) s refl has)

-- whether some row is in a set
abbrev pub some : (n : ℕ) → Region n → Bool
some n R = ltb 0 (count n R)

find : (n : ℕ) (R : Region n) → 0 < count n R → (s : Bits n) × (R s ≡ true)
find zero R h =
    elim (cases_Bool (R none)) [
      | inl e ↦ (none, e)
      | inr e ↦ absurd (let k : 0 < count 0 (λ _. false) = rw e at h in omega arith)
    ]
find (suc n) R h =
    elim (cases_lt 0 (count n (λ s. R (with_bit true s)))) [
      | inl k ↦ (let t = find n (λ s. R (with_bit true s)) k in (with_bit true t.0, t.1))
      | inr k ↦ (let t = find n (λ s. R (with_bit false s)) (omega arith) in (with_bit false t.0, t.1))
    ]

pub found : (n : ℕ) (R : Region n) → some n R ≡ true → (s : Bits n) × (R s ≡ true)
found n R e = find n R (ltb-true 0 (count n R) e)

pub is_some : (n : ℕ) (R : Region n) (s : Bits n) → R s ≡ true → some n R ≡ true
is_some n R s e = lt-ltb 0 (count n R) (count_some n R s e)
