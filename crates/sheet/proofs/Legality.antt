-- The test of a list tells exactly the legal ones. Assumes nothing.
use Rattle.std.proofs.Common.{◌≡◌, ℕ, zero, suc, ◌+◌, ◌-◌, ◌*◌, ◌/◌, ◌<◌, ◌≤◌, Bool, true, ◌&&◌, eqb, ltb, leb, List, [], ◌∷◌, length, get_or, drop, Decides, sym, refl, ap, ◌∙◌, arith}
use Rattle.std.proofs.lemmas.List.{get_or-drop}
use Rattle.std.proofs.lemmas.Bool.{le-leb, leb-true, lt-ltb, ltb-true, eq-eqb, eqb-true, and_from, and_parts}
use Rattle.sheet.specs.declared.line.Due.{Due}
use Rattle.sheet.specs.declared.line.Due.TheVariants.{OfLatch, OfGate}
use Rattle.sheet.specs.Sheets.{input_count, latch_count, gate_count, bad_of, most_literal, next_of, start_of, left_of, right_of, size_of, Legal}
use Rattle.sheet.specs.Parse.{in_range, ordered}
use Rattle.sheet.specs.Render.{pairs_fit, all_zero, fits, well_formed}

-- the test of one pair; `own` is the node of a gate
abbrev pub pair_fits : Due → ℕ → ℕ → ℕ → ℕ → Bool
pair_fits d most own a b = in_range d most a b && ordered d own a b

-- pair k of a list
abbrev pub fits_at : Due → ℕ → ℕ → List ℕ → ℕ → Bool
fits_at d most own s k = pair_fits d most (own + k) (get_or s (2 * k) 0) (get_or s (2 * k + 1) 0)

at_first : (d : Due) (most own : ℕ) (s : List ℕ) → fits_at d most own s 0 ≡ pair_fits d most own (get_or s 0 0) (get_or s 1 0)
at_first d most own s =
    let o : own + 0 ≡ own = omega arith in
    ap (λ (o : ℕ). pair_fits d most o (get_or s 0 0) (get_or s 1 0)) o

at_later : (d : Due) (most own : ℕ) (s : List ℕ) (k : ℕ) → fits_at d most own s (suc k) ≡ fits_at d most (own + 1) (drop 2 s) k
at_later d most own s k =
    let o : own + suc k ≡ own + 1 + k = omega arith in
    let p : 2 * suc k ≡ 2 + 2 * k = omega arith in
    let q : 2 * suc k + 1 ≡ 2 + (2 * k + 1) = omega arith in
    let a : get_or s (2 * suc k) 0 ≡ get_or (drop 2 s) (2 * k) 0 = ap (λ (j : ℕ). get_or s j 0) p ∙ sym (get_or-drop 2 s (2 * k) 0) in
    let b : get_or s (2 * suc k + 1) 0 ≡ get_or (drop 2 s) (2 * k + 1) 0 = ap (λ (j : ℕ). get_or s j 0) q ∙ sym (get_or-drop 2 s (2 * k + 1) 0) in
    (λ i. pair_fits d most (o i) (a i) (b i))

pub pairs_at : (n : ℕ) (d : Due) (most own : ℕ) (s : List ℕ) → pairs_fit n d most own s ≡ true → (k : ℕ) → k < n → fits_at d most own s k ≡ true
pairs_at zero d most own s h k lt = absurd (omega arith)
pairs_at (suc n) d most own s h zero lt = at_first d most own s ∙ (and_parts _ _ h).0
pairs_at (suc n) d most own s h (suc k) lt =
    at_later d most own s k ∙ pairs_at n d most (own + 1) (drop 2 s) (and_parts _ _ h).1 k (omega arith)

pub pairs_all : (n : ℕ) (d : Due) (most own : ℕ) (s : List ℕ) → ((k : ℕ) → k < n → fits_at d most own s k ≡ true) → pairs_fit n d most own s ≡ true
pairs_all zero d most own s h = refl
pairs_all (suc n) d most own s h =
    and_from _ _ (sym (at_first d most own s) ∙ h 0 (omega arith))
    (pairs_all n d most (own + 1) (drop 2 s) (λ k lt. sym (at_later d most own s k) ∙ h (suc k) (omega arith)))

pub latch_parts : (most own a b : ℕ) → pair_fits OfLatch most own a b ≡ true → (a ≤ most) × (b ≤ 2)
latch_parts most own a b h =
    let p = and_parts (leb a most) (leb b 2) (and_parts (leb a most && leb b 2) _ h).0 in (leb-true _ _ p.0, leb-true _ _ p.1)

pub latch_fits : (most own a b : ℕ) → a ≤ most → b ≤ 2 → pair_fits OfLatch most own a b ≡ true
latch_fits most own a b h k = and_from _ _ (and_from _ _ (le-leb _ _ h) (le-leb _ _ k)) refl

pub gate_parts : (most own a b : ℕ) → pair_fits OfGate most own a b ≡ true → (a / 2 < own) × (b / 2 < a / 2)
gate_parts most own a b h =
    let p = and_parts (ltb (a / 2) own) (ltb (b / 2) (a / 2)) (and_parts (leb a most && leb b most) _ h).1 in
    (ltb-true _ _ p.0, ltb-true _ _ p.1)

pub gate_fits : (most own a b : ℕ) → 2 * own ≤ most + 1 → a / 2 < own → b / 2 < a / 2 → pair_fits OfGate most own a b ≡ true
gate_fits most own a b room h k =
    and_from _ _ (and_from _ _ (le-leb a most (omega arith)) (le-leb b most (omega arith))) (and_from _ _ (lt-ltb _ _ h) (lt-ltb _ _ k))

pub zero_at : (s : List ℕ) → all_zero s ≡ true → (k : ℕ) → get_or s k 0 ≡ 0
zero_at [] h k = refl
zero_at (x ∷ s) h zero = eqb-true x 0 (and_parts _ _ h).0
zero_at (x ∷ s) h (suc k) = zero_at s (and_parts (eqb x 0) _ h).1 k

pub zero_all : (s : List ℕ) → ((k : ℕ) → get_or s k 0 ≡ 0) → all_zero s ≡ true
zero_all [] h = refl
zero_all (x ∷ s) h = and_from _ _ (eq-eqb x 0 (h 0)) (zero_all s (λ k. h (suc k)))

-- the test, part by part
pub record Fits (i n m : ℕ) (l : List ℕ) : Type 0 where
  pub few_inputs : i ≤ 24
  pub some_latch : 1 ≤ n
  pub few_latches : n ≤ 24
  pub few_gates : m ≤ 200
  pub whole : 4 + 2 * (n + m) ≤ length l
  pub bad_literal : bad_of l ≤ most_literal (i + n + m)
  pub latches : pairs_fit n OfLatch (most_literal (i + n + m)) (1 + i) (drop 4 l) ≡ true
  pub gates : pairs_fit m OfGate (most_literal (i + n + m)) (1 + i + n) (drop (4 + 2 * n) l) ≡ true
  pub zeros : all_zero (drop (4 + 2 * (n + m)) l) ≡ true

pub fits_parts : (i n m : ℕ) (l : List ℕ) → fits i n m l ≡ true → Fits i n m l
fits_parts i n m l h =
    let most = most_literal (i + n + m) in
    let p = and_parts (leb i 24 && (leb 1 n && (leb n 24 && leb m 200))) _ h in
    let p₀ = and_parts (leb i 24) _ p.0 in
    let p₁ = and_parts (leb 1 n) _ p₀.1 in
    let p₂ = and_parts (leb n 24) _ p₁.1 in
    let q = and_parts (leb (4 + 2 * (n + m)) (length l)) _ p.1 in
    let r = and_parts (leb (bad_of l) most) _ q.1 in
    let s = and_parts (pairs_fit n OfLatch most (1 + i) (drop 4 l)) _ r.1 in
    let t = and_parts (pairs_fit m OfGate most (1 + i + n) (drop (4 + 2 * n) l)) _ s.1 in
    record {
      few_inputs = leb-true _ _ p₀.0;
      some_latch = leb-true _ _ p₁.0;
      few_latches = leb-true _ _ p₂.0;
      few_gates = leb-true _ _ p₂.1;
      whole = leb-true _ _ q.0;
      bad_literal = leb-true _ _ r.0;
      latches = s.0;
      gates = t.0;
      zeros = t.1;
    }

pub fits_all : (i n m : ℕ) (l : List ℕ) → Fits i n m l → fits i n m l ≡ true
fits_all i n m l f =
    and_from _ _
    (and_from _ _ (le-leb _ _ f.few_inputs)
    (and_from _ _ (le-leb _ _ f.some_latch) (and_from _ _ (le-leb _ _ f.few_latches) (le-leb _ _ f.few_gates))))
    (and_from _ _ (le-leb _ _ f.whole)
    (and_from _ _ (le-leb _ _ f.bad_literal) (and_from _ _ f.latches (and_from _ _ f.gates f.zeros))))

-- a pair's test, at its places in the whole list
latch_at : (most own : ℕ) (l : List ℕ) (k : ℕ) → fits_at OfLatch most own (drop 4 l) k ≡ pair_fits OfLatch most (own + k) (next_of l k) (start_of l k)
latch_at most own l k =
    let q : 4 + (2 * k + 1) ≡ 5 + 2 * k = omega arith in
    let a = get_or-drop 4 l (2 * k) 0 in
    let b = get_or-drop 4 l (2 * k + 1) 0 ∙ ap (λ (j : ℕ). get_or l j 0) q in
    (λ i. pair_fits OfLatch most (own + k) (a i) (b i))

gate_at : (most own : ℕ) (l : List ℕ) (k : ℕ) → fits_at OfGate most own (drop (4 + 2 * latch_count l) l) k ≡ pair_fits OfGate most (own + k) (left_of l k) (right_of l k)
gate_at most own l k =
    let n = latch_count l in
    let p : 4 + 2 * n + 2 * k ≡ 4 + 2 * (n + k) = omega arith in
    let q : 4 + 2 * n + (2 * k + 1) ≡ 5 + 2 * (n + k) = omega arith in
    let a = get_or-drop (4 + 2 * n) l (2 * k) 0 ∙ ap (λ (j : ℕ). get_or l j 0) p in
    let b = get_or-drop (4 + 2 * n) l (2 * k + 1) 0 ∙ ap (λ (j : ℕ). get_or l j 0) q in
    (λ i. pair_fits OfGate most (own + k) (a i) (b i))

-- past a place that nothing but zeros follows
behind_zero : (z : ℕ) (l : List ℕ) → all_zero (drop z l) ≡ true → (k : ℕ) → z ≤ k → get_or l k 0 ≡ 0
behind_zero z l h k past =
    let j : z + (k - z) ≡ k = omega arith in
    sym (get_or-drop z l (k - z) 0 ∙ ap (λ (j : ℕ). get_or l j 0) j) ∙ zero_at (drop z l) h (k - z)

fits_legal : (l : List ℕ) → Fits (input_count l) (latch_count l) (gate_count l) l → Legal l
fits_legal l f =
    let i = input_count l in
    let n = latch_count l in
    let m = gate_count l in
    let most = most_literal (i + n + m) in
    let latch : (k : ℕ) → k < n → (next_of l k ≤ most) × (start_of l k ≤ 2) = λ k lt.
    latch_parts most (1 + i + k) (next_of l k) (start_of l k) (sym (latch_at most (1 + i) l k) ∙ pairs_at n OfLatch most (1 + i) (drop 4 l) f.latches k lt) in
    let gate : (k : ℕ) → k < m → (left_of l k / 2 < 1 + i + n + k) × (right_of l k / 2 < left_of l k / 2) = λ k lt.
    gate_parts most (1 + i + n + k) (left_of l k) (right_of l k) (sym (gate_at most (1 + i + n) l k) ∙ pairs_at m OfGate most (1 + i + n) (drop (4 + 2 * n) l) f.gates k lt) in
    record {
      few_inputs = f.few_inputs;
      some_latch = f.some_latch;
      few_latches = f.few_latches;
      few_gates = f.few_gates;
      whole = f.whole;
      bad_literal = f.bad_literal;
      next_literals = λ k lt. (latch k lt).0;
      starts = λ k lt. (latch k lt).1;
      lefts = λ k lt. (gate k lt).0;
      rights = λ k lt. (gate k lt).1;
      zeros_behind = λ k past. behind_zero (size_of l) l f.zeros k past;
    }

legal_fits : (l : List ℕ) → Legal l → Fits (input_count l) (latch_count l) (gate_count l) l
legal_fits l h =
    let i = input_count l in
    let n = latch_count l in
    let m = gate_count l in
    let most = most_literal (i + n + m) in
    record {
      few_inputs = h.few_inputs;
      some_latch = h.some_latch;
      few_latches = h.few_latches;
      few_gates = h.few_gates;
      whole = h.whole;
      bad_literal = h.bad_literal;
      latches = pairs_all n OfLatch most (1 + i) (drop 4 l) (λ k lt.
          latch_at most (1 + i) l k ∙ latch_fits most (1 + i + k) (next_of l k) (start_of l k) (h.next_literals k lt) (h.starts k lt));
      gates = pairs_all m OfGate most (1 + i + n) (drop (4 + 2 * n) l) (λ k lt.
          gate_at most (1 + i + n) l k ∙ gate_fits most (1 + i + n + k) (left_of l k) (right_of l k) (omega arith) (h.lefts k lt) (h.rights k lt));
      zeros = zero_all (drop (size_of l) l) (λ k. get_or-drop (size_of l) l k 0 ∙ h.zeros_behind (size_of l + k) (omega arith));
    }

pub well_formed_legal : (l : List ℕ) → well_formed l ≡ true → Legal l
well_formed_legal l h = fits_legal l (fits_parts (input_count l) (latch_count l) (gate_count l) l h)

pub legal_well_formed : (l : List ℕ) → Legal l → well_formed l ≡ true
legal_well_formed l h = fits_all (input_count l) (latch_count l) (gate_count l) l (legal_fits l h)

pub well_formed_decides : (l : List ℕ) → Decides (well_formed l) (Legal l)
well_formed_decides l = (well_formed_legal l, legal_well_formed l)
