-- Why an assignment is refused, and what makes a refusal's reason the only one. Assumes nothing.
use Rattle.std.proofs.Common.{◌≡◌, ℕ, zero, suc, ◌+◌, ◌^◌, ◌<◌, ◌≤◌, Bool, true, false, cond, eqb, ltb, List, [], ◌∷◌, length, get_or, Some, None, Ok, Err, Option, MatchOption, Result, sym, refl, ap, ◌∙◌, subst, ⊎_elim, arith}
use Rattle.std.proofs.lemmas.Bool.{cond-true, cond-false, lt-ltb, le-ltb, ltb-true, ltb-false, eqb-true, eqb-false, eq-eqb, ne_eqb, cases_lt, cases_eq}
use Rattle.std.specs.List.{AllWithin, HoldsAt}
use Rattle.sheet.specs.Faults.{fault, and_then, demand}
use Rattle.sheet.specs.declared.fault.Cause.{Cause}
use Rattle.sheet.specs.declared.fault.Cause.TheVariants.{WrongCount, NotABit, FalseClause}
use Rattle.sheet.specs.declared.fault.Fault.{Fault}
use Rattle.sheet.specs.declared.fault.Layer.{Layer}
use Rattle.sheet.specs.declared.fault.Layer.TheVariants.{Assignment}
use Rattle.lists.specs.Counted.{counted}
use Rattle.signal.specs.Truth.{holds, bits_of}
use Rattle.question.specs.Questions.{variable_count, clause_count, clause_of}
use Rattle.answer.specs.Assignments.{first_non_bit, lowest_false, unless_found, judged}
use Rattle.answer.specs.Reasons.{Reasoned, Bit, NotSatisfying, not_as_many, no_bit, false_clause, AssignmentReasoned}
use Rattle.answer.proofs.Judging.{counted_all, span_few, none_from, bit_from, all_to}

-- ---- reasons in general
pub err_same : {X : Type 0} (f g : Fault) → ◌≡◌ {A = Result X Fault} (Err f) (Err g) → f ≡ g
err_same f g h = cc

-- where each refusal has a reason, and each reason is of the refusal
pub reasoned_by : (y : Layer) (R : Cause → ℕ → Type 0) (r : Result (Unit {0}) Fault) →
    ((f : Fault) → r ≡ Err f → (f.layer ≡ y) × R f.cause f.place) → ((n : Cause) (i : ℕ) → R n i → r ≡ Err (fault y n i)) → Reasoned y R r
reasoned_by y R (Ok u) from to = λ n i h. let e : Ok u ≡ Err (fault y n i) = to n i h in let z : ◌≡◌ {A = ℕ} 0 1 = cc in omega arith
reasoned_by y R (Err f) from to =
    let k = from f refl in
    (k.0, k.1, λ n i h. let e = err_same (fault y n i) f (sym (to n i h)) in (ap (λ g. g.cause) e, ap (λ g. g.place) e))

pub fault_at : {X : Type 0} (y : Layer) (a n : Cause) (b i : ℕ) → n ≡ a → i ≡ b → ◌≡◌ {A = Result X Fault} (Err (fault y a b)) (Err (fault y n i))
fault_at y a n b i e z = rw (e, z) refl

-- ---- the first number that is no bit
some_from : {X : Type 0} (b : Bool) (o : Option X) (x y : X) (P : Type 0) → (b ≡ true → o ≡ Some y → P) → (b ≡ false → y ≡ x → P) → cond b o (Some x) ≡ Some y → P
some_from true o x y P f g h = f refl h
some_from false o x y P f g h = g refl cc

record FirstAt (xs : List ℕ) (j : ℕ) : Type 0 where
  within : j < length xs
  before : (m : ℕ) → m < j → Bit (get_or xs m 0)
  here : Bit (get_or xs j 0) → ⊥

bit_below : (x : ℕ) → Bit x → x < 2
bit_below x h = ⊎_elim (λ e. omega arith) (λ e. omega arith) h

bits_none : (i : ℕ) (xs : List ℕ) → first_non_bit i xs ≡ None → (j : ℕ) → j < length xs → Bit (get_or xs j 0)
bits_none i [] h j l = absurd (omega arith)
bits_none i (x ∷ xs) h zero l =
    none_from (ltb x 2) (first_non_bit (i + 1) xs) i _ (λ e _. bit_from x (ltb-true x 2 e)) h
bits_none i (x ∷ xs) h (suc j) l =
    none_from (ltb x 2) (first_non_bit (i + 1) xs) i _ (λ _ n. bits_none (i + 1) xs n j (omega arith)) h

none_bits : (i : ℕ) (xs : List ℕ) → ((j : ℕ) → j < length xs → Bit (get_or xs j 0)) → first_non_bit i xs ≡ None
none_bits i [] h = refl
none_bits i (x ∷ xs) h =
    cond-true _ _ _ (lt-ltb x 2 (bit_below x (h 0 (omega arith)))) ∙ none_bits (i + 1) xs (λ j l. h (suc j) (omega arith))

before_more : (x : ℕ) (xs : List ℕ) (j : ℕ) → Bit x → ((m : ℕ) → m < j → Bit (get_or xs m 0)) → (m : ℕ) → m < suc j → Bit (get_or (x ∷ xs) m 0)
before_more x xs j b h zero l = b
before_more x xs j b h (suc m) l = h m (omega arith)

first_found : (i : ℕ) (xs : List ℕ) (k : ℕ) → first_non_bit i xs ≡ Some k → (j : ℕ) × (k ≡ i + j) × FirstAt xs j
first_found i [] k h = let z : ◌≡◌ {A = ℕ} 0 1 = cc in absurd (omega arith)
first_found i (x ∷ xs) k h =
    some_from (ltb x 2) (first_non_bit (i + 1) xs) i k _
    (λ e n.
    let (j, is, f) = first_found (i + 1) xs k n in (
      suc j,
      omega arith,
      record {
        within = omega (arith, f.within);
        before = before_more x xs j (bit_from x (ltb-true x 2 e)) f.before;
        here = f.here;
      },
    ))
    (λ e is. (
      0,
      omega arith,
      record { within = omega arith; before = λ m l. absurd (omega arith); here = λ b. omega (arith, ltb-false x 2 e, bit_below x b) },
    ))
    h

found_first : (i : ℕ) (xs : List ℕ) (j : ℕ) → j < length xs → ((m : ℕ) → m < j → Bit (get_or xs m 0)) → (Bit (get_or xs j 0) → ⊥) → first_non_bit i xs ≡ Some (i + j)
found_first i [] j l before here = absurd (omega arith)
found_first i (x ∷ xs) zero l before here =
    let same : i ≡ i + 0 = omega arith in
    let high : 2 ≤ x = ⊎_elim (λ (h : x < 2). absurd (here (bit_from x h))) (λ h. h) (cases_lt x 2) in
    cond-false _ _ _ (le-ltb x 2 high) ∙ ap Some same
found_first i (x ∷ xs) (suc j) l before here =
    let same : i + 1 + j ≡ i + suc j = omega arith in
    cond-true _ _ _ (lt-ltb x 2 (bit_below x (before 0 (omega arith))))
    ∙ found_first (i + 1) xs j (omega arith) (λ m b. before (suc m) (omega arith)) here
    ∙ ap Some same

-- what a search for the first that is no bit gives
pub first_is : (xs : List ℕ) (r : Option ℕ) →
    MatchOption r (AllWithin (λ x. x ≤ 1) xs 0 (length xs)) (λ j. (j < length xs) × HoldsAt (λ x. 1 < x) xs j × AllWithin (λ x. x ≤ 1) xs 0 j) →
    r ≡ first_non_bit 0 xs
first_is xs None h = sym (none_bits 0 xs (λ j l. bit_from _ (omega (arith, h j 0 (omega arith) l))))
first_is xs (Some j) h =
    let same : 0 + j ≡ j = omega arith in
    sym (found_first 0 xs j h.0 (λ m l. bit_from _ (omega (arith, h.2 m 0 (omega arith) l))) (λ b. omega (arith, h.1 0, bit_below _ b)) ∙ ap Some same)

-- ---- the lowest false clause
module _ (q : List ℕ) (α : ℕ → Bool) where
  record LowestAt (k n i : ℕ) : Type 0 where
    low : k ≤ i
    high : i < k + n
    before : (j : ℕ) → k ≤ j → j < i → holds α (clause_of q j) ≡ true
    here : holds α (clause_of q i) ≡ false

  lowest_found : (k n i : ℕ) → lowest_false q α k n ≡ Some i → LowestAt k n i
  lowest_found k zero i h = let z : ◌≡◌ {A = ℕ} 0 1 = cc in absurd (omega arith)
  lowest_found k (suc n) i h =
      some_from (holds α (clause_of q k)) (lowest_false q α (k + 1) n) k i _
      (λ e rest.
      let f = lowest_found (k + 1) n i rest in
      record {
        low = omega (arith, f.low);
        high = omega (arith, f.high);
        before = λ j a b. ⊎_elim
            (λ (same : j ≡ k). ap (λ v. holds α (clause_of q v)) same ∙ e)
            (λ ne. f.before j (omega arith) b)
            (cases_eq j k);
        here = f.here;
      })
      (λ e is. record {
        low = omega arith;
        high = omega arith;
        before = λ j a b. absurd (omega arith);
        here = ap (λ v. holds α (clause_of q v)) is ∙ e;
      })
      h

  found_lowest : (k n i : ℕ) → k ≤ i → i < k + n → ((j : ℕ) → j < i → holds α (clause_of q j) ≡ true) → holds α (clause_of q i) ≡ false → lowest_false q α k n ≡ Some i
  found_lowest k zero i low high before here = absurd (omega arith)
  found_lowest k (suc n) i low high before here =
      ⊎_elim
      (λ (same : i ≡ k). cond-false _ _ _ (ap (λ v. holds α (clause_of q v)) (sym same) ∙ here) ∙ ap Some (sym same))
      (λ ne. cond-true _ _ _ (before k (omega arith)) ∙ found_lowest (k + 1) n i (omega arith) (omega arith) before here)
      (cases_eq i k)

-- whether a clause is true
abbrev pub truth : List ℕ → List ℕ → ℕ → Bool
truth q numbers k = holds (bits_of numbers) (clause_of q k)

-- the same of what counts of the lists, where each place does
pub truth_is : (q numbers : List ℕ) (k : ℕ) → length q ≤ 2 ^ 28 → length numbers ≤ 2 ^ 28 → holds (bits_of (counted numbers)) (counted (clause_of (counted q) k)) ≡ truth q numbers k
truth_is q numbers k few short =
    ap (λ v. holds (bits_of v) (counted (clause_of (counted q) k))) (counted_all numbers short)
    ∙ ap (λ u. holds (bits_of numbers) (counted (clause_of u k))) (counted_all q few)
    ∙ ap (holds (bits_of numbers)) (counted_all (clause_of q k) (omega (arith, span_few q (3 + k))))

-- what a search for the lowest false clause gives
pub lowest_is : (q numbers : List ℕ) (n : ℕ) (r : Option ℕ) →
    MatchOption r
    ((k : ℕ) → 0 ≤ k → k < n → truth q numbers k ≡ true)
    (λ i. (0 ≤ i) × (i < n) × (truth q numbers i ≡ false) × ((k : ℕ) → 0 ≤ k → k < i → truth q numbers k ≡ true)) →
    r ≡ lowest_false q (bits_of numbers) 0 n
lowest_is q numbers n None h = sym (all_to q (bits_of numbers) 0 n (λ j l. h j (omega arith) (omega arith)))
lowest_is q numbers n (Some i) h =
    sym (found_lowest q (bits_of numbers) 0 n i (omega arith) (omega (arith, h.1)) (λ j l. h.3 j (omega arith) l) h.2)

-- ---- an assignment's refusal
module _ (q numbers : List ℕ) where
  abbrev bits : Option ℕ
  bits = first_non_bit 0 numbers

  abbrev clauses : Option ℕ
  clauses = lowest_false q (bits_of numbers) 0 (clause_count q)

  abbrev Why : Fault → Type 0
  Why f = (f.layer ≡ Assignment) × NotSatisfying q numbers f.cause f.place

  why_from : (f g : Fault) → g ≡ f → Why g → Why f
  why_from f g e h = subst Why e h

  clause_why : (whole : length numbers ≡ variable_count q) → bits ≡ None → (o : Option ℕ) → clauses ≡ o → (f : Fault) → unless_found FalseClause o ≡ Err f → Why f
  clause_why whole b None is f h = let z : ◌≡◌ {A = ℕ} 0 1 = cc in absurd (omega arith)
  clause_why whole b (Some i) is f h =
      let k = lowest_found q (bits_of numbers) 0 (clause_count q) i is in
      why_from f (fault Assignment FalseClause i) (err_same {X = Unit {0}} _ f h) (
        refl,
        false_clause refl (omega (arith, k.high)) (record { whole = whole; bits = λ j l. bits_none 0 numbers b j (omega arith) })
            (λ j l. k.before j (omega arith) l) k.here,
      )

  bit_why : (whole : length numbers ≡ variable_count q) → (o : Option ℕ) → bits ≡ o → (f : Fault) → and_then (unless_found NotABit o) (λ _. unless_found FalseClause clauses) ≡ Err f → Why f
  bit_why whole None is f h = clause_why whole is clauses refl f h
  bit_why whole (Some i) is f h =
      let (j, same, k) = first_found 0 numbers i is in
      let e : i ≡ j = omega arith in
      why_from f (fault Assignment NotABit i) (err_same {X = Unit {0}} _ f h) (
        refl,
        no_bit refl (omega (arith, k.within)) (record { whole = whole; bits = λ m l. k.before m (omega arith) })
            (λ b. k.here (subst (λ v. Bit (get_or numbers v 0)) e b)),
      )

  refusal_why : (b : Bool) → eqb (length numbers) (variable_count q) ≡ b → (f : Fault) →
      demand b (fault Assignment WrongCount 0) (and_then (unless_found NotABit bits) (λ _. unless_found FalseClause clauses)) ≡ Err f → Why f
  refusal_why true is f h = bit_why (eqb-true _ _ is) bits refl f h
  refusal_why false is f h = why_from f (fault Assignment WrongCount 0) (err_same {X = Unit {0}} _ f h) (refl, not_as_many refl refl (eqb-false _ _ is))

  why_refusal : (n : Cause) (i : ℕ) → NotSatisfying q numbers n i → judged q numbers ≡ Err (fault Assignment n i)
  why_refusal n i (not_as_many e z many) = cond-false _ _ _ (ne_eqb _ _ many) ∙ fault_at Assignment WrongCount n 0 i e z
  why_refusal n i (no_bit e l before here) =
      let zero_and : 0 + i ≡ i = omega arith in
      cond-true _ _ _ (eq-eqb _ _ before.whole)
      ∙ ap (λ o. and_then (unless_found NotABit o) (λ _. unless_found FalseClause clauses)) (found_first 0 numbers i (omega (arith, before.whole)) before.bits here ∙ ap Some zero_and)
      ∙ fault_at Assignment NotABit n i i e refl
  why_refusal n i (false_clause e l before above here) =
      cond-true _ _ _ (eq-eqb _ _ before.whole)
      ∙ ap (λ o. and_then (unless_found NotABit o) (λ _. unless_found FalseClause clauses)) (none_bits 0 numbers (λ j b. before.bits j (omega (arith, before.whole))))
      ∙ ap (unless_found FalseClause) (found_lowest q (bits_of numbers) 0 (clause_count q) i (omega arith) (omega arith) above here)
      ∙ fault_at Assignment FalseClause n i i e refl

  pub judged_reasoned : (r : Result (Unit {0}) Fault) → r ≡ judged q numbers → AssignmentReasoned q numbers r
  judged_reasoned r is =
      reasoned_by Assignment (NotSatisfying q numbers) r
      (λ f h. refusal_why (eqb (length numbers) (variable_count q)) refl f (sym is ∙ h))
      (λ n i h. is ∙ why_refusal n i h)
