-- The replies of the procedure are true. Assumes nothing.
use Rattle.std.proofs.Common.{◌≡◌, ℕ, zero, suc, ◌+◌, ◌-◌, ◌*◌, ◌/◌, ◌%◌, ◌^◌, ◌<◌, ◌≤◌, Bool, true, false, cond, not, ◌||◌, eqb, leb, ◌≢◌, ◌⊎◌, List, [], ◌∷◌, ◌++◌, length, get_or, take, set, replicate, Ok, sym, refl, ap, ◌∙◌, subst, inl, inr, ⊎_elim, pow-suc, arith, pow_pos, pow_mono}
use Rattle.std.proofs.lemmas.List.{take_at, get_or_default, length-replicate, length-set, get_or-set_same, get_or-set_other}
use Rattle.std.proofs.lemmas.Bool.{cond_both, cond-true, cond-false, eqb-true, eqb-false, lt-ltb, le-ltb, leb-false, and_cases, cases_lt, cases_Bool}
use Rattle.std.specs.List.{AllByRecursion}
use Rattle.signal.specs.Truth.{lit, holds, bits_of}
use Rattle.question.specs.Questions.{variable_count, clause_count, clause_of, Mem, IsQuestion}
use Rattle.answer.specs.Assignments.{judged}
use Rattle.answer.specs.Derivations.{Makes, Derives}
use Rattle.answer.specs.Lines.{line_of}
use Rattle.answer.specs.Runs.{checked}
use Rattle.answer.specs.Steps.{step_count, step_of}
use Rattle.answer.specs.declared.steps.Step.{Step}
use Rattle.answer.proofs.Judging.{judged_means}
use Rattle.producer.specs.Procedure.{End, Found, Closed, Long, split, roomy, decided, put, laid, reply_at, answer_at}
use Rattle.producer.specs.Replying.{Stands, Wanting, Upheld}
use Rattle.producer.specs.declared.interface.Reply.TheVariants.{Refutation}
use Rattle.producer.proofs.Falsity.{False, Clear, clear_none, false_empty}
use Rattle.producer.proofs.Places.{few_clauses, clause_some}
use Rattle.producer.proofs.Standing.{ok_is, derivation_stands}
use Rattle.producer.proofs.Telling.{from_end_new, from_end_old, step_at, made_at, Valid, Ends, Bits, Told, split_told}

below_pow : (n : ℕ) → n < 2 ^ n
below_pow zero = omega arith
below_pow (suc n) = let h = below_pow n in let p = pow-suc 2 n in omega arith

-- ---- a clause that does not hold under all values is false
wrong : (b : Bool) → b ≡ true → b ≡ false → ⊥
wrong b t f = let z : ◌≡◌ {A = ℕ} 0 1 = cc in omega arith

value_false : (x w : ℕ) → w < 2 → cond (eqb (x % 2) 0) (not (eqb w 0)) (not (not (eqb w 0))) ≡ false → w ≡ x % 2
value_false x w l =
    cond_both (eqb (x % 2) 0) _ _ (λ b. b ≡ false → w ≡ x % 2)
    (λ h e. let z : x % 2 ≡ 0 = eqb-true (x % 2) 0 h in
    cond_both (eqb w 0) true false (λ b. not (eqb w 0) ≡ false → w ≡ x % 2) (λ t _. let k : w ≡ 0 = eqb-true w 0 t in omega arith)
    (λ f g. absurd (wrong (not (eqb w 0)) (ap not f) g)) e)
    (λ h e. let z : x % 2 ≡ 0 → ⊥ = eqb-false (x % 2) 0 h in
    cond_both (eqb w 0) true false (λ b. not (not (eqb w 0)) ≡ false → w ≡ x % 2)
    (λ t g. absurd (wrong (not (not (eqb w 0))) (ap (λ b. not (not b)) t) g))
    (λ f _. let k : w ≡ 0 → ⊥ = eqb-false w 0 f in omega arith) e)

or_false : (a b : Bool) → (a || b) ≡ false → (a ≡ false) × (b ≡ false)
or_false true b h = absurd (wrong true refl h)
or_false false b h = (refl, h)

unheld_false : (b c : List ℕ) → Bits b → ((x : ℕ) → Mem x c → x / 2 < length b) → holds (bits_of b) c ≡ false → False b c
unheld_false b [] bits below h x m = absurd m
unheld_false b (y ∷ ys) bits below h x m =
    let k = or_false (lit (bits_of b) y) (holds (bits_of b) ys) h in
    ⊎_elim
    (λ (e : x ≡ y).
    let l : y / 2 < length b = below y (inl refl) in
    let same : get_or b (y / 2) 0 ≡ get_or b (y / 2) 2 = get_or_default b (y / 2) 0 2 l in
    let at : get_or b (y / 2) 0 ≡ y % 2 = value_false y (get_or b (y / 2) 0) (subst (λ v. v < 2) (sym same) (bits (y / 2) l)) k.0 in
    subst (λ z. get_or b (z / 2) 2 ≡ z % 2) (sym e) (sym same ∙ at))
    (λ n. unheld_false b ys bits (λ z i. below z (inr i)) k.1 x n)
    m

bit_cases : (w : ℕ) → w < 2 → (w ≡ 0) ⊎ (w ≡ 1)
bit_cases zero h = inl refl
bit_cases (suc zero) h = inr refl
bit_cases (suc (suc w)) h = absurd (omega arith)

all_bits : (b : List ℕ) → Bits b → AllByRecursion (λ x. (x ≡ 0) ⊎ (x ≡ 1)) b
all_bits [] bits = tt
all_bits (x ∷ xs) bits = (bit_cases x (bits 0 (omega arith)), all_bits xs (λ i l. bits (suc i) (omega arith)))

found_judged : (q : List ℕ) (n : ℕ) (b : List ℕ) → IsQuestion q → length b ≡ variable_count q → Bits b → Clear q b →
    judged q (take (variable_count q) (b ++ replicate (n - length b) 0)) ≡ Ok tt
found_judged q n b is size bits clear =
    let good : judged q b ≡ Ok tt = ok_is (judged q b) ((judged_means q b (judged q b) refl).1 (record {
      whole = size;
      bits = all_bits b bits;
      clauses = λ k l. ⊎_elim (λ t. t)
          (λ f. absurd (clear k l (unheld_false b (clause_of q k) bits (λ x i. let h : x / 2 < variable_count q = is.variables k x l i in omega arith) f)))
          (cases_Bool (holds (bits_of b) (clause_of q k)));
    })) in
    ap (judged q) (take_at b (replicate (n - length b) 0) (variable_count q) size) ∙ good

-- how the steps lie in the answer list
put_old : (l : List ℕ) (i : ℕ) (t : Step) (j : ℕ) → j < 3 * i + 1 → get_or (put l i t) j 0 ≡ get_or l j 0
put_old l i t j h =
    let a : j ≢ 3 * i + 3 = λ (e : j ≡ 3 * i + 3). omega arith in
    let b : j ≢ 3 * i + 2 = λ (e : j ≡ 3 * i + 2). omega arith in
    let c : j ≢ 3 * i + 1 = λ (e : j ≡ 3 * i + 1). omega arith in
    get_or-set_other _ (3 * i + 3) j _ 0 a ∙ get_or-set_other _ (3 * i + 2) j _ 0 b ∙ get_or-set_other l (3 * i + 1) j _ 0 c

same_step : (x y z : ℕ) (t : Step) → x ≡ t.first → y ≡ t.second → z ≡ t.pivot → record { first = x; second = y; pivot = z } ≡ t
same_step x y z t a b c = rw (a, b, c)

put_new : (l : List ℕ) (i : ℕ) (t : Step) → 3 * i + 3 < length l → step_of (put l i t) i ≡ t
put_new l i t h =
    let f : List ℕ = set l (3 * i + 1) t.first in
    let s : List ℕ = set f (3 * i + 2) t.second in
    let lf : length f ≡ length l = length-set l (3 * i + 1) t.first in
    let ls : length s ≡ length f = length-set f (3 * i + 2) t.second in
    let a : 3 * i + 1 ≢ 3 * i + 3 = λ (e : 3 * i + 1 ≡ 3 * i + 3). omega arith in
    let b : 3 * i + 1 ≢ 3 * i + 2 = λ (e : 3 * i + 1 ≡ 3 * i + 2). omega arith in
    let c : 3 * i + 2 ≢ 3 * i + 3 = λ (e : 3 * i + 2 ≡ 3 * i + 3). omega arith in
    let e1 : get_or (put l i t) (3 * i + 1) 0 ≡ t.first = get_or-set_other s (3 * i + 3) (3 * i + 1) t.pivot 0 a ∙ get_or-set_other f (3 * i + 2) (3 * i + 1) t.second 0 b ∙ get_or-set_same l (3 * i + 1) t.first 0 (omega arith) in
    let e2 : get_or (put l i t) (3 * i + 2) 0 ≡ t.second = get_or-set_other s (3 * i + 3) (3 * i + 2) t.pivot 0 c ∙ get_or-set_same f (3 * i + 2) t.second 0 (omega arith) in
    let e3 : get_or (put l i t) (3 * i + 3) 0 ≡ t.pivot = get_or-set_same s (3 * i + 3) t.pivot 0 (omega arith) in
    same_step _ _ _ t e1 e2 e3

pub length_put : (l : List ℕ) (i : ℕ) (t : Step) → length (put l i t) ≡ length l
length_put l i t = simp length-set

pub length_laid : (n : ℕ) (ss : List Step) → length (laid n ss) ≡ n
length_laid n [] = length-replicate n 0
length_laid n (t ∷ ss) = length_put (laid n ss) (length ss) t ∙ length_laid n ss

-- a step is read by its three places
step_same : (l r : List ℕ) (i : ℕ) → ((j : ℕ) → 0 < j → j < 3 * (i + 1) + 1 → get_or l j 0 ≡ get_or r j 0) → step_of l i ≡ step_of r i
step_same l r i h =
    let a = h (3 * i + 1) (omega arith) (omega arith) in
    let b = h (3 * i + 2) (omega arith) (omega arith) in
    let c = h (3 * i + 3) (omega arith) (omega arith) in
    rw (a, b, c)

laid_step : (n : ℕ) (ss : List Step) (i : ℕ) → 3 * length ss < n → i < length ss → step_of (laid n ss) i ≡ step_at ss i
laid_step n [] i r l = absurd (omega arith)
laid_step n (t ∷ ss) i r l = ⊎_elim
    (λ (h : i < length ss). step_same (laid n (t ∷ ss)) (laid n ss) i (λ j p k. put_old (laid n ss) (length ss) t j (omega arith)) ∙ laid_step n ss i (omega arith) h ∙ sym (from_end_old _ t ss i h))
    (λ (h : length ss ≤ i).
    let is : length ss ≡ i = omega arith in
    subst (λ v. step_of (put (laid n ss) (length ss) t) v ≡ step_at (t ∷ ss) v) is (put_new (laid n ss) (length ss) t (omega (arith, length_laid n ss)) ∙ sym (from_end_new _ t ss (length ss) refl)))
    (cases_lt i (length ss))

module _ (q : List ℕ) (n k : ℕ) (c : List ℕ) (ts : List Step) (es : List (List ℕ)) (is : IsQuestion q) (valid : Valid q n ts es) (ends : Ends q [] ts es k c) where
  abbrev written : List ℕ
  written = set (laid n ts) 0 (length ts)

  nil : line_of q (made_at es) k ≡ []
  nil = ends.line ∙ false_empty c ends.false

  high : clause_count q ≤ k
  high = ⊎_elim
      (λ (l : k < clause_count q). let z = ap length (sym (cond-true _ _ _ (lt-ltb k (clause_count q) l)) ∙ nil) in let y = clause_some q is k l in absurd (omega arith))
      (λ (l : clause_count q ≤ k). l)
      (cases_lt k (clause_count q))

  last_line : clause_count q + length ts ≡ k + 1
  last_line = let h = high in ⊎_elim (λ (l : k < clause_count q). absurd (omega arith)) (λ (e : clause_count q + length ts ≡ k + 1). e) ends.last

  one : 1 ≤ length ts
  one = let h = high in let l = last_line in omega arith

  pub head : step_count written ≡ length ts
  head = let l = length_laid n ts in let f = valid.room one in get_or-set_same (laid n ts) 0 (length ts) 0 (omega arith)

  derives : Derives q written (made_at es)
  derives =
      let s : ℕ = length ts in
      let h = high in
      let l = last_line in
      let fit : 1 + 3 * s ≤ n = valid.room one in
      let place : k - clause_count q ≡ s - 1 = omega arith in
      let steps : (i : ℕ) → i < s → Makes q (made_at es) i (step_of written i) = λ i l. subst (Makes q (made_at es) i)
      (sym (step_same written (laid n ts) i (λ j p h. let ne : j ≢ 0 = λ (e : j ≡ 0). omega arith in get_or-set_other (laid n ts) 0 j s 0 ne) ∙ laid_step n ts i (omega arith) l))
      (valid.steps i l) in
      record {
        steps = subst (λ v. (i : ℕ) → i < v → Makes q (made_at es) i (step_of written i)) (sym head) steps;
        empty = ap (λ v. made_at es (v - 1)) head ∙ ap (made_at es) (sym place) ∙ sym (cond-false _ _ _ (le-ltb k (clause_count q) high)) ∙ nil;
      }

  closed_stands : (w : List ℕ) → Stands (checked q written w).0
  closed_stands =
      let h = head in
      let o = one in
      derivation_stands q written is.clauses
      (record {
        some = omega arith;
        few = omega (arith, valid.few);
        there = omega (arith, valid.room one, length_laid n ts, length-set (laid n ts) 0 (length ts));
      })
      (made_at es) derives

wanting : (v n m : ℕ) → (16777217 < 0 + 2 ^ v) ⊎ (n + 2 < 3 * (0 + 2 ^ v)) → Wanting v n m
wanting v n m h =
    let p = pow_pos v in
    ⊎_elim
    (λ (l : 16777217 < 0 + 2 ^ v). ⊎_elim
    (λ (k : 24 < v). inl k)
    (λ (k : v ≤ 24). let z : 2 ^ v ≤ 16777216 = pow_mono k in absurd (omega arith))
    (cases_lt 24 v))
    (λ (l : n + 2 < 3 * (0 + 2 ^ v)). inr (inl (omega arith)))
    h

told_upheld : (q : List ℕ) (n m : ℕ) → IsQuestion q → (r : End) → Told q n (variable_count q) [] [] [] r → Upheld q (answer_at n r) m (reply_at r)
told_upheld q n m is (Found b) (size, bits, clear) = found_judged q n b is (omega arith) bits clear
told_upheld q n m is (Closed k c ts) (es, valid, ends, grown) = closed_stands q n k c ts es is valid ends
told_upheld q n m is Long t = subst (λ v. Wanting (variable_count q) v m) (sym (length-replicate n 0)) (wanting (variable_count q) n m t)

close : (q : List ℕ) (n m : ℕ) → IsQuestion q → roomy q n m ≡ false → Wanting (variable_count q) n m
close q n m is h =
    let v : ℕ = variable_count q in
    ⊎_elim
    (λ e. let l = leb-false v n e in let p = below_pow v in inr (inl (omega arith)))
    (λ e. ⊎_elim
    (λ f. inr (inr (leb-false ((v + 4) * (v + 4)) m f)))
    (λ f. let l = leb-false (clause_count q) (length q) f in let k = few_clauses q is in absurd (omega arith))
    (and_cases (leb ((v + 4) * (v + 4)) m) (leb (clause_count q) (length q)) e))
    (and_cases (leb v n) _ h)

told : (q : List ℕ) (n : ℕ) → IsQuestion q → Told q n (variable_count q) [] [] [] (split q n (variable_count q) [] [])
told q n is =
    split_told q n is (variable_count q) [] [] [] (omega arith) (λ _. clear_none q is) (λ x l. absurd (omega arith))
    (record { same = refl; steps = λ i l. absurd (omega arith); few = omega arith; room = λ l. absurd (omega arith) })

pub splitting_upheld : (q : List ℕ) (n m : ℕ) → IsQuestion q → Upheld q (answer_at n (decided q n m)) m (reply_at (decided q n m))
splitting_upheld q n m is =
    cond_both (roomy q n m) _ _ (λ r. Upheld q (answer_at n r) m (reply_at r))
    (λ _. told_upheld q n m is (split q n (variable_count q) [] []) (told q n is))
    (λ h. subst (λ v. Wanting (variable_count q) v m) (sym (length-replicate n 0)) (close q n m is h))

told_few : (q : List ℕ) (n : ℕ) → IsQuestion q → (r : End) → Told q n (variable_count q) [] [] [] r → reply_at r ≡ Refutation → step_count (answer_at n r) < 2 ^ variable_count q
told_few q n is (Found b) t e = let z : ◌≡◌ {A = ℕ} 0 1 = cc in absurd (omega arith)
told_few q n is (Closed k c ts) (es, valid, ends, grown) e = omega (arith, head q n k c ts es is valid ends, grown.short)
told_few q n is Long t e = let z : ◌≡◌ {A = ℕ} 0 1 = cc in absurd (omega arith)

pub splitting_few : (q : List ℕ) (n m : ℕ) → IsQuestion q → reply_at (decided q n m) ≡ Refutation → step_count (answer_at n (decided q n m)) < 2 ^ variable_count q
splitting_few q n m is =
    cond_both (roomy q n m) _ _ (λ r. reply_at r ≡ Refutation → step_count (answer_at n r) < 2 ^ variable_count q)
    (λ _. told_few q n is (split q n (variable_count q) [] []) (told q n is))
    (λ _ e. let z : ◌≡◌ {A = ℕ} 0 1 = cc in absurd (omega arith))
