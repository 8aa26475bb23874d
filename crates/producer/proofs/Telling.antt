-- What the end of a branch tells. Assumes nothing.
use Rattle.std.proofs.Common.{◌≡◌, ℕ, zero, suc, ◌+◌, ◌-◌, ◌*◌, ◌/◌, ◌^◌, ◌<◌, ◌≤◌, true, false, cond, eqb, leb, ◌⊎◌, List, [], ◌∷◌, ◌++◌, length, get_or, replicate, Some, None, Option, sym, refl, ap, ◌∙◌, subst, inl, inr, ⊎_elim, pow-suc, arith, pow_pos}
use Rattle.std.proofs.lemmas.List.{get_or_append_left, length_push, get_or_push}
use Rattle.std.proofs.lemmas.Bool.{cond_both, cond-true, cond-false, lt-ltb, le-ltb, eq-eqb, ne_eqb, leb-true, leb-false, and_parts, and_cases, cases_lt}
use Rattle.answer.specs.declared.steps.Step.{Step}
use Rattle.question.specs.Questions.{variable_count, clause_count, clause_of, Mem, Clause, IsQuestion}
use Rattle.answer.specs.Joint.{joint}
use Rattle.answer.specs.Lines.{line_of}
use Rattle.answer.specs.Derivations.{Resolves, Makes}
use Rattle.producer.specs.Procedure.{mentions, lowest_at, End, Found, Closed, Long, fits, after_one, after_zero, closing, split}
use Rattle.producer.proofs.Falsity.{False, closes_false, lacking, false_before, joint_false, joint_resolves, lowest_some, Clear, clear_next}

-- the element i of a list that has the newest first
abbrev pub from_end : {X : Type 0} → X → List X → ℕ → X
from_end d [] i = d
from_end d (x ∷ xs) i = cond (eqb i (length xs)) x (from_end d xs i)

pub from_end_new : {X : Type 0} (d x : X) (xs : List X) (i : ℕ) → i ≡ length xs → from_end d (x ∷ xs) i ≡ x
from_end_new d x xs i e = cond-true _ _ _ (eq-eqb _ _ e)

pub from_end_old : {X : Type 0} (d x : X) (xs : List X) (i : ℕ) → i < length xs → from_end d (x ∷ xs) i ≡ from_end d xs i
from_end_old d x xs i l = cond-false _ _ _ (ne_eqb i (length xs) (λ (e : i ≡ length xs). omega arith))

abbrev pub step_at : List Step → ℕ → Step
step_at ss i = from_end (record { first = 0; second = 0; pivot = 0 }) ss i

abbrev pub made_at : List (List ℕ) → ℕ → List ℕ
made_at ds i = from_end [] ds i

pub fits_true : (n s : ℕ) → fits n s ≡ true → (s + 1 ≤ 16777216) × (1 + 3 * (s + 1) ≤ n)
fits_true n s h =
    let b = and_parts (leb (s + 1) 16777216) (leb (1 + 3 * (s + 1)) n) h in
    (leb-true (s + 1) 16777216 b.0, leb-true (1 + 3 * (s + 1)) n b.1)

fits_false : (n s : ℕ) → fits n s ≡ false → (16777216 < s + 1) ⊎ (n < 1 + 3 * (s + 1))
fits_false n s h =
    ⊎_elim (λ z. inl (leb-false (s + 1) 16777216 z)) (λ z. inr (leb-false (1 + 3 * (s + 1)) n z)) (and_cases (leb (s + 1) 16777216) (leb (1 + 3 * (s + 1)) n) h)

-- the steps so far are proper, make the clauses ds, and have room in an answer of n places
pub record Valid (q : List ℕ) (n : ℕ) (ss : List Step) (ds : List (List ℕ)) : Type 0 where
  pub same : length ds ≡ length ss
  pub steps : (i : ℕ) → i < length ss → Makes q (made_at ds) i (step_at ss i)
  pub few : length ss ≤ 16777216
  pub room : 0 < length ss → 1 + 3 * length ss ≤ n

-- a line whose clause is false: of the question, or of the last step
pub record Ends (q a : List ℕ) (ss : List Step) (ds : List (List ℕ)) (k : ℕ) (c : List ℕ) : Type 0 where
  pub proper : Clause c
  pub false : False a c
  pub line : line_of q (made_at ds) k ≡ c
  pub last : (k < clause_count q) ⊎ (clause_count q + length ss ≡ k + 1)

-- m variables make fewer than 2 ^ m steps, and leave the clauses that were made before
pub record Grown (m : ℕ) (ss : List Step) (ds : List (List ℕ)) (ts : List Step) (es : List (List ℕ)) : Type 0 where
  pub more : length ss ≤ length ts
  pub short : length ts < length ss + 2 ^ m
  pub kept : (i : ℕ) → i < length ss → made_at ds i ≡ made_at es i

abbrev pub Bits : List ℕ → Type 0
Bits a = (x : ℕ) → x < length a → get_or a x 2 < 2

abbrev pub Told : List ℕ → ℕ → ℕ → List ℕ → List Step → List (List ℕ) → End → Type 0
Told q n m a ss ds (Found b) = (length b ≡ length a + m) × Bits b × Clear q b
Told q n m a ss ds (Closed k c ts) = (es : List (List ℕ)) × Valid q n ts es × Ends q a ts es k c × Grown m ss ds ts es
Told q n m a ss ds Long = (16777217 < length ss + 2 ^ m) ⊎ (n + 2 < 3 * (length ss + 2 ^ m))

bits_more : (a : List ℕ) (b : ℕ) → b < 2 → Bits a → Bits (a ++ b ∷ [])
bits_more a b h bits x l = ⊎_elim
    (λ (k : x < length a). subst (λ v. v < 2) (sym (get_or_append_left a (b ∷ []) 2 x k)) (bits x k))
    (λ (k : length a ≤ x). subst (λ v. v < 2) (sym (get_or_push a b 2 x (omega (arith, length_push a b)))) h)
    (cases_lt x (length a))

-- what two ways of naming the derived clauses share
line_same : (q : List ℕ) (d e : ℕ → List ℕ) (i : ℕ) → ((j : ℕ) → j < i → d j ≡ e j) → (k : ℕ) → k < clause_count q + i → line_of q d k ≡ line_of q e k
line_same q d e i same k h = ⊎_elim
    (λ (l : k < clause_count q). cond-true _ _ _ (lt-ltb _ _ l) ∙ sym (cond-true _ _ _ (lt-ltb _ _ l)))
    (λ (l : clause_count q ≤ k). cond-false _ _ _ (le-ltb _ _ l) ∙ same (k - clause_count q) (omega arith) ∙ sym (cond-false _ _ _ (le-ltb _ _ l)))
    (cases_lt k (clause_count q))

resolves_same : (xs xs' ys ys' zs zs' : List ℕ) (p : ℕ) → xs ≡ xs' → ys ≡ ys' → zs ≡ zs' → Resolves xs ys p zs → Resolves xs' ys' p zs'
resolves_same xs xs' ys ys' zs zs' p a b c r =
    subst (λ v. Resolves xs' ys' p v) c (subst (λ v. Resolves xs' v p zs) b (subst (λ v. Resolves v ys p zs) a r))

makes_same : (q : List ℕ) (d e : ℕ → List ℕ) (i : ℕ) (t : Step) → ((j : ℕ) → j < i → d j ≡ e j) → d i ≡ e i → Makes q d i t → Makes q e i t
makes_same q d e i t below here m = record {
  earlier = m.earlier;
  resolves =
      resolves_same _ _ _ _ _ _ t.pivot (line_same q d e i below t.first m.earlier.0) (line_same q d e i below t.second m.earlier.1) here m.resolves;
}

low : (q a : List ℕ) (ss : List Step) (ds : List (List ℕ)) (k : ℕ) (c : List ℕ) → Ends q a ss ds k c → k < clause_count q + length ss
low q a ss ds k c e = ⊎_elim (λ (h : k < clause_count q). omega arith) (λ (h : clause_count q + length ss ≡ k + 1). omega arith) e.last

-- a branch in which no step is made
closed_told : (q : List ℕ) (n m : ℕ) (a : List ℕ) (ss : List Step) (ds : List (List ℕ)) (k : ℕ) → IsQuestion q → length a + m ≡ variable_count q → Valid q n ss ds →
    lowest_at q a m ≡ Some k → Told q n m a ss ds (Closed k (clause_of q k) ss)
closed_told q n m a ss ds k is all valid e =
    let f = lowest_some q (a ++ replicate m 2) (length a) (clause_count q) 0 k e in
    let l : k < clause_count q = omega (arith, f.0) in
    let below : (x : ℕ) → Mem x (clause_of q k) → x / 2 < length a + m = λ x i. let h : x / 2 < variable_count q = is.variables k x l i in omega arith in
    let p = pow_pos m in (
      ds,
      valid,
      record { proper = is.clauses k l; false = closes_false a m (clause_of q k) below (length a) f.1; line = cond-true _ _ _ (lt-ltb _ _ l); last = inl l },
      record { more = omega arith; short = omega arith; kept = λ i h. refl },
    )

closing_told : (q : List ℕ) (n m : ℕ) (a : List ℕ) (ss : List Step) (ds : List (List ℕ)) (r : End) → IsQuestion q → length a + m ≡ variable_count q → Valid q n ss ds →
    (o : Option ℕ) → lowest_at q a m ≡ o → (o ≡ None → Told q n m a ss ds r) → Told q n m a ss ds (closing q ss r o)
closing_told q n m a ss ds r is all valid (Some k) e t = closed_told q n m a ss ds k is all valid e
closing_told q n m a ss ds r is all valid None e t = t refl

module _ (q : List ℕ) (n m : ℕ) (a : List ℕ) (ss : List Step) (ds : List (List ℕ)) where
  -- a result of a branch that stands as the result of both
  stands_found : (b : ℕ) (ts : List Step) (es : List (List ℕ)) (v : List ℕ) → Told q n m (a ++ b ∷ []) ts es (Found v) → Told q n (suc m) a ss ds (Found v)
  stands_found b ts es v t = (omega (arith, t.0, length_push a b), t.1, t.2)

  grown_more : (ts : List Step) (es : List (List ℕ)) → Grown m ss ds ts es → Grown (suc m) ss ds ts es
  grown_more ts es g = let p = pow-suc 2 m in record { more = g.more; short = omega (arith, g.short); kept = g.kept }

  grown_twice : (ts : List Step) (es : List (List ℕ)) (us : List Step) (fs : List (List ℕ)) → Grown m ss ds ts es → Grown m ts es us fs → Grown (suc m) ss ds us fs
  grown_twice ts es us fs g h =
      let p = pow-suc 2 m in
      let l : length ss ≤ length ts = g.more in
      record { more = omega (arith, h.more); short = omega (arith, g.short, h.short); kept = λ i k. g.kept i k ∙ h.kept i (omega arith) }

  module _ (ts : List Step) (es : List (List ℕ)) (k : ℕ) (c : List ℕ) (g : Grown m ss ds ts es) (ve : Valid q n ts es) (ends : Ends q (a ++ 0 ∷ []) ts es k c) (has : mentions (length a) c ≡ true) where
    module _ (us : List Step) (fs : List (List ℕ)) (l : ℕ) (e : List ℕ) (h : Grown m ts es us fs) (vf : Valid q n us fs) (other : Ends q (a ++ 1 ∷ []) us fs l e) (too : mentions (length a) e ≡ true) where
      abbrev new : List ℕ
      new = joint c e (length a)

      abbrev step : Step
      step = record { first = k; second = l; pivot = length a }

      below : (i : ℕ) → i < length us → made_at fs i ≡ made_at (new ∷ fs) i
      below i z = sym (from_end_old [] new fs i (omega (arith, vf.same)))

      makes : Makes q (made_at (new ∷ fs)) (length us) step
      makes =
          let x : length ts ≤ length us = h.more in
          let k1 : k < clause_count q + length ts = low q _ ts es k c ends in
          let k2 : k < clause_count q + length us = omega arith in
          let l1 : l < clause_count q + length us = low q _ us fs l e other in
          record {
            earlier = (k2, l1);
            resolves = resolves_same _ _ _ _ _ _ (length a)
                (sym ends.line ∙ line_same q (made_at es) (made_at fs) (length ts) h.kept k k1 ∙ line_same q (made_at fs) (made_at (new ∷ fs)) (length us) below k k2)
                (sym other.line ∙ line_same q (made_at fs) (made_at (new ∷ fs)) (length us) below l l1)
                (sym (from_end_new [] new fs (length us) (sym vf.same)))
                (joint_resolves a c e ends.proper other.proper ends.false other.false has too);
          }

      stepped : fits n (length us) ≡ true → Told q n (suc m) a ss ds (Closed (clause_count q + length us) new (step ∷ us))
      stepped f =
          let b = fits_true n (length us) f in
          let gt = grown_twice ts es us fs g h in
          let p = pow-suc 2 m in
          let place : clause_count q + length us - clause_count q ≡ length us = omega arith in (
            new ∷ fs,
            record {
              same = ap suc vf.same;
              steps = λ i z. ⊎_elim
                  (λ (y : i < length us). subst (Makes q (made_at (new ∷ fs)) i) (sym (from_end_old _ step us i y)) (makes_same q (made_at fs) (made_at (new ∷ fs)) i (step_at us i) (λ j w. below j (omega arith)) (below i y) (vf.steps i y)))
                  (λ (y : length us ≤ i).
                  let is : length us ≡ i = omega arith in
                  subst (λ v. Makes q (made_at (new ∷ fs)) v (step_at (step ∷ us) v)) is (subst (Makes q (made_at (new ∷ fs)) (length us)) (sym (from_end_new _ step us (length us) refl)) makes))
                  (cases_lt i (length us));
              few = omega arith;
              room = λ _. omega arith;
            },
            record {
              proper = (joint_resolves a c e ends.proper other.proper ends.false other.false has too).proper;
              false = joint_false a c e ends.proper other.proper ends.false other.false;
              line = cond-false _ _ _ (le-ltb (clause_count q + length us) (clause_count q) (omega arith)) ∙ ap (made_at (new ∷ fs)) place ∙ from_end_new [] new fs (length us) (sym vf.same);
              last = inr (omega arith);
            },
            record {
              more = omega (arith, gt.more);
              short = omega (arith, g.short, h.short);
              kept = λ i z. gt.kept i z ∙ below i (omega (arith, gt.more));
            },
          )

      overlong : fits n (length us) ≡ false → Told q n (suc m) a ss ds Long
      overlong f =
          let p = pow-suc 2 m in
          let x = g.short in
          let y = h.short in
          ⊎_elim
          (λ (z : 16777216 < length us + 1). inl (omega arith))
          (λ (z : n < 1 + 3 * (length us + 1)). inr (omega arith))
          (fits_false n (length us) f)

    one_told : (r : End) → Told q n m (a ++ 1 ∷ []) ts es r → Told q n (suc m) a ss ds (after_one (clause_count q) n (length a) k c r)
    one_told (Found v) t = stands_found 1 ts es v t
    one_told (Closed l e us) (fs, vf, other, h) =
        cond_both (mentions (length a) e) _ _ (Told q n (suc m) a ss ds)
        (λ too. cond_both (fits n (length us)) _ _ (Told q n (suc m) a ss ds) (stepped us fs l e h vf other too) (overlong us fs l e h vf other too))
        (λ lacks. (
          fs,
          vf,
          record { proper = other.proper; false = false_before a 1 e (lacking (length a) e lacks) other.false; line = other.line; last = other.last },
          grown_twice ts es us fs g h,
        ))
    one_told Long t =
        let p = pow-suc 2 m in
        let x = g.short in
        ⊎_elim (λ z. inl (omega arith)) (λ z. inr (omega arith)) t

  zero_told : (other : List Step → End) → ((ts : List Step) (es : List (List ℕ)) → Valid q n ts es → Told q n m (a ++ 1 ∷ []) ts es (other ts)) → (r : End) → Told q n m (a ++ 0 ∷ []) ss ds r → Told q n (suc m) a ss ds (after_zero (clause_count q) n (length a) other r)
  zero_told other more (Found v) t = stands_found 0 ss ds v t
  zero_told other more (Closed k c ts) (es, ve, ends, g) =
      cond_both (mentions (length a) c) _ _ (Told q n (suc m) a ss ds)
      (λ has. one_told ts es k c g ve ends has (other ts) (more ts es ve))
      (λ lacks. (
        es,
        ve,
        record { proper = ends.proper; false = false_before a 0 c (lacking (length a) c lacks) ends.false; line = ends.line; last = ends.last },
        grown_more ts es g,
      ))
  zero_told other more Long t =
      let p = pow-suc 2 m in
      ⊎_elim (λ z. inl (omega arith)) (λ z. inr (omega arith)) t

-- a branch tells the truth
pub split_told : (q : List ℕ) (n : ℕ) → IsQuestion q → (m : ℕ) (a : List ℕ) (ss : List Step) (ds : List (List ℕ)) → length a + m ≡ variable_count q →
    (lowest_at q a m ≡ None → Clear q a) → Bits a → Valid q n ss ds → Told q n m a ss ds (split q n m a ss)
split_told q n is zero a ss ds all clear bits valid =
    closing_told q n 0 a ss ds (Found a) is all valid (lowest_at q a 0) refl (λ e. (omega arith, bits, clear e))
split_told q n is (suc m) a ss ds all clear bits valid =
    closing_told q n (suc m) a ss ds _ is all valid (lowest_at q a (suc m)) refl
    (λ e.
    let next : (b : ℕ) → lowest_at q (a ++ b ∷ []) m ≡ None → Clear q (a ++ b ∷ []) = λ b. clear_next q is a b m (omega arith) (clear e) in
    zero_told q n m a ss ds (λ ts. split q n m (a ++ 1 ∷ []) ts)
    (λ ts es v. split_told q n is m (a ++ 1 ∷ []) ts es (omega (arith, length_push a 1)) (next 1) (bits_more a 1 (omega arith) bits) v)
    (split q n m (a ++ 0 ∷ []) ss)
    (split_told q n is m (a ++ 0 ∷ []) ss ds (omega (arith, length_push a 0)) (next 0) (bits_more a 0 (omega arith) bits) valid))
