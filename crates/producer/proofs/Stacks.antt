-- Stacks in the working list. Assumes nothing.
use Rattle.std.proofs.Common.{◌≡◌, ℕ, zero, suc, ◌+◌, ◌-◌, ◌*◌, ◌/◌, ◌<◌, ◌≤◌, true, false, cond, eqb, ◌⊎◌, List, [], ◌∷◌, ◌++◌, length, get_or, take, replicate, sym, refl, ap, ◌∙◌, inl, inr, ⊎_elim, mul-le-mul_right, add-mul, mul-add, add-one, arith}
use Rattle.std.proofs.lemmas.List.{take_more, length_push, length-take-le, length-append, length-replicate, get_or-take, get_or_default, get_or_append_left, get_or-append_right, get_or-replicate, same_lists}
use Rattle.std.proofs.lemmas.Bool.{cond_both, cond-true, cond-false, eq-eqb, ne_eqb, cases_eq, cases_lt, cases_Bool}
use Rattle.question.specs.Questions.{Mem}
use Rattle.answer.specs.Joint.{union, joint}
use Rattle.answer.proofs.Members.{mem_union, union_mem, mem_without, without_mem}
use Rattle.producer.specs.Procedure.{mentions}
use Rattle.producer.specs.Machine.{Frame, Zero, One, value, values, mark, Held, Holds, Agree, Unset, cost, owed}
use Rattle.producer.proofs.Falsity.{mentioned}

pub row_low : (v d : ℕ) → 2 * v ≤ (d + 2) * v
row_low v d = omega (arith, add-mul d 2 v)

pub row_high : (v e d : ℕ) → e < d → (e + 2) * v + v ≤ (d + 2) * v
row_high v e d h =
    let k : e + 1 ≤ d = omega arith in
    omega (arith, add-mul e 2 v, add-mul d 2 v, add-mul e 1 v, mul-le-mul_right {m = e + 1} {n = d} v k)

pub row_mono : (v e d : ℕ) → e ≤ d → (e + 2) * v ≤ (d + 2) * v
row_mono v e d h = mul-le-mul_right {m = e + 2} {n = d + 2} v (omega arith)

pub rows_fit : (v : ℕ) → (v + 2) * v + v ≤ (v + 4) * (v + 4)
rows_fit v =
    let a = mul-le-mul_right {m = v + 3} {n = v + 4} v (omega arith) in
    omega (arith, add-mul v 2 v, add-mul v 3 v, add-mul v 4 v, add-mul v 4 (v + 4), mul-add (v + 4) v 4)

held_agree : (v : ℕ) (w x : List ℕ) (d e : ℕ) (f : Frame) → e < d → Agree v d w x → Held v w e f → Held v x e f
held_agree v w x d e Zero l g h = g.values_same e l ∙ h
held_agree v w x d e (One k c) l g h = (
  g.values_same e l ∙ h.0,
  g.lines_same e l ∙ h.1,
  λ i b. g.rows_same ((e + 2) * v + i) (omega (arith, row_low v e)) (omega (arith, row_high v e d l)) ∙ h.2 i b,
)

-- what is written behind the places of a stack leaves it
pub holds_agree : (v : ℕ) (w x : List ℕ) (d : ℕ) (fs : List Frame) → length fs ≤ d → Agree v d w x → Holds v w fs → Holds v x fs
holds_agree v w x d [] l g h = tt
holds_agree v w x d (f ∷ fs) l g h = (held_agree v w x d (length fs) f (omega arith) g h.0, holds_agree v w x d fs (omega arith) g h.1)

pub agree_from : (v d : ℕ) (w x : List ℕ) → d ≤ v → ((i : ℕ) → i < (v + 2) * v → get_or x i 0 ≡ get_or w i 0) → Agree v d w x
agree_from v d w x l h = record {
  values_same = λ i k. h i (omega (arith, row_low v v));
  lines_same = λ i k. h (v + i) (omega (arith, row_low v v));
  rows_same = λ i a b. h i (omega (arith, row_mono v d v l));
}

pub agree_unset : (v d : ℕ) (w x : List ℕ) → d < v → Unset v d w x → Agree v d w x
agree_unset v d w x l u = record {
  values_same = λ i k. u.others i (omega (arith, row_low v v)) (λ (e : i ≡ d). omega arith);
  lines_same = λ i k. u.others (v + i) (omega (arith, row_low v v)) (λ (e : v + i ≡ d). omega arith);
  rows_same = λ i a b. u.others i (omega (arith, row_mono v d v (omega arith))) (λ (e : i ≡ d). omega arith);
}

pub length_values : (fs : List Frame) → length (values fs) ≡ length fs
length_values [] = refl
length_values (f ∷ fs) = let h = length_values fs in let p = length_push (values fs) (value f) in omega arith

held_value : (v : ℕ) (w : List ℕ) (e : ℕ) (f : Frame) → Held v w e f → get_or w e 0 ≡ value f
held_value v w e Zero h = h
held_value v w e (One k c) h = h.0

pub taken : (v : ℕ) (w : List ℕ) (fs : List Frame) → length fs ≤ length w → Holds v w fs → take (length fs) w ≡ values fs
taken v w [] l h = refl
taken v w (f ∷ fs) l h =
    ap (λ k. take k w) (sym (add-one (length fs))) ∙ take_more w (length fs) 0 (omega arith)
    ∙ ap (λ u. u ++ get_or w (length fs) 0 ∷ []) (taken v w fs (omega arith) h.1) ∙ ap (λ u. values fs ++ u ∷ []) (held_value v w (length fs) f h.0)

-- the row of values: those of the stack, and 2 for each variable that is not set
pub numbers_are : (v : ℕ) (w : List ℕ) (fs : List Frame) → length fs ≤ v → v ≤ length w → Holds v w fs → ((i : ℕ) → length fs ≤ i → i < v → get_or w i 0 ≡ 2) →
    take v w ≡ values fs ++ replicate (v - length fs) 2
numbers_are v w fs under long holds unset =
    let a : List ℕ = values fs in
    let rest : List ℕ = replicate (v - length fs) 2 in
    let size : length a ≡ length fs = length_values fs in
    let all : length (take v w) ≡ v = length-take-le v w long in
    let set_so_far : take (length fs) w ≡ a = taken v w fs (omega arith) holds in
    same_lists (take v w) (a ++ rest) (omega (arith, length-append a rest, length-replicate {A = ℕ} (v - length fs) 2))
    (λ k d l. get_or-take v w k d (omega arith) ∙ get_or_default w k d 0 (omega arith) ∙ ⊎_elim
    (λ (h : k < length fs).
    sym (get_or-take (length fs) w k 0 h) ∙ ap (λ u. get_or u k 0) set_so_far ∙ get_or_default a k 0 d (omega arith) ∙ sym (get_or_append_left a rest d k (omega arith)))
    (λ (h : length fs ≤ k).
    unset k h (omega arith) ∙ sym (get_or-append_right a rest (length a) k d refl (omega arith) ∙ get_or-replicate (v - length fs) (k - length a) 2 d (omega arith)))
    (cases_lt k (length fs)))

-- marks
differ : false ≡ true → ⊥
differ h = let z : ◌≡◌ {A = ℕ} 0 1 = cc in omega arith

pub mentions_from : (d : ℕ) (xs : List ℕ) (x : ℕ) → Mem x xs → x / 2 ≡ d → mentions d xs ≡ true
mentions_from d [] x m e = absurd m
mentions_from d (y ∷ ys) x m e =
    cond_both (eqb (y / 2) d) _ _ (λ b. b ≡ true) (λ _. refl)
    (λ n. ⊎_elim
    (λ s. let z : y / 2 ≡ d = ap (λ k. k / 2) (sym s) ∙ e in absurd (differ (sym n ∙ eq-eqb (y / 2) d z)))
    (λ k. mentions_from d ys x k e) m)

pub mark_none : (d : ℕ) (c : List ℕ) → mark d c ≡ 0 → mentions d c ≡ false
mark_none d c h = ⊎_elim (λ t. let z : mark d c ≡ 1 = cond-true _ _ _ t in absurd (omega arith)) (λ f. f) (cases_Bool (mentions d c))

pub mark_some : (d : ℕ) (c : List ℕ) → (mark d c ≡ 0 → ⊥) → mentions d c ≡ true
mark_some d c h = ⊎_elim (λ t. t) (λ f. absurd (h (cond-false _ _ _ f))) (cases_Bool (mentions d c))

module _ (c e : List ℕ) (p x : ℕ) where
  into_joint : (xs : List ℕ) → ((z : ℕ) → Mem z xs → Mem z c ⊎ Mem z e) → (x ≡ p → ⊥) → mentions x xs ≡ true → mark x (joint c e p) ≡ 1
  into_joint xs of ne h =
      let k = mentioned x xs h in
      cond-true _ _ _ (mentions_from x (joint c e p) k.0 (without_mem p (union c e) k.0 (union_mem c e k.0 (of k.0 k.1)) (λ q. ne (sym k.2 ∙ q))) k.2)

  pub mark_joint : cond (eqb x p) 0 (cond (eqb (mark x c) 0) (mark x e) 1) ≡ mark x (joint c e p)
  mark_joint = ⊎_elim
      (λ (s : x ≡ p). cond-true _ _ _ (eq-eqb x p s) ∙ sym (⊎_elim
      (λ t. let k = mentioned x (joint c e p) t in absurd ((mem_without p (union c e) k.0 k.1).1 (k.2 ∙ s)))
      (λ t. cond-false _ _ _ t)
      (cases_Bool (mentions x (joint c e p)))))
      (λ (s : x ≡ p → ⊥). cond-false _ _ _ (ne_eqb x p s) ∙ ⊎_elim
      (λ t. let one : mark x c ≡ 1 = cond-true _ _ _ t in
      cond-false _ _ _ (ne_eqb (mark x c) 0 (λ (z : mark x c ≡ 0). omega arith)) ∙ sym (into_joint c (λ z m. inl m) s t))
      (λ f. let none : mark x c ≡ 0 = cond-false _ _ _ f in
      cond-true _ _ _ (eq-eqb (mark x c) 0 none) ∙ ⊎_elim
      (λ t. let one : mark x e ≡ 1 = cond-true _ _ _ t in one ∙ sym (into_joint e (λ z m. inr m) s t))
      (λ g. let nil : mark x e ≡ 0 = cond-false _ _ _ g in nil ∙ sym (⊎_elim
      (λ t. let k = mentioned x (joint c e p) t in let m = mem_without p (union c e) k.0 k.1 in
      absurd (⊎_elim
      (λ i. differ (sym f ∙ mentions_from x c k.0 i k.2))
      (λ i. differ (sym g ∙ mentions_from x e k.0 i k.2))
      (mem_union c e k.0 m.0)))
      (λ t. cond-false _ _ _ t)
      (cases_Bool (mentions x (joint c e p)))))
      (cases_Bool (mentions x e)))
      (cases_Bool (mentions x c)))
      (cases_eq x p)

-- turns
pub cost_some : (m : ℕ) → 0 < cost m
cost_some zero = omega arith
cost_some (suc m) = omega arith

pub owed_same : (v : ℕ) (w x : List ℕ) (d : ℕ) → ((i : ℕ) → i < d → get_or x i 0 ≡ get_or w i 0) → owed v x d ≡ owed v w d
owed_same v w x zero h = refl
owed_same v w x (suc d) h =
    let a = owed_same v w x d (λ i l. h i (omega arith)) in
    let b = h d (omega arith) in
    rw (a, b)

module _ (v : ℕ) (w : List ℕ) (d : ℕ) where
  pub owed_zero : get_or w d 0 ≡ 0 → owed v w (d + 1) ≡ owed v w d + (cost (v - (d + 1)) + 2)
  owed_zero h = rw add-one (ap (λ k. owed v w d + k) (cond-true _ _ _ (eq-eqb _ _ h)))

  pub owed_one : (get_or w d 0 ≡ 0 → ⊥) → owed v w (d + 1) ≡ owed v w d + 1
  owed_one h = rw add-one (ap (λ k. owed v w d + k) (cond-false _ _ _ (ne_eqb _ _ h)))

  pub owed_more : owed v w d < owed v w (d + 1)
  owed_more = ⊎_elim
      (λ (h : get_or w d 0 ≡ 0). omega (arith, owed_zero h))
      (λ (h : get_or w d 0 ≡ 0 → ⊥). omega (arith, owed_one h))
      (cases_eq (get_or w d 0) 0)

pub cost_next : (v d : ℕ) → d < v → cost (v - d) ≡ 2 * cost (v - (d + 1)) + 3
cost_next v d h = let m : v - d ≡ suc (v - (d + 1)) = omega arith in rw m
