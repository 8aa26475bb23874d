-- Clauses whose literals are all false. Assumes nothing.
use Rattle.std.proofs.Common.{◌≡◌, ℕ, zero, suc, ◌+◌, ◌-◌, ◌*◌, ◌/◌, ◌%◌, ◌<◌, ◌≤◌, Bool, true, false, not, ◌&&◌, eqb, List, [], ◌∷◌, ◌++◌, length, get_or, replicate, Some, None, sym, refl, ap, ◌∙◌, subst, inl, inr, ⊎_elim, arith}
use Rattle.std.proofs.lemmas.List.{get_or_append_left, get_or-append_right, get_or-replicate, get_or_default, get_or_push, get_or_past, length_push}
use Rattle.std.proofs.lemmas.Bool.{cond_both, eqb-true, eqb-false, eq-eqb, lt-ltb, and_from, and_parts, cases_order, cases_lt, cases_eq, cases_Bool}
use Rattle.std.specs.List.{AllByRecursion}
use Rattle.signal.specs.Circuit.{clause_of as value_of}
use Rattle.signal.specs.Kinds.{tri_ops, may_tri}
use Rattle.signal.specs.Truth.{False as FalseAt}
use Rattle.signal.proofs.Usual.{each_false}
use Rattle.question.specs.Questions.{variable_count, clause_count, clause_of, Mem, Clause, IsQuestion}
use Rattle.answer.specs.Joint.{union, joint}
use Rattle.answer.specs.Derivations.{Resolves}
use Rattle.answer.proofs.Members.{Asc, mem_union, union_mem, clause_asc, asc_union, mem_without, without_mem, asc_without}
use Rattle.producer.specs.Procedure.{mentions, is_due, is_false, closes, lowest, lowest_at}
use Rattle.producer.proofs.Places.{clause_some, last, last_in, last_highest}

-- each literal is of a variable that is set, to the value that makes it false
abbrev pub False : List ℕ → List ℕ → Type 0
False a xs = (x : ℕ) → Mem x xs → get_or a (x / 2) 2 ≡ x % 2

false_set : (a : List ℕ) (x : ℕ) → get_or a (x / 2) 2 ≡ x % 2 → x / 2 < length a
false_set a x h = ⊎_elim
    (λ (l : x / 2 < length a). l)
    (λ (l : length a ≤ x / 2). let z : 2 ≡ x % 2 = sym (get_or_past a (x / 2) 2 l) ∙ h in absurd (omega arith))
    (cases_lt (x / 2) (length a))

-- ---- a value that is not set is the number 2
pad_at : (a : List ℕ) (m i : ℕ) → i < length a + m → get_or (a ++ replicate m 2) i 0 ≡ get_or a i 2
pad_at a m i h = ⊎_elim
    (λ (l : i < length a). get_or_append_left a (replicate m 2) 0 i l ∙ get_or_default a i 0 2 l)
    (λ (l : length a ≤ i).
    get_or-append_right a (replicate m 2) (length a) i 0 refl l ∙ get_or-replicate m (i - length a) 2 0 (omega arith) ∙ sym (get_or_past a i 2 l))
    (cases_lt i (length a))

all_mem : (P : ℕ → Type 0) (xs : List ℕ) → AllByRecursion P xs → (x : ℕ) → Mem x xs → P x
all_mem P [] h x m = absurd m
all_mem P (y ∷ ys) h x m = ⊎_elim (λ e. subst P (sym e) h.0) (λ n. all_mem P ys h.1 x n) m

mem_all : (P : ℕ → Type 0) (xs : List ℕ) → ((x : ℕ) → Mem x xs → P x) → AllByRecursion P xs
mem_all P [] h = tt
mem_all P (y ∷ ys) h = (h y (inl refl), mem_all P ys (λ x m. h x (inr m)))

module _ (a : List ℕ) (m : ℕ) (c : List ℕ) (below : (x : ℕ) → Mem x c → x / 2 < length a + m) where
  abbrev numbers : List ℕ
  numbers = a ++ replicate m 2

  pub closes_false : (d : ℕ) → closes numbers d c ≡ true → False a c
  closes_false d h x i =
      let k = and_parts (is_due d c) (not (may_tri (value_of tri_ops numbers c) 0 true)) h in
      sym (pad_at a m (x / 2) (below x i)) ∙ all_mem (FalseAt numbers) c ((each_false numbers c).0 k.1) x i

  pub false_closes : (d : ℕ) → 0 < length c → last c / 2 + 1 ≡ d → False a c → closes numbers d c ≡ true
  false_closes d some due f =
      and_from (is_due d c) (not (may_tri (value_of tri_ops numbers c) 0 true))
      (and_from _ _ (lt-ltb 0 (length c) some) (eq-eqb (last c / 2 + 1) d due))
      ((each_false numbers c).1 (mem_all (FalseAt numbers) c (λ x i. pad_at a m (x / 2) (below x i) ∙ f x i)))

-- ascending literals that are all false are a clause, since a variable has one value
pub clause_from : (a xs : List ℕ) → Asc xs → False a xs → Clause xs
clause_from a [] s f = tt
clause_from a (x ∷ xs) s f = (
  λ y m.
      let l : x < y = s.0 y m in
      let e : get_or a (x / 2) 2 ≡ x % 2 = f x (inl refl) in
      let g : get_or a (y / 2) 2 ≡ y % 2 = f y (inr m) in
      ⊎_elim
      (λ (h : x / 2 ≡ y / 2). let s : x % 2 ≡ y % 2 = sym e ∙ ap (λ v. get_or a v 2) h ∙ g in absurd (omega arith))
      (λ h. ⊎_elim (λ (k : x / 2 < y / 2). k) (λ (k : y / 2 < x / 2). absurd (omega arith)) h)
      (cases_order (x / 2) (y / 2)),
  clause_from a xs s.1 (λ y m. f y (inr m)),
)

pub mentioned : (d : ℕ) (xs : List ℕ) → mentions d xs ≡ true → (x : ℕ) × Mem x xs × (x / 2 ≡ d)
mentioned d [] = λ h. let z : ◌≡◌ {A = ℕ} 0 1 = cc in absurd (omega arith)
mentioned d (y ∷ ys) =
    cond_both (eqb (y / 2) d) _ _ (λ b. b ≡ true → (x : ℕ) × Mem x (y ∷ ys) × (x / 2 ≡ d))
    (λ e h. (y, inl refl, eqb-true _ _ e))
    (λ _ h. let k = mentioned d ys h in (k.0, inr k.1, k.2))

pub lacking : (d : ℕ) (xs : List ℕ) → mentions d xs ≡ false → (x : ℕ) → Mem x xs → x / 2 ≡ d → ⊥
lacking d [] = λ h x m e. absurd m
lacking d (y ∷ ys) =
    cond_both (eqb (y / 2) d) _ _ (λ b. b ≡ false → (x : ℕ) → Mem x (y ∷ ys) → x / 2 ≡ d → ⊥)
    (λ _ h. let z : ◌≡◌ {A = ℕ} 0 1 = cc in absurd (omega arith))
    (λ e h x m i. ⊎_elim (λ s. eqb-false _ _ e (ap (λ v. v / 2) (sym s) ∙ i)) (λ n. lacking d ys h x n i) m)

-- one more value
pub older : (a : List ℕ) (b x : ℕ) → (x ≡ length a → ⊥) → get_or (a ++ b ∷ []) x 2 ≡ get_or a x 2
older a b x ne = ⊎_elim
    (λ e. absurd (ne e))
    (λ h. ⊎_elim
    (λ (l : x < length a). get_or_append_left a (b ∷ []) 2 x l)
    (λ (l : length a < x). get_or_past (a ++ b ∷ []) x 2 (omega (arith, length_push a b)) ∙ sym (get_or_past a x 2 (omega arith)))
    h)
    (cases_order x (length a))

pub newest : (a : List ℕ) (b : ℕ) → get_or (a ++ b ∷ []) (length a) 2 ≡ b
newest a b = get_or_push a b 2 (length a) refl

-- a clause without the newest variable is false before it is set
pub false_before : (a : List ℕ) (b : ℕ) (xs : List ℕ) → ((x : ℕ) → Mem x xs → x / 2 ≡ length a → ⊥) → False (a ++ b ∷ []) xs → False a xs
false_before a b xs lacks f x m = sym (older a b (x / 2) (lacks x m)) ∙ f x m

module _ (a c e : List ℕ) (pc : Clause c) (pe : Clause e) (fc : False (a ++ 0 ∷ []) c) (fe : False (a ++ 1 ∷ []) e) where
  pub joint_false : False a (joint c e (length a))
  joint_false z m =
      let k = mem_without (length a) (union c e) z m in
      ⊎_elim (λ h. sym (older a 0 (z / 2) k.1) ∙ fc z h) (λ h. sym (older a 1 (z / 2) k.1) ∙ fe z h) (mem_union c e z k.0)

  -- the clauses of both branches have a resolvent on the variable that they were split on
  pub joint_resolves : mentions (length a) c ≡ true → mentions (length a) e ≡ true → Resolves c e (length a) (joint c e (length a))
  joint_resolves hc he =
      let d : ℕ = length a in
      let k = mentioned d c hc in
      let l = mentioned d e he in
      let vc : 0 ≡ k.0 % 2 = sym (newest a 0) ∙ ap (λ v. get_or (a ++ 0 ∷ []) v 2) (sym k.2) ∙ fc k.0 k.1 in
      let ve : 1 ≡ l.0 % 2 = sym (newest a 1) ∙ ap (λ v. get_or (a ++ 1 ∷ []) v 2) (sym l.2) ∙ fe l.0 l.1 in
      let ic : k.0 ≡ 2 * d = omega (arith, k.2) in
      let ie : l.0 ≡ 2 * d + 1 = omega (arith, l.2) in
      record {
        opposes = (subst (λ v. Mem v c) ic k.1, subst (λ v. Mem v e) ie l.1);
        proper = clause_from a (joint c e d) (asc_without d (union c e) (asc_union c e (clause_asc c pc) (clause_asc e pe))) joint_false;
        only = λ z m. let k = mem_without d (union c e) z m in (mem_union c e z k.0, k.1);
        every = λ z m ne. without_mem d (union c e) z (union_mem c e z m) ne;
      }

-- ---- the lowest clause that is false now
module _ (q numbers : List ℕ) (d : ℕ) where
  pub lowest_some : (n k j : ℕ) → lowest q numbers d n k ≡ Some j → (j < k + n) × (closes numbers d (clause_of q j) ≡ true)
  lowest_some zero k j = λ h. let z : ◌≡◌ {A = ℕ} 0 1 = cc in absurd (omega arith)
  lowest_some (suc n) k j =
      cond_both (closes numbers d (clause_of q k)) _ _ (λ o. o ≡ Some j → (j < k + suc n) × (closes numbers d (clause_of q j) ≡ true))
      (λ e h. let s : k ≡ j = cc in (omega arith, subst (λ v. closes numbers d (clause_of q v) ≡ true) s e))
      (λ _ h. let r = lowest_some n (k + 1) j h in (omega (arith, r.0), r.1))

  pub lowest_none : (n k : ℕ) → lowest q numbers d n k ≡ None → (j : ℕ) → k ≤ j → j < k + n → closes numbers d (clause_of q j) ≡ false
  lowest_none zero k = λ h j l m. absurd (omega arith)
  lowest_none (suc n) k =
      cond_both (closes numbers d (clause_of q k)) _ _ (λ o. o ≡ None → (j : ℕ) → k ≤ j → j < k + suc n → closes numbers d (clause_of q j) ≡ false)
      (λ _ h. let z : ◌≡◌ {A = ℕ} 0 1 = cc in absurd (omega arith))
      (λ e h j l m. ⊎_elim
      (λ s. subst (λ v. closes numbers d (clause_of q v) ≡ false) s e)
      (λ g. ⊎_elim (λ (i : k < j). lowest_none n (k + 1) h j (omega arith) (omega arith)) (λ (i : j < k). absurd (omega arith)) g)
      (cases_order k j))

-- ---- no clause of the question is false under the values a
abbrev pub Clear : List ℕ → List ℕ → Type 0
Clear q a = (k : ℕ) → k < clause_count q → False a (clause_of q k) → ⊥

-- with no variable set, only the empty clause is false
pub false_empty : (c : List ℕ) → False [] c → c ≡ []
false_empty [] f = refl
false_empty (x ∷ xs) f = let z : 2 ≡ x % 2 = f x (inl refl) in absurd (omega arith)

and_false : (b : Bool) → (b && false) ≡ false
and_false true = refl
and_false false = refl

differ : true ≡ false → ⊥
differ h = let z : ◌≡◌ {A = ℕ} 0 1 = cc in omega arith

module _ (q : List ℕ) (is : IsQuestion q) where
  pub clear_none : Clear q []
  clear_none k l f = let z = ap length (false_empty (clause_of q k) f) in let s = clause_some q is k l in omega arith

  -- where the variables before the last of those set make no clause false, only a clause with that variable can be
  abbrev pub Before : List ℕ → Type 0
  Before a = (k : ℕ) → k < clause_count q → (last (clause_of q k) / 2 + 1 ≡ length a → ⊥) → False a (clause_of q k) → ⊥

  -- a clause can become false only as its last literal's variable is set
  pub before_next : (a : List ℕ) (b : ℕ) → Clear q a → Before (a ++ b ∷ [])
  before_next a b clear k l ne f =
      let v : List ℕ = a ++ b ∷ [] in
      let c : List ℕ = clause_of q k in
      let size : length v ≡ length a + 1 = length_push a b in
      let top : last c / 2 < length v = false_set v (last c) (f (last c) (last_in c (clause_some q is k l))) in
      clear k l
      (false_before a b c
      (λ x i (e : x / 2 ≡ length a).
      let h : x / 2 ≤ last c / 2 = last_highest c (is.clauses k l) x i in let same : last c / 2 + 1 ≡ length v = omega arith in ne same)
      f)

  below : (a : List ℕ) (m : ℕ) → length a + m ≡ variable_count q → (k : ℕ) → k < clause_count q → (x : ℕ) → Mem x (clause_of q k) → x / 2 < length a + m
  below a m all k l x i = let h : x / 2 < variable_count q = is.variables k x l i in omega arith

  pub clear_from : (a : List ℕ) (m : ℕ) → length a + m ≡ variable_count q → Before a → lowest_at q a m ≡ None → Clear q a
  clear_from a m all before none k l f =
      let c : List ℕ = clause_of q k in
      ⊎_elim
      (λ (e : last c / 2 + 1 ≡ length a).
      differ (sym (false_closes a m c (below a m all k l) (length a) (clause_some q is k l) e f)
      ∙ lowest_none q (a ++ replicate m 2) (length a) (clause_count q) 0 none k (omega arith) (omega arith)))
      (λ ne. before k l ne f)
      (cases_eq (last c / 2 + 1) (length a))

  pub clear_next : (a : List ℕ) (b m : ℕ) → length a + 1 + m ≡ variable_count q → Clear q a → lowest_at q (a ++ b ∷ []) m ≡ None → Clear q (a ++ b ∷ [])
  clear_next a b m all clear = clear_from (a ++ b ∷ []) m (omega (arith, length_push a b)) (before_next a b clear)

  -- so it does not matter that the others are not looked at
  pub closes_all : (a : List ℕ) (m : ℕ) → length a + m ≡ variable_count q → Before a → (k : ℕ) → k < clause_count q →
      closes (a ++ replicate m 2) (length a) (clause_of q k) ≡ is_false (a ++ replicate m 2) (clause_of q k)
  closes_all a m all before k l =
      let c : List ℕ = clause_of q k in
      let numbers : List ℕ = a ++ replicate m 2 in
      ⊎_elim
      (λ (t : is_false numbers c ≡ true).
      let f : False a c = λ x i. sym (pad_at a m (x / 2) (below a m all k l x i)) ∙ all_mem (FalseAt numbers) c ((each_false numbers c).0 t) x i in
      ⊎_elim
      (λ (e : last c / 2 + 1 ≡ length a). false_closes a m c (below a m all k l) (length a) (clause_some q is k l) e f ∙ sym t)
      (λ ne. absurd (before k l ne f))
      (cases_eq (last c / 2 + 1) (length a)))
      (λ (t : is_false numbers c ≡ false). ap (λ b. is_due (length a) c && b) t ∙ and_false (is_due (length a) c) ∙ sym t)
      (cases_Bool (is_false numbers c))
