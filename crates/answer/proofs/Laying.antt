-- How the derived clauses lie in the working list, step by step. Assumes nothing.
use Rattle.std.proofs.Common.{◌≡◌, ℕ, zero, suc, ◌+◌, ◌-◌, ◌<◌, ◌≤◌, ◌≢◌, List, [], ◌∷◌, ◌++◌, length, get_or, take, drop, set, replicate, sym, refl, ap, ◌∙◌, subst, ⊎_elim, add-one, arith, length-set}
use lib.ListN.{length-replicate}
use lib.Seq.{sets, length-sets, sets-eq}
use Rattle.std.specs.List.{between}
use Rattle.std.proofs.lemmas.List.{get_or-set_same, get_or-set_other, get_or-take, get_or_past, get_or-replicate, take-take, take-set-le, drop-set-lt, drop_at, take_at, length-take-le, append_assoc}
use Rattle.std.proofs.lemmas.Slice.{between_is}
use Rattle.std.proofs.lemmas.Bool.{cases_lt}
use Rattle.question.specs.Questions.{span}
use Rattle.answer.specs.Derivations.{total}
use Rattle.answer.specs.Layout.{Lays}
use Rattle.answer.specs.Runs.{start, opened}
use Rattle.answer.specs.Steps.{onward}
use Rattle.answer.specs.declared.steps.Progress.{Progress}

-- ---- a list with other numbers from a place on
get_d_sets_below : (vs l : List ℕ) (i k : ℕ) → k < i → get_or (sets l i vs) k 0 ≡ get_or l k 0
get_d_sets_below [] l i k h = refl
get_d_sets_below (v ∷ vs) l i k h =
    let ne : k ≢ i = λ e. omega arith in
    get_d_sets_below vs (set l i v) (suc i) k (omega arith) ∙ get_or-set_other l i k v 0 ne

get_d_sets_past : (vs l : List ℕ) (i k : ℕ) → i + length vs ≤ k → get_or (sets l i vs) k 0 ≡ get_or l k 0
get_d_sets_past [] l i k h = refl
get_d_sets_past (v ∷ vs) l i k h =
    let ne : k ≢ i = λ e. omega arith in
    get_d_sets_past vs (set l i v) (suc i) k (omega arith) ∙ get_or-set_other l i k v 0 ne

take_sets : (vs l : List ℕ) (i n : ℕ) → n ≤ i → take n (sets l i vs) ≡ take n l
take_sets [] l i n h = refl
take_sets (v ∷ vs) l i n h = take_sets vs (set l i v) (suc i) n (omega arith) ∙ take-set-le n l i v h

-- ---- the part of a list between two places, by a list with the same front
span_by : (v w : List ℕ) (k : ℕ) → get_or v k 0 ≡ get_or w k 0 → get_or v (k + 1) 0 ≡ get_or w (k + 1) 0 →
    between (get_or w k 0) (get_or w (k + 1) 0) v ≡ between (get_or w k 0) (get_or w (k + 1) 0) w → span v k ≡ span w k
span_by v w k a b e = ap (λ n. between n (get_or v (k + 1) 0) v) a ∙ ap (λ n. between (get_or w k 0) n v) b ∙ e

between_front : (w : List ℕ) (a b n : ℕ) → b ≤ n → between a b (take n w) ≡ between a b w
between_front w a b n h = between_is (take n w) a b ∙ ap (drop a) (take-take b n w h) ∙ sym (between_is w a b)

pub span_front : (w : List ℕ) (k end : ℕ) → k + 1 < end → get_or w (k + 1) 0 ≤ end → span (take end w) k ≡ span w k
span_front w k end l h =
    span_by (take end w) w k (get_or-take end w k 0 (omega arith)) (get_or-take end w (k + 1) 0 l)
    (between_front w (get_or w k 0) (get_or w (k + 1) 0) end h)

-- ---- literals of the first clauses
pub total_next : (d : ℕ → List ℕ) (i : ℕ) → total d (i + 1) ≡ total d i + length (d i)
total_next d i = rw add-one

pub total_same : (d e : ℕ → List ℕ) (i : ℕ) → ((j : ℕ) → j < i → d j ≡ e j) → total d i ≡ total e i
total_same d e zero h = refl
total_same d e (suc i) h =
    let a = total_same d e i (λ j l. h j (omega arith)) in
    let b = ap length (h i (omega arith)) in
    omega arith

-- ---- the working list of n places after some of s steps
pub record Laid (s n : ℕ) (w : List ℕ) (at : Progress) : Type 0 where
  pub size : length w ≡ n
  pub sum : at.end ≡ s + 1 + total (span w) at.step
  pub fits : 0 < at.step → at.end ≤ n
  pub low : s + 1 ≤ at.end
  pub here : at.end ≤ length w → get_or w at.step 0 ≡ at.end
  pub from : (k : ℕ) → k < at.step → s + 1 ≤ get_or w k 0
  pub top : (k : ℕ) → k < at.step → get_or w (k + 1) 0 ≤ at.end
  pub begins : 0 < length w → get_or w 0 0 ≡ s + 1
  pub next : (k : ℕ) → k < at.step → get_or w (k + 1) 0 ≡ get_or w k 0 + length (span w k)
  pub rest : (k : ℕ) → at.end ≤ k → get_or w k 0 ≡ 0

pub laid_none : (s n : ℕ) → Laid s n (opened n s) (start s)
laid_none s n =
    let long : length (opened n s) ≡ n = length-set (replicate n 0) 0 (s + 1) ∙ length-replicate n 0 in
    let first : 0 < n → get_or (opened n s) 0 0 ≡ s + 1 = λ h. get_or-set_same (replicate n 0) 0 (s + 1) 0 (omega (arith, length-replicate {A = ℕ} n 0)) in
    record {
      size = long;
      sum = omega arith;
      fits = λ h. absurd (omega arith);
      low = omega arith;
      here = λ h. first (omega arith);
      from = λ k l. absurd (omega arith);
      top = λ k l. absurd (omega arith);
      begins = λ h. first (omega arith);
      next = λ k l. absurd (omega arith);
      rest = λ k l.
          let ne : k ≢ 0 = λ e. omega arith in
          get_or-set_other (replicate n 0) 0 k (s + 1) 0 ne
          ∙ ⊎_elim
          (λ (h : k < n). get_or-replicate n k 0 0 h)
          (λ (h : n ≤ k). get_or_past (replicate n 0) k 0 (omega (arith, length-replicate {A = ℕ} n 0)))
          (cases_lt k n);
    }

module _ (s n : ℕ) (w : List ℕ) (at : Progress) (laid : Laid s n w at) (less : at.step < s) where
  -- the front of the working list has the clauses so far
  pub front_same : (j : ℕ) → j < at.step → span (take at.end w) j ≡ span w j
  front_same j l = let lo : s + 1 ≤ at.end = laid.low in span_front w j at.end (omega arith) (laid.top j l)

  -- the clause r goes behind them
  module _ (r : List ℕ) (room : at.end + length r ≤ length w) where
    abbrev pub more : List ℕ
    more = set (sets w at.end r) (at.step + 1) (at.end + length r)

    low' : at.step + 1 < at.end
    low' = let lo : s + 1 ≤ at.end = laid.low in omega arith

    length_more : length more ≡ length w
    length_more = length-set (sets w at.end r) (at.step + 1) (at.end + length r) ∙ length-sets w at.end r

    place_same : (k : ℕ) → k ≤ at.step → get_or more k 0 ≡ get_or w k 0
    place_same k h =
        let ne : k ≢ at.step + 1 = λ e. omega arith in
        get_or-set_other (sets w at.end r) (at.step + 1) k (at.end + length r) 0 ne
        ∙ get_d_sets_below r w at.end k (omega (arith, low'))

    place_new : get_or more (at.step + 1) 0 ≡ at.end + length r
    place_new =
        get_or-set_same (sets w at.end r) (at.step + 1) (at.end + length r) 0 (omega (arith, length-sets w at.end r, low'))

    place_past : (k : ℕ) → at.end + length r ≤ k → get_or more k 0 ≡ get_or w k 0
    place_past k h =
        let ne : k ≢ at.step + 1 = λ e. omega (arith, low') in
        get_or-set_other (sets w at.end r) (at.step + 1) k (at.end + length r) 0 ne ∙ get_d_sets_past r w at.end k h

    pub span_same : (k : ℕ) → k < at.step → span more k ≡ span w k
    span_same k h =
        let x : List ℕ = sets w at.end r in
        let a : ℕ = get_or w k 0 in
        let b : ℕ = get_or w (k + 1) 0 in
        let l : s + 1 ≤ a = laid.from k h in
        span_by more w k (place_same k (omega arith)) (place_same (k + 1) (omega arith))
        (ap (take (b - a)) (drop-set-lt a x (at.step + 1) (at.end + length r) (omega arith))
        ∙ between_is x a b ∙ ap (drop a) (take_sets r w at.end b (laid.top k h)) ∙ sym (between_is w a b))

    pub span_new : span more at.step ≡ r
    span_new =
        let e : ℕ = at.end in
        let x : List ℕ = sets w e r in
        let n : e + length r - e ≡ length r = omega arith in
        let back : drop e x ≡ r ++ drop (e + length r) w =
        ap (drop e) (sets-eq r w e room ∙ append_assoc (take e w) r (drop (e + length r) w))
        ∙ drop_at (take e w) (r ++ drop (e + length r) w) e (length-take-le e w (omega arith)) in
        ap (λ v. between v (get_or more (at.step + 1) 0) more) (place_same at.step (omega arith) ∙ laid.here (omega arith))
        ∙ ap (λ v. between e v more) place_new
        ∙ ap (λ v. take v (drop e more)) n
        ∙ ap (take (length r)) (drop-set-lt e x (at.step + 1) (e + length r) low' ∙ back)
        ∙ take_at r (drop (e + length r) w) (length r) refl

    -- what holds of each clause so far, and of the new one
    each : (P : ℕ → Type 0) → ((k : ℕ) → k < at.step → P k) → P at.step → (k : ℕ) → k < at.step + 1 → P k
    each P old new k l = ⊎_elim
        (λ (h : k < at.step). old k h)
        (λ (h : at.step ≤ k). let same : at.step ≡ k = omega arith in subst P same new)
        (cases_lt k at.step)

    pub laid_more : Laid s n more (onward at (at.end + length r))
    laid_more = let i : ℕ = at.step in record {
      size = length_more ∙ laid.size;
      sum =
          omega (arith, total_next (span more) i, total_same (span more) (span w) i span_same, ap length span_new, laid.sum);
      fits = λ _. omega (arith, laid.size);
      low = omega (arith, laid.low);
      here = λ _. place_new;
      from = each (λ k. s + 1 ≤ get_or more k 0)
          (λ k h. omega (arith, laid.from k h, place_same k (omega arith)))
          (omega (arith, laid.low, laid.here (omega arith), place_same i (omega arith)));
      top = each (λ k. get_or more (k + 1) 0 ≤ at.end + length r)
          (λ k h. omega (arith, laid.top k h, place_same (k + 1) (omega arith)))
          (omega (arith, place_new));
      begins = λ h. place_same 0 (omega arith) ∙ laid.begins (omega (arith, length_more));
      next = each (λ k. get_or more (k + 1) 0 ≡ get_or more k 0 + length (span more k))
          (λ k h. omega (arith, laid.next k h, place_same (k + 1) (omega arith), place_same k (omega arith), ap length (span_same k h)))
          (omega (arith, place_new, place_same i (omega arith), laid.here (omega arith), ap length span_new));
      rest = λ k h. place_past k h ∙ laid.rest k (omega arith);
    }

-- after all steps
pub lays_out : (s n : ℕ) (w : List ℕ) (at : Progress) → Laid s n w at → at.step ≡ s → 1 ≤ s → Lays s w
lays_out s n w at laid all some =
    let room : at.end ≤ length w = omega (arith, laid.size, laid.fits (omega arith)) in
    let last : get_or w s 0 ≡ at.end = ap (λ k. get_or w k 0) (sym all) ∙ laid.here room in
    record {
      begins = laid.begins (omega (arith, laid.low));
      next = λ i h. laid.next i (omega arith);
      ends = omega arith;
      rest = λ k h. laid.rest k (omega arith);
    }
