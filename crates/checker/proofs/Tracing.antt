-- A run as numbers, turn by turn. Assumes nothing.
use Rattle.std.proofs.Common.{◌≡◌, ℕ, zero, suc, ◌+◌, ◌-◌, ◌*◌, ◌/◌, ◌%◌, ◌^◌, ◌<◌, ◌≤◌, min, Bool, true, false, not, eqb, ltb, List, [], ◌∷◌, ◌++◌, map, length, get_or, take, drop, replicate, Some, None, Option, Result, sym, refl, ap, ◌∙◌, ⊎_elim, suc-mul, arith, length-append, length-drop, length-take}
use borrow.Rule.Slice.PartMut.{put_mid, post_of}
use Rattle.std.specs.List.{range_with_len}
use Rattle.std.proofs.lemmas.List.FromFn.{fill_by_all, length-map-range_with_len}
use Rattle.std.proofs.lemmas.Nat.{mul-le}
use Rattle.std.proofs.lemmas.Slice.{take-put_mid}
use Rattle.std.proofs.lemmas.List.{append_assoc, append-nil, take_all, drop_all, get_or_past}
use Rattle.std.specs.Option.{MatchOption, unwrap_or}
use Rattle.std.proofs.lemmas.Bool.{cases_lt, cond-true, cond-false, cond_both, cases_eq, eq-eqb, ne_eqb, ltb-false}
use Rattle.lists.specs.Counted.{counted, uncounted, on_counted}
use Rattle.lists.proofs.Taken.{take_min, drop_min}
use Rattle.lists.specs.Stretch.{stretch}
use Rattle.signal.specs.Circuit.{literal_of}
use Rattle.signal.specs.Kinds.{bit_ops}
use Rattle.signal.specs.Truth.{lit, bits_of}
use Rattle.sheet.specs.Sheets.{Sheet}
use Rattle.sheet.specs.declared.fault.Fault.{Fault}
use Rattle.formula.specs.Formulas.{width}
use Rattle.formula.specs.Framing.{in_frame, question_literal}
use Rattle.formula.specs.declared.question_literal.QuestionLiteral.{QuestionLiteral}
use Rattle.checker.specs.declared.End.{End}
use Rattle.checker.specs.declared.End.TheVariants.{Run}
use Rattle.checker.specs.declared.Ended.{Ended}
use Rattle.checker.specs.declared.report.Report.{Report}
use Rattle.checker.specs.Lists.{used_part}
use Rattle.checker.specs.Reports.{first_bad, numbers_from, frame_numbers, run_off, reported_run, read_by, read_off}

-- ---- `bad` in a frame
number_of : (x : ℕ) (y : QuestionLiteral) → Some y ≡ question_literal x → y.0 ≡ x
number_of x y =
    cond_both (ltb x (2 ^ 32)) (Some (record { 0 = x })) None (λ o. Some y ≡ o → y.0 ≡ x)
    (λ h e. cc)
    (λ h e. let z : ◌≡◌ {A = ℕ} 0 1 = cc in absurd (omega arith))

large : (x : ℕ) → None ≡ question_literal x → 2 ^ 32 ≤ x
large x =
    cond_both (ltb x (2 ^ 32)) (Some (record { 0 = x })) None (λ o. None ≡ o → 2 ^ 32 ≤ x)
    (λ h e. let z : ◌≡◌ {A = ℕ} 0 1 = cc in absurd (omega arith))
    (λ h e. ltb-false x (2 ^ 32) h)

module _ (xs : List ℕ) where
  pub bad_some : length xs ≤ 2 ^ 28 → (x : ℕ) (y : QuestionLiteral) → Some y ≡ question_literal x → literal_of bit_ops (counted xs) y.0 ≡ lit (bits_of xs) x
  bad_some few x y e =
      ap (λ (ys : List ℕ). literal_of bit_ops ys y.0) (take_all (2 ^ 28) xs few) ∙ ap (λ (n : ℕ). lit (bits_of xs) n) (number_of x y e)

  -- a variable that is not there is 0
  lacks : (x : ℕ) → length xs ≤ 2 ^ 28 → 2 ^ 32 ≤ x → bits_of xs (x / 2) ≡ false
  lacks x few h = ap (λ (n : ℕ). not (eqb n 0)) (get_or_past xs (x / 2) 0 (omega arith))

  pub bad_none : length xs ≤ 2 ^ 28 → (w t b : ℕ) → None ≡ question_literal (in_frame w t b) → eqb (b % 2) 1 ≡ lit (bits_of xs) (in_frame w t b)
  bad_none few w t b e =
      let x : ℕ = in_frame w t b in
      let high : 2 ^ 32 ≤ x = large x e in
      ⊎_elim
      (λ (even : x % 2 ≡ 0). ne_eqb (b % 2) 1 (λ z. omega arith) ∙ sym (cond-true _ _ _ (eq-eqb (x % 2) 0 even) ∙ lacks x few high))
      (λ (odd : x % 2 ≡ 0 → ⊥). eq-eqb (b % 2) 1 (omega arith) ∙ sym (cond-false _ _ _ (ne_eqb (x % 2) 0 odd) ∙ ap not (lacks x few high)))
      (cases_eq (x % 2) 0)

-- ---- the first frame in which it is 1
module _ (s : Sheet) (xs : List ℕ) where
  abbrev pub bad_at : ℕ → Bool
  bad_at t = lit (bits_of xs) (in_frame (width s) t s.bad)

  first_at : (n t i : ℕ) → t ≤ i → i ≤ t + n → ((k : ℕ) → t ≤ k → k < i → bad_at k ≡ false) → (i < t + n → bad_at i ≡ true) → i ≡ first_bad s xs n t
  first_at zero t i low high good bad = omega arith
  first_at (suc n) t i low high good bad =
      ⊎_elim
      (λ (l : t < i).
      first_at n (t + 1) i (omega arith) (omega arith) (λ k a b. good k (omega arith) b) (λ h. bad (omega arith))
      ∙ sym (cond-false _ _ _ (good t (omega arith) l)))
      (λ (l : i ≤ t). let is : i ≡ t = omega arith in is ∙ sym (cond-true _ _ _ (ap bad_at (sym is) ∙ bad (omega arith))))
      (cases_lt t i)

  pub first_found : (last : ℕ) (r : Option ℕ)
      → MatchOption r ((k : ℕ) → 0 ≤ k → k < last → bad_at k ≡ false) (λ i. (0 ≤ i) × (i < last) × (bad_at i ≡ true) × ((k : ℕ) → 0 ≤ k → k < i → bad_at k ≡ false))
      → unwrap_or r last ≡ first_bad s xs last 0
  first_found last None none = first_at last 0 last (omega arith) (omega arith) none (λ h. absurd (omega arith))
  first_found last (Some i) (low, high, bad, good) = first_at last 0 i low (omega arith) good (λ _. bad)

-- ---- numbers that were copied
shifted : (g : ℕ → ℕ) (a n b c : ℕ) → a + b ≡ c → map (λ k. g (a + k)) (range_with_len b n) ≡ map g (range_with_len c n)
shifted g a zero b c e = refl
shifted g a (suc n) b c e = let more : a + (b + 1) ≡ c + 1 = omega arith in (λ i. g (e i) ∷ shifted g a n (b + 1) (c + 1) more i)

pub copied : (xs part : List ℕ) (from n : ℕ) → length part ≡ n → ((k : ℕ) → k < n → get_or part k 0 ≡ get_or xs (from + k) 0) → part ≡ numbers_from xs from n
copied xs part from n long each =
    let start : from + 0 ≡ from = omega arith in
    fill_by_all (λ k. get_or xs (from + k) 0) part n 0 long each ∙ shifted (λ j. get_or xs j 0) from n 0 from start

length_numbers : (xs : List ℕ) (i n : ℕ) → length (numbers_from xs i n) ≡ n
length_numbers xs i n = length-map-range_with_len (λ j. get_or xs j 0) i n

pub length_frame : (s : Sheet) (xs : List ℕ) (t : ℕ) → length (frame_numbers s xs t) ≡ s.latches + s.inputs
length_frame s xs t =
    omega (
      arith,
      length-append (numbers_from xs (t * width s + 1 + s.inputs) s.latches) (numbers_from xs (t * width s + 1) s.inputs),
      length_numbers xs (t * width s + 1 + s.inputs) s.latches,
      length_numbers xs (t * width s + 1) s.inputs,
    )

-- ---- frame by frame
pub stretch_push : (f : ℕ → List ℕ) (n i j : ℕ) → i + n ≡ j → stretch f i (n + 1) ≡ stretch f i n ++ f j
stretch_push f zero i j e = let here : i ≡ j = omega arith in append-nil (f i) ∙ ap f here
stretch_push f (suc n) i j e =
    let more : suc n + 1 ≡ suc (n + 1) = omega arith in
    let next : i + 1 + n ≡ j = omega arith in
    ap (λ (k : ℕ). stretch f i k) more ∙ ap (λ (ys : List ℕ). f i ++ ys) (stretch_push f n (i + 1) j next) ∙ sym (append_assoc (f i) (stretch f (i + 1) n) (f j))

pub row_fits : (t n c : ℕ) → t < n → t * c + c ≤ n * c
row_fits t n c h = omega (arith, suc-mul t c, mul-le (suc t) c n c h (omega arith))

pub run_more : (f : ℕ → List ℕ) (run part : List ℕ) (t size k : ℕ) → take (t * size) run ≡ stretch f 0 t → part ≡ f t → length part ≡ size → t * size ≤ length run
    → take ((t + 1) * size) (put_mid (t * size) k run part) ≡ stretch f 0 (t + 1)
run_more f run part t size k before is sized there =
    let more : t + 1 ≡ suc t = omega arith in
    let here : (t + 1) * size ≡ t * size + length part = ap (λ (n : ℕ). n * size) more ∙ omega (arith, suc-mul t size) in
    let at : 0 + t ≡ t = omega arith in
    take-put_mid (t * size) k run part ((t + 1) * size) here there ∙ (λ i. before i ++ is i) ∙ sym (stretch_push f t 0 t at)

pub run_done : (f : ℕ → List ℕ) (old run zeros : List ℕ) (n t size end len : ℕ) → t ≡ n → take (t * size) run ≡ stretch f 0 t → end ≡ n * size → end ≤ len
    → len ≡ length run → length run ≡ length old → zeros ≡ replicate (length (take (len - end) (drop end run))) 0
    → put_mid end (len - end) run zeros ≡ stretch f 0 n ++ replicate (length old - n * size) 0
run_done f old run zeros n t size end len all before is-end room is-len same filled =
    let front : take end run ≡ stretch f 0 n =
    ap (λ (k : ℕ). take k run) (is-end ∙ ap (λ (k : ℕ). k * size) (sym all)) ∙ before ∙ ap (λ (k : ℕ). stretch f 0 k) all in
    let long : length (take (len - end) (drop end run)) ≡ length old - n * size = omega (arith, length-take (len - end) (drop end run), length-drop end run) in
    let zero : zeros ≡ replicate (length old - n * size) 0 = filled ∙ ap (λ (k : ℕ). replicate k 0) long in
    let none : drop (len - end) (drop end run) ≡ [] = drop_all (len - end) (drop end run) (omega (arith, length-drop end run)) in
    (λ i. front i ++ (zero i ++ none i)) ∙ ap (λ (ys : List ℕ). stretch f 0 n ++ ys) (append-nil (replicate (length old - n * size) 0))

-- ---- the whole call
abbrev Written : Type 0
Written = Result ℕ Fault × List ℕ

pub off_told : (g : List ℕ → Written) (run part : List ℕ) (len : ℕ) (r : Result ℕ Fault) → len ≡ min (length run) (2 ^ 28) → ◌≡◌ {A = Written} (r, part) (g (take len run))
    → ◌≡◌ {A = Written} (r, part ++ post_of 0 len run) (on_counted g run)
off_told g run part len r cut e =
    let front : take len run ≡ counted run = take_min run (2 ^ 28) len (omega arith) in
    let rest : drop len run ≡ uncounted run = drop_min run (2 ^ 28) len (omega arith) in
    let told : ◌≡◌ {A = Written} (r, part) (g (counted run)) = e ∙ ap g front in
    (λ i. ((told i).0, (told i).1 ++ rest i))

pub used_few : (q used : List ℕ) (n : ℕ) → used ≡ used_part n q → length used ≤ 2 ^ 28
used_few q used n is = omega (arith, ap length is, length-take n (counted q), length-take (2 ^ 28) q)

pub read_run : (l lent run used run' : List ℕ) (e : Ended) (last v : ℕ) → e.end ≡ Run last v → used ≡ used_part v lent → (r : Result ℕ Fault)
    → ◌≡◌ {A = Written} (r, run') (on_counted (run_off (counted l) used last) run)
    → ◌≡◌ {A = Result Report Fault × List ℕ} (reported_run e r, run') (read_off l e lent run)
read_run l lent run used run' e last v ended is r told =
    let here : ◌≡◌ {A = Written} (r, run') (on_counted (run_off (counted l) (used_part v lent) last) run) =
    told ∙ ap (λ (u : List ℕ). on_counted (run_off (counted l) u last) run) is in
    ap (λ (p : Written). let q : Result Report Fault × List ℕ = (reported_run e p.0, p.1) in q) here
    ∙ sym (ap (λ (x : End). read_by x l e lent run) ended)
