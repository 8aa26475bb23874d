-- A text that is read to a list is the text of that list. Assumes nothing.
use Rattle.std.proofs.Common.{◌≡◌, ℕ, zero, suc, ◌+◌, ◌*◌, ◌<◌, ◌≤◌, true, ◌&&◌, eqb, ltb, leb, List, [], ◌∷◌, ◌++◌, length, take, drop, replicate, Some, Ok, sym, refl, ap, ◌∙◌, subst, ⊎_elim, add-one, arith}
use Rattle.sheet.specs.declared.fault.Cause.TheVariants.{TextTooLong, LineNotEnded, WrongLetter, NotNumbers, OutOfRange, OutOfOrder, TextGoesOn}
use Rattle.std.proofs.lemmas.List.{append_assoc, append-nil, length-append, take-append-drop, drop-drop, drop_at, nil_from_length}
use Rattle.std.proofs.lemmas.Bool.{cond-true, cond-false, eq-eqb, ne_eqb, eqb-true, ltb-true, leb-true, and_from, and_parts, cases_eq}
use Rattle.sheet.specs.declared.line.Due.{Due}
use Rattle.sheet.specs.declared.line.Due.TheVariants.{OfLatch, OfGate}
use Rattle.sheet.specs.Sheets.{most_literal, size_of}
use Rattle.sheet.specs.Faults.{and_then, demand, given}
use Rattle.sheet.specs.Parts.{up_to, spelled, spaced, former, further, latter}
use Rattle.sheet.specs.Parse.{refusal, line_if, line_of, triples_if, parts_if, part_if, number_of, letter, in_range, ordered, read_contents, read_pair, read_pairs, read_bad, parse_rest, parse_lines, parse}
use Rattle.sheet.specs.Render.{digits, line_text, pairs_text, pairs_fit, all_zero, text_of, well_formed}
use Rattle.sheet.proofs.Legality.{pair_fits, Fits, fits_all}
use Rattle.sheet.proofs.Spelling.{spelled_inv}
use Rattle.sheet.proofs.Stages.{contents_if, contents_of, contents_from, pair_if, pair_of, pair_from, bad_if, bad_by, bad_from, last_of, gates_of, latches_of, none_not, some_cond, and_then_inv, given_inv, demand_inv, ok_same}
use Rattle.sheet.proofs.There.{triple_text, pair_text}

-- what a line came from
up_to_found : (c : ℕ) (t : List ℕ) → up_to c t < length t → t ≡ take (up_to c t) t ++ (c ∷ drop (suc (up_to c t)) t)
up_to_found c [] h = absurd (omega arith)
up_to_found c (x ∷ t) h =
    ⊎_elim
    (λ e. subst (λ k. x ∷ t ≡ take k (x ∷ t) ++ (c ∷ drop (suc k) (x ∷ t))) (sym (cond-true _ _ _ (eq-eqb x c e))) (ap (λ y. y ∷ t) e))
    (λ ne.
    let on : up_to c (x ∷ t) ≡ suc (up_to c t) = cond-false _ _ _ (ne_eqb x c ne) in
    subst (λ k. x ∷ t ≡ take k (x ∷ t) ++ (c ∷ drop (suc k) (x ∷ t))) (sym on) (ap (λ s. x ∷ s) (up_to_found c t (omega arith))))
    (cases_eq x c)

line_of_inv : (p : ℕ) (t : List ℕ) (l : List ℕ × List ℕ) → line_of p t ≡ Ok l → t ≡ l.0 ++ (10 ∷ l.1)
line_of_inv p t l h =
    let k = up_to 10 t in
    let q = some_cond (ltb k (length t)) l (take k t, drop (k + 1) t) (sym (given_inv (line_if t) (refusal LineNotEnded p) l h)) in
    up_to_found 10 t (ltb-true _ _ q.0)
    ∙ ap (λ j. take k t ++ (10 ∷ drop j t)) (sym (add-one k))
    ∙ ap (λ (l : List ℕ × List ℕ). l.0 ++ (10 ∷ l.1)) (sym q.1)

-- what the parts of a line came from
pub spaced_inv : (s : List ℕ) → 0 < length (spaced s) → s ≡ 32 ∷ spaced s
spaced_inv [] h = absurd (omega arith)
spaced_inv (x ∷ s) h =
    ⊎_elim
    (λ e. (λ i. e i ∷ sym (cond-true (eqb x 32) s [] (eq-eqb x 32 e)) i))
    (λ ne. let none : length (spaced (x ∷ s)) ≡ 0 = ap length (cond-false (eqb x 32) s [] (ne_eqb x 32 ne)) in absurd (omega arith))
    (cases_eq x 32)

-- one part, and then what begins with the next space
pub further_inv : (s : List ℕ) → 0 < length (former s) → s ≡ 32 ∷ (former s ++ further s)
further_inv s a =
    let t = spaced s in
    let k = up_to 32 t in
    let split = take-append-drop k t in
    let some : 0 < length t = omega (arith, ap length split, length-append (take k t) (drop k t)) in
    spaced_inv s some ∙ ap (λ r. 32 ∷ r) (sym split)

parts_inv : (s : List ℕ) → 0 < length (former s) → 0 < length (latter s) → s ≡ 32 ∷ (former s ++ (32 ∷ latter s))
parts_inv s a b = further_inv s a ∙ ap (λ r. 32 ∷ (former s ++ r)) (spaced_inv (further s) b)

triples_if_inv : (x : ℕ) (l : List ℕ) (s : List ℕ × List ℕ × List ℕ) → triples_if x l ≡ Some s → 0 < length s.0 → 0 < length s.1 → 0 < length s.2 → l ≡ x ∷ 32 ∷ (s.0 ++ (32 ∷ (s.1 ++ (32 ∷ s.2))))
triples_if_inv x [] s h a b c = absurd (none_not s h)
triples_if_inv x (y ∷ l) s h a b c =
    let p = some_cond (eqb y x) s (former l, former (further l), latter (further l)) (sym h) in
    let P : List ℕ × List ℕ × List ℕ → Type 0 = λ s. 0 < length s.0 → 0 < length s.1 → 0 < length s.2 → y ∷ l ≡ x ∷ 32 ∷ (s.0 ++ (32 ∷ (s.1 ++ (32 ∷ s.2)))) in
    subst P (sym p.1) (λ a b c. (λ i. eqb-true y x p.0 i ∷ (further_inv l a ∙ ap (λ r. 32 ∷ (former l ++ r)) (parts_inv (further l) b c)) i)) a b c

parts_if_inv : (x : ℕ) (l : List ℕ) (s : List ℕ × List ℕ) → parts_if x l ≡ Some s → 0 < length s.0 → 0 < length s.1 → l ≡ x ∷ 32 ∷ (s.0 ++ (32 ∷ s.1))
parts_if_inv x [] s h a b = absurd (none_not s h)
parts_if_inv x (y ∷ l) s h a b =
    let p = some_cond (eqb y x) s (former l, latter l) (sym h) in
    let P : List ℕ × List ℕ → Type 0 = λ s. 0 < length s.0 → 0 < length s.1 → y ∷ l ≡ x ∷ 32 ∷ (s.0 ++ (32 ∷ s.1)) in
    subst P (sym p.1) (λ a b. (λ i. eqb-true y x p.0 i ∷ parts_inv l a b i)) a b

part_if_inv : (x : ℕ) (l s : List ℕ) → part_if x l ≡ Some s → 0 < length s → l ≡ x ∷ 32 ∷ s
part_if_inv x [] s h a = absurd (none_not s h)
part_if_inv x (y ∷ l) s h a =
    let p = some_cond (eqb y x) s (spaced l) (sym h) in
    let P : List ℕ → Type 0 = λ s. 0 < length s → y ∷ l ≡ x ∷ 32 ∷ s in
    subst P (sym p.1) (λ a. (λ i. eqb-true y x p.0 i ∷ spaced_inv l a i)) a

-- a line by its parts is the line of their numbers
triple_from : (x : ℕ) (a b c r : List ℕ) {d e f t : List ℕ} → t ≡ (x ∷ 32 ∷ (a ++ (32 ∷ (b ++ (32 ∷ c))))) ++ (10 ∷ r) → d ≡ a → e ≡ b → f ≡ c → t ≡ (x ∷ 32 ∷ (d ++ (32 ∷ (e ++ (32 ∷ (f ++ (10 ∷ []))))))) ++ r
triple_from x a b c r h p q s =
    h ∙ sym (triple_text x a b c r) ∙ sym (λ j. (x ∷ 32 ∷ (p j ++ (32 ∷ (q j ++ (32 ∷ (s j ++ (10 ∷ []))))))) ++ r)

pair_from_lem : (x : ℕ) (a b r : List ℕ) {d e t : List ℕ} → t ≡ (x ∷ 32 ∷ (a ++ (32 ∷ b))) ++ (10 ∷ r) → d ≡ a → e ≡ b → t ≡ (x ∷ 32 ∷ (d ++ (32 ∷ (e ++ (10 ∷ []))))) ++ r
pair_from_lem x a b r h p q =
    h ∙ sym (pair_text x a b r) ∙ sym (λ j. (x ∷ 32 ∷ (p j ++ (32 ∷ (q j ++ (10 ∷ []))))) ++ r)

-- what the contents line came from
record ContentsRead (t : List ℕ) (i n m : ℕ) (r : List ℕ) : Type 0 where
  text : t ≡ line_text 99 (i ∷ n ∷ m ∷ []) ++ r
  few_inputs : i ≤ 24
  some_latch : 1 ≤ n
  few_latches : n ≤ 24
  few_gates : m ≤ 200

contents_read : (t va vb vc r : List ℕ) (i n m : ℕ) → t ≡ (99 ∷ 32 ∷ (va ++ (32 ∷ (vb ++ (32 ∷ vc))))) ++ (10 ∷ r) → digits i ≡ va → digits n ≡ vb → digits m ≡ vc → (leb i 24 && (leb 1 n && (leb n 24 && leb m 200))) ≡ true → (y : ℕ × ℕ × ℕ × List ℕ) → (i, n, m, r) ≡ y → ContentsRead t y.0 y.1 y.2 y.3
contents_read t va vb vc r i n m line di dn dm range y is =
    let r₀ = and_parts (leb i 24) (leb 1 n && (leb n 24 && leb m 200)) range in
    let r₁ = and_parts (leb 1 n) (leb n 24 && leb m 200) r₀.1 in
    let r₂ = and_parts (leb n 24) (leb m 200) r₁.1 in
    let P : ℕ × ℕ × ℕ × List ℕ → Type 0 = λ y. ContentsRead t y.0 y.1 y.2 y.3 in
    subst P is (record {
      text = triple_from 99 va vb vc r line di dn dm;
      few_inputs = leb-true _ _ r₀.0;
      some_latch = leb-true _ _ r₁.0;
      few_latches = leb-true _ _ r₂.0;
      few_gates = leb-true _ _ r₂.1;
    })

read_contents_inv : (t : List ℕ) (y : ℕ × ℕ × ℕ × List ℕ) → read_contents t ≡ Ok y → ContentsRead t y.0 y.1 y.2 y.3
read_contents_inv t y h =
    let s₁ = and_then_inv (line_of 1 t) contents_from y h in
    let l = s₁.0 in
    let s₂ = and_then_inv (given (triples_if 99 l.0) (refusal WrongLetter 1)) (contents_of l.1) y s₁.1.1 in
    let s = s₂.0 in
    let s₃ = and_then_inv (number_of 1 s.0) (λ i. and_then (number_of 1 s.1) (λ n. and_then (number_of 1 s.2) (λ m. contents_if l.1 i n m))) y s₂.1.1 in
    let i = s₃.0 in
    let s₄ = and_then_inv (number_of 1 s.1) (λ n. and_then (number_of 1 s.2) (λ m. contents_if l.1 i n m)) y s₃.1.1 in
    let n = s₄.0 in
    let s₅ = and_then_inv (number_of 1 s.2) (λ m. contents_if l.1 i n m) y s₄.1.1 in
    let m = s₅.0 in
    let s₆ = demand_inv (leb i 24 && (leb 1 n && (leb n 24 && leb m 200))) (refusal OutOfRange 1) (Ok (i, n, m, l.1)) y s₅.1.1 in
    let di = spelled_inv s.0 i (given_inv (spelled s.0) (refusal NotNumbers 1) i s₃.1.0) in
    let dn = spelled_inv s.1 n (given_inv (spelled s.1) (refusal NotNumbers 1) n s₄.1.0) in
    let dm = spelled_inv s.2 m (given_inv (spelled s.2) (refusal NotNumbers 1) m s₅.1.0) in
    let parts = triples_if_inv 99 l.0 s (given_inv (triples_if 99 l.0) (refusal WrongLetter 1) s s₂.1.0) di.some dn.some dm.some in
    let line = line_of_inv 1 t l s₁.1.0 ∙ ap (λ k. k ++ (10 ∷ l.1)) parts in
    contents_read t s.0 s.1 s.2 l.1 i n m line di.is dn.is dm.is s₆.0 y (ok_same (i, n, m, l.1) y s₆.1)

-- what a line of two numbers came from
record PairRead (d : Due) (most own : ℕ) (t : List ℕ) (a b : ℕ) (r : List ℕ) : Type 0 where
  text : t ≡ line_text (letter d) (a ∷ b ∷ []) ++ r
  fit : pair_fits d most own a b ≡ true

pair_read : (d : Due) (most own : ℕ) (t va vb r : List ℕ) (a b : ℕ) → t ≡ (letter d ∷ 32 ∷ (va ++ (32 ∷ vb))) ++ (10 ∷ r) → digits a ≡ va → digits b ≡ vb → in_range d most a b ≡ true → ordered d own a b ≡ true → (y : ℕ × ℕ × List ℕ) → (a, b, r) ≡ y → PairRead d most own t y.0 y.1 y.2
pair_read d most own t va vb r a b line da db range order y is =
    let P : ℕ × ℕ × List ℕ → Type 0 = λ y. PairRead d most own t y.0 y.1 y.2 in
    subst P is (record { text = pair_from_lem (letter d) va vb r line da db; fit = and_from _ _ range order })

read_pair_inv : (d : Due) (most own p : ℕ) (t : List ℕ) (y : ℕ × ℕ × List ℕ) → read_pair d most own p t ≡ Ok y → PairRead d most own t y.0 y.1 y.2
read_pair_inv d most own p t y h =
    let x = letter d in
    let s₁ = and_then_inv (line_of p t) (pair_from d most own p) y h in
    let l = s₁.0 in
    let s₂ = and_then_inv (given (parts_if x l.0) (refusal WrongLetter p)) (pair_of d most own p l.1) y s₁.1.1 in
    let s = s₂.0 in
    let s₃ = and_then_inv (number_of p s.0) (λ a. and_then (number_of p s.1) (λ b. pair_if d most own p l.1 a b)) y s₂.1.1 in
    let a = s₃.0 in
    let s₄ = and_then_inv (number_of p s.1) (λ b. pair_if d most own p l.1 a b) y s₃.1.1 in
    let b = s₄.0 in
    let s₅ = demand_inv (in_range d most a b) (refusal OutOfRange p) (demand (ordered d own a b) (refusal OutOfOrder p) (Ok (a, b, l.1))) y s₄.1.1 in
    let s₆ = demand_inv (ordered d own a b) (refusal OutOfOrder p) (Ok (a, b, l.1)) y s₅.1 in
    let da = spelled_inv s.0 a (given_inv (spelled s.0) (refusal NotNumbers p) a s₃.1.0) in
    let db = spelled_inv s.1 b (given_inv (spelled s.1) (refusal NotNumbers p) b s₄.1.0) in
    let parts = parts_if_inv x l.0 s (given_inv (parts_if x l.0) (refusal WrongLetter p) s s₂.1.0) da.some db.some in
    let line = line_of_inv p t l s₁.1.0 ∙ ap (λ k. k ++ (10 ∷ l.1)) parts in
    pair_read d most own t s.0 s.1 l.1 a b line da.is db.is s₅.0 s₆.0 y (ok_same (a, b, l.1) y s₆.1)

-- what lines of pairs came from
record PairsRead (n : ℕ) (d : Due) (most own : ℕ) (before all t r : List ℕ) : Type 0 where
  list : List ℕ
  behind : all ≡ before ++ list
  long : length list ≡ 2 * n
  text : t ≡ pairs_text n (letter d) list ++ r
  fit : pairs_fit n d most own list ≡ true

read_pairs_inv : (n : ℕ) (d : Due) (most own : ℕ) (before : List ℕ) (p : ℕ) (t : List ℕ) (y : List ℕ × List ℕ) → read_pairs n d most own before p t ≡ Ok y → PairsRead n d most own before y.0 t y.1
read_pairs_inv zero d most own before p t y h =
    let q : (before, t) ≡ y = ok_same _ _ h in
    record {
      list = [];
      behind = sym (ap (λ (y : List ℕ × List ℕ). y.0) q) ∙ sym (append-nil before);
      long = refl;
      text = ap (λ (y : List ℕ × List ℕ). y.1) q;
      fit = refl;
    }
read_pairs_inv (suc n) d most own before p t y h =
    let x = letter d in
    let s = and_then_inv (read_pair d most own p t) (λ q. read_pairs n d most (own + 1) (before ++ (q.0 ∷ q.1 ∷ [])) (p + 1) q.2) y h in
    let a = s.0.0 in
    let b = s.0.1 in
    let first = read_pair_inv d most own p t s.0 s.1.0 in
    let rest = read_pairs_inv n d most (own + 1) (before ++ (a ∷ b ∷ [])) (p + 1) s.0.2 y s.1.1 in
    let short = rest.long in
    record {
      list = a ∷ b ∷ rest.list;
      behind = rest.behind ∙ append_assoc before (a ∷ b ∷ []) rest.list;
      long = omega arith;
      text = first.text ∙ ap (λ k. line_text x (a ∷ b ∷ []) ++ k) rest.text ∙ sym (append_assoc (line_text x (a ∷ b ∷ [])) (pairs_text n x rest.list) y.1);
      fit = and_from _ _ first.fit rest.fit;
    }

-- what the last line came from
record BadRead (most : ℕ) (t : List ℕ) (a : ℕ) (r : List ℕ) : Type 0 where
  text : t ≡ line_text 98 (a ∷ []) ++ r
  high : a ≤ most

bad_read : (most : ℕ) (t v r : List ℕ) (a : ℕ) → t ≡ (98 ∷ 32 ∷ v) ++ (10 ∷ r) → digits a ≡ v → leb a most ≡ true → (y : ℕ × List ℕ) → (a, r) ≡ y → BadRead most t y.0 y.1
bad_read most t v r a line is fit y same =
    let P : ℕ × List ℕ → Type 0 = λ y. BadRead most t y.0 y.1 in
    subst P same (record {
      text = line ∙ ap (λ d. 98 ∷ 32 ∷ (d ++ (10 ∷ r))) (sym is) ∙ ap (λ d. 98 ∷ 32 ∷ d) (sym (append_assoc (digits a) (10 ∷ []) r));
      high = leb-true _ _ fit;
    })

read_bad_inv : (most p : ℕ) (t : List ℕ) (y : ℕ × List ℕ) → read_bad most p t ≡ Ok y → BadRead most t y.0 y.1
read_bad_inv most p t y h =
    let s₁ = and_then_inv (line_of p t) (bad_from most p) y h in
    let l = s₁.0 in
    let s₂ = and_then_inv (given (part_if 98 l.0) (refusal WrongLetter p)) (bad_by most p l.1) y s₁.1.1 in
    let s = s₂.0 in
    let s₃ = and_then_inv (number_of p s) (bad_if most p l.1) y s₂.1.1 in
    let a = s₃.0 in
    let s₄ = demand_inv (leb a most) (refusal OutOfRange p) (Ok (a, l.1)) y s₃.1.1 in
    let da = spelled_inv s a (given_inv (spelled s) (refusal NotNumbers p) a s₃.1.0) in
    let part = part_if_inv 98 l.0 s (given_inv (part_if 98 l.0) (refusal WrongLetter p) s s₂.1.0) da.some in
    let line = line_of_inv p t l s₁.1.0 ∙ ap (λ k. k ++ (10 ∷ l.1)) part in
    bad_read most t s l.1 a line da.is s₄.0 y (ok_same (a, l.1) y s₄.1)

-- lines and tests look only at their own pairs
text_front : (n x : ℕ) (s z : List ℕ) → length s ≡ 2 * n → pairs_text n x (s ++ z) ≡ pairs_text n x s
text_front zero x s z h = refl
text_front (suc n) x [] z h = absurd (omega arith)
text_front (suc n) x (a ∷ []) z h = absurd (omega arith)
text_front (suc n) x (a ∷ b ∷ s) z h = ap (λ k. line_text x (a ∷ b ∷ []) ++ k) (text_front n x s z (omega arith))

fit_front : (n : ℕ) (d : Due) (most own : ℕ) (s z : List ℕ) → length s ≡ 2 * n → pairs_fit n d most own (s ++ z) ≡ pairs_fit n d most own s
fit_front zero d most own s z h = refl
fit_front (suc n) d most own [] z h = absurd (omega arith)
fit_front (suc n) d most own (a ∷ []) z h = absurd (omega arith)
fit_front (suc n) d most own (a ∷ b ∷ s) z h = ap (λ k. pair_fits d most own a b && k) (fit_front n d most (own + 1) s z (omega arith))

zeros_zero : (z : ℕ) → all_zero (replicate z 0) ≡ true
zeros_zero zero = refl
zeros_zero (suc z) = zeros_zero z

-- what a whole text came from
record Whole (i n m bad : ℕ) (ls gs t : List ℕ) : Type 0 where
  few_inputs : i ≤ 24
  some_latch : 1 ≤ n
  few_latches : n ≤ 24
  few_gates : m ≤ 200
  bad_literal : bad ≤ most_literal (i + n + m)
  ls_long : length ls ≡ 2 * n
  gs_long : length gs ≡ 2 * m
  ls_fit : pairs_fit n OfLatch (most_literal (i + n + m)) (1 + i) ls ≡ true
  gs_fit : pairs_fit m OfGate (most_literal (i + n + m)) (1 + i + n) gs ≡ true
  text : t ≡ line_text 99 (i ∷ n ∷ m ∷ []) ++ (pairs_text n 108 ls ++ (pairs_text m 103 gs ++ line_text 98 (bad ∷ [])))

-- with any zeros behind, a list that was read passes the test, and the text is its text
pub record Read (t xs : List ℕ) (z : ℕ) : Type 0 where
  pub formed : well_formed (xs ++ replicate z 0) ≡ true
  pub text : text_of (xs ++ replicate z 0) ≡ t
  pub long : length xs ≡ size_of xs
  pub size : size_of (xs ++ replicate z 0) ≡ size_of xs

whole_read : (i n m bad : ℕ) (ls gs t : List ℕ) (z : ℕ) → Whole i n m bad ls gs t → Read t (i ∷ n ∷ m ∷ bad ∷ (ls ++ gs)) z
whole_read i n m bad ls gs t z w =
    let zs : List ℕ = replicate z 0 in
    let l : List ℕ = i ∷ n ∷ m ∷ bad ∷ ((ls ++ gs) ++ zs) in
    let most = most_literal (i + n + m) in
    let la = w.ls_long in
    let lb = w.gs_long in
    let lc = length-append ls gs in
    let ld = length-append (ls ++ gs) zs in
    let e₁ : drop 4 l ≡ ls ++ (gs ++ zs) = append_assoc ls gs zs in
    let e₂ : drop (4 + 2 * n) l ≡ gs ++ zs = sym (drop-drop (2 * n) 4 l) ∙ ap (drop (2 * n)) e₁ ∙ drop_at ls (gs ++ zs) (2 * n) la in
    let e₃ : drop (4 + 2 * (n + m)) l ≡ zs = sym (drop-drop (2 * (n + m)) 4 l) ∙ drop_at (ls ++ gs) zs (2 * (n + m)) (omega arith) in
    let lt : pairs_text n 108 (drop 4 l) ≡ pairs_text n 108 ls = ap (pairs_text n 108) e₁ ∙ text_front n 108 ls (gs ++ zs) la in
    let gt : pairs_text m 103 (drop (4 + 2 * n) l) ≡ pairs_text m 103 gs = ap (pairs_text m 103) e₂ ∙ text_front m 103 gs zs lb in
    let whole : Fits i n m l = record {
      few_inputs = w.few_inputs;
      some_latch = w.some_latch;
      few_latches = w.few_latches;
      few_gates = w.few_gates;
      whole = omega arith;
      bad_literal = w.bad_literal;
      latches = ap (pairs_fit n OfLatch most (1 + i)) e₁ ∙ fit_front n OfLatch most (1 + i) ls (gs ++ zs) la ∙ w.ls_fit;
      gates = ap (pairs_fit m OfGate most (1 + i + n)) e₂ ∙ fit_front m OfGate most (1 + i + n) gs zs lb ∙ w.gs_fit;
      zeros = ap all_zero e₃ ∙ zeros_zero z;
    } in
    record {
      formed = fits_all i n m l whole;
      text = (λ j. line_text 99 (i ∷ n ∷ m ∷ []) ++ (lt j ++ (gt j ++ line_text 98 (bad ∷ [])))) ∙ sym w.text;
      long = omega arith;
      size = refl;
    }

parts_read : (i n m bad : ℕ) (t r₁ a₂ r₂ a₃ r₃ r₄ : List ℕ) (z : ℕ) → ContentsRead t i n m r₁ → PairsRead n OfLatch (most_literal (i + n + m)) (1 + i) [] a₂ r₁ r₂ → PairsRead m OfGate (most_literal (i + n + m)) (1 + i + n) a₂ a₃ r₂ r₃ → BadRead (most_literal (i + n + m)) r₃ bad r₄ → eqb (length r₄) 0 ≡ true → (xs : List ℕ) → i ∷ n ∷ m ∷ bad ∷ a₃ ≡ xs → Read t xs z
parts_read i n m bad t r₁ a₂ r₂ a₃ r₃ r₄ z head ls gs bd none xs same =
    let end : r₄ ≡ [] = nil_from_length r₄ (eqb-true _ 0 none) in
    let last : r₃ ≡ line_text 98 (bad ∷ []) = bd.text ∙ ap (λ r. line_text 98 (bad ∷ []) ++ r) end ∙ append-nil (line_text 98 (bad ∷ [])) in
    let pairs : a₃ ≡ ls.list ++ gs.list = gs.behind ∙ ap (λ r. r ++ gs.list) ls.behind in
    let whole : Whole i n m bad ls.list gs.list t = record {
      few_inputs = head.few_inputs;
      some_latch = head.some_latch;
      few_latches = head.few_latches;
      few_gates = head.few_gates;
      bad_literal = bd.high;
      ls_long = ls.long;
      gs_long = gs.long;
      ls_fit = ls.fit;
      gs_fit = gs.fit;
      text = head.text ∙ ap (λ r. line_text 99 (i ∷ n ∷ m ∷ []) ++ r) (ls.text ∙ ap (λ r. pairs_text n 108 ls.list ++ r) (gs.text ∙ ap (λ r. pairs_text m 103 gs.list ++ r) last));
    } in
    let is : i ∷ n ∷ m ∷ bad ∷ (ls.list ++ gs.list) ≡ xs = ap (λ r. i ∷ n ∷ m ∷ bad ∷ r) (sym pairs) ∙ same in
    subst (λ xs. Read t xs z) is (whole_read i n m bad ls.list gs.list t z whole)

pub lines_read : (t xs : List ℕ) (z : ℕ) → parse_lines t ≡ Ok xs → Read t xs z
lines_read t xs z h =
    let s₁ = and_then_inv (read_contents t) (λ c. parse_rest c.0 c.1 c.2 c.3) xs h in
    let i = s₁.0.0 in
    let n = s₁.0.1 in
    let m = s₁.0.2 in
    let most = most_literal (i + n + m) in
    let s₂ = and_then_inv (read_pairs n OfLatch most (1 + i) [] 2 s₁.0.3) (latches_of i n m) xs s₁.1.1 in
    let s₃ = and_then_inv (read_pairs m OfGate most (1 + i + n) s₂.0.0 (2 + n) s₂.0.1) (gates_of i n m) xs s₂.1.1 in
    let s₄ = and_then_inv (read_bad most (2 + n + m) s₃.0.1) (last_of i n m s₃.0.0) xs s₃.1.1 in
    let bad = s₄.0.0 in
    let s₅ = demand_inv (eqb (length s₄.0.1) 0) (refusal TextGoesOn (3 + n + m)) (Ok (i ∷ n ∷ m ∷ bad ∷ s₃.0.0)) xs s₄.1.1 in
    let head = read_contents_inv t s₁.0 s₁.1.0 in
    let ls = read_pairs_inv n OfLatch most (1 + i) [] 2 s₁.0.3 s₂.0 s₂.1.0 in
    let gs = read_pairs_inv m OfGate most (1 + i + n) s₂.0.0 (2 + n) s₂.0.1 s₃.0 s₃.1.0 in
    let bd = read_bad_inv most (2 + n + m) s₃.0.1 s₄.0 s₄.1.0 in
    parts_read i n m bad t s₁.0.3 s₂.0.0 s₂.0.1 s₃.0.0 s₃.0.1 s₄.0.1 z head ls gs bd s₅.0 xs (ok_same (i ∷ n ∷ m ∷ bad ∷ s₃.0.0) xs s₅.1)

pub again : (t xs : List ℕ) (z : ℕ) → parse t ≡ Ok xs → Read t xs z
again t xs z h = lines_read t xs z (demand_inv (leb (length t) 4096) (refusal TextTooLong 0) (parse_lines t) xs h).1
