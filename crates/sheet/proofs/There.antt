-- The text of a list reads to that list. Assumes nothing.
use Rattle.std.proofs.Common.{◌≡◌, ℕ, zero, suc, ◌+◌, ◌*◌, ◌<◌, ◌≤◌, true, ◌&&◌, ltb, leb, List, [], ◌∷◌, ◌++◌, length, get_or, take, drop, Some, None, Ok, sym, refl, ap, ◌∙◌, subst, arith, take-add}
use Rattle.sheet.specs.declared.fault.Cause.TheVariants.{LineNotEnded, WrongLetter, NotNumbers}
use Rattle.std.proofs.lemmas.List.{append_assoc, append-nil, length-append, length-drop, take_at, drop_at, drop-drop}
use Rattle.std.proofs.lemmas.Bool.{cond-true, cond-false, lt-ltb, le-leb, leb-true, eq-eqb, ne_eqb, and_from, and_parts}
use Rattle.sheet.specs.declared.line.Due.{Due}
use Rattle.sheet.specs.declared.line.Due.TheVariants.{OfLatch, OfGate}
use Rattle.sheet.specs.Sheets.{bad_of, most_literal, size_of}
use Rattle.sheet.specs.Faults.{and_then, given}
use Rattle.sheet.specs.Parts.{up_to, spelled, spaced, former, further, latter}
use Rattle.sheet.specs.Parse.{refusal, line_of, triples_if, parts_if, number_of, letter, top_of, in_range, ordered, read_contents, read_pair, read_pairs, read_bad, parse_rest, parse_lines, parse}
use Rattle.sheet.specs.Render.{digits, numbers_text, line_text, pairs_text, pairs_fit, text_by, text_of, well_formed}
use Rattle.sheet.proofs.Legality.{Fits, fits_parts, pair_fits}
use Rattle.sheet.proofs.Spelling.{Clear, digits_clear, digits_few, spelled_digits}
use Rattle.sheet.proofs.Stages.{contents_if, contents_of, contents_from, pair_if, pair_of, pair_from, bad_if, bad_from, last_of, gates_of, latches_of}

pub clear_append : (c : ℕ) (s t : List ℕ) → Clear c s → Clear c t → Clear c (s ++ t)
clear_append c [] t h k = k
clear_append c (x ∷ s) t h k = (h.0, clear_append c s t h.1 k)

pub up_to_clear : (c : ℕ) (s r : List ℕ) → Clear c s → up_to c (s ++ (c ∷ r)) ≡ length s
up_to_clear c [] r h = cond-true _ _ _ (eq-eqb c c refl)
up_to_clear c (x ∷ s) r h = cond-false _ _ _ (ne_eqb x c h.0) ∙ ap suc (up_to_clear c s r h.1)

-- a line and what follows it
pub line_of_text : (p : ℕ) (body r : List ℕ) → Clear 10 body → line_of p (body ++ (10 ∷ r)) ≡ Ok (body, r)
line_of_text p body r h =
    let t = body ++ (10 ∷ r) in
    let at = up_to_clear 10 body r h in
    let long : length t ≡ length body + suc (length r) = length-append body (10 ∷ r) in
    let front = take_at body (10 ∷ r) (up_to 10 t) (sym at) in
    let back : drop (up_to 10 t + 1) t ≡ r = sym (drop-drop 1 (up_to 10 t) t) ∙ ap (drop 1) (drop_at body (10 ∷ r) (up_to 10 t) (sym at)) in
    ap (λ l. given l (refusal LineNotEnded p)) (cond-true (ltb (up_to 10 t) (length t)) (Some (take (up_to 10 t) t, drop (up_to 10 t + 1) t)) None (lt-ltb _ _ (omega arith)))
    ∙ (λ i. Ok (front i, back i))

-- the parts of a line
pub former_text : (a b : List ℕ) → Clear 32 a → former (32 ∷ (a ++ (32 ∷ b))) ≡ a
former_text a b h = take_at a (32 ∷ b) _ (sym (up_to_clear 32 a b h))

pub further_text : (a b : List ℕ) → Clear 32 a → further (32 ∷ (a ++ (32 ∷ b))) ≡ 32 ∷ b
further_text a b h = drop_at a (32 ∷ b) _ (sym (up_to_clear 32 a b h))

latter_text : (a b : List ℕ) → Clear 32 a → latter (32 ∷ (a ++ (32 ∷ b))) ≡ b
latter_text a b h = ap spaced (further_text a b h)

-- a line of three numbers, or of two, and its end
pub triple_text : (x : ℕ) (a b c r : List ℕ) → (x ∷ 32 ∷ (a ++ (32 ∷ (b ++ (32 ∷ (c ++ (10 ∷ []))))))) ++ r ≡ (x ∷ 32 ∷ (a ++ (32 ∷ (b ++ (32 ∷ c))))) ++ (10 ∷ r)
triple_text x a b c r = ap (λ s. x ∷ 32 ∷ s) (simp append_assoc)

pub pair_text : (x : ℕ) (a b r : List ℕ) → (x ∷ 32 ∷ (a ++ (32 ∷ (b ++ (10 ∷ []))))) ++ r ≡ (x ∷ 32 ∷ (a ++ (32 ∷ b))) ++ (10 ∷ r)
pair_text x a b r = ap (λ s. x ∷ 32 ∷ s) (simp append_assoc)

module _ (va vb vc r : List ℕ) (i n m : ℕ) where
  read_contents_line : Clear 10 va → Clear 10 vb → Clear 10 vc → Clear 32 va → Clear 32 vb → spelled va ≡ Some i → spelled vb ≡ Some n → spelled vc ≡ Some m → (leb i 24 && (leb 1 n && (leb n 24 && leb m 200))) ≡ true → read_contents ((99 ∷ 32 ∷ (va ++ (32 ∷ (vb ++ (32 ∷ (vc ++ (10 ∷ []))))))) ++ r) ≡ Ok (i, n, m, r)
  read_contents_line ca cb cc sa sb ei en em range =
      let rest : List ℕ = vb ++ (32 ∷ vc) in
      let tail : List ℕ = 32 ∷ (va ++ (32 ∷ rest)) in
      let clear : Clear 10 (99 ∷ tail) = (λ e. omega arith, (λ e. omega arith, clear_append 10 va (32 ∷ rest) ca (λ e. omega arith, clear_append 10 vb (32 ∷ vc) cb (λ e. omega arith, cc)))) in
      let line = ap (line_of 1) (triple_text 99 va vb vc r) ∙ line_of_text 1 (99 ∷ tail) r clear in
      let first = former_text va rest sa in
      let then = further_text va rest sa in
      let second : former (further tail) ≡ vb = ap former then ∙ former_text vb vc sb in
      let third : latter (further tail) ≡ vc = ap latter then ∙ latter_text vb vc sb in
      let parts : triples_if 99 (99 ∷ tail) ≡ Some (va, vb, vc) = (λ i. Some (first i, second i, third i)) in
      ap (λ l. and_then l contents_from) line
      ∙ ap (λ o. and_then (given o (refusal WrongLetter 1)) (contents_of r)) parts
      ∙ ap (λ o. and_then (given o (refusal NotNumbers 1)) (λ i. and_then (number_of 1 vb) (λ n. and_then (number_of 1 vc) (λ m. contents_if r i n m)))) ei
      ∙ ap (λ o. and_then (given o (refusal NotNumbers 1)) (λ n. and_then (number_of 1 vc) (λ m. contents_if r i n m))) en
      ∙ ap (λ o. and_then (given o (refusal NotNumbers 1)) (λ m. contents_if r i n m)) em
      ∙ cond-true _ _ _ range

read_contents_text : (i n m : ℕ) (r : List ℕ) → i ≤ 24 → 1 ≤ n → n ≤ 24 → m ≤ 200 → read_contents (line_text 99 (i ∷ n ∷ m ∷ []) ++ r) ≡ Ok (i, n, m, r)
read_contents_text i n m r a b c d =
    read_contents_line (digits i) (digits n) (digits m) r i n m (digits_clear 10 i (omega arith)) (digits_clear 10 n (omega arith)) (digits_clear 10 m (omega arith)) (digits_clear 32 i (omega arith)) (digits_clear 32 n (omega arith)) (spelled_digits i (omega arith)) (spelled_digits n (omega arith)) (spelled_digits m (omega arith))
    (and_from _ _ (le-leb _ _ a) (and_from _ _ (le-leb _ _ b) (and_from _ _ (le-leb _ _ c) (le-leb _ _ d))))

letter_not_end : (d : Due) → letter d ≡ 10 → ⊥
letter_not_end OfLatch e = omega arith
letter_not_end OfGate e = omega arith

module _ (d : Due) (most own p : ℕ) (va vb r : List ℕ) (a b : ℕ) where
  read_pair_line : Clear 10 va → Clear 10 vb → Clear 32 va → spelled va ≡ Some a → spelled vb ≡ Some b → pair_fits d most own a b ≡ true → read_pair d most own p ((letter d ∷ 32 ∷ (va ++ (32 ∷ (vb ++ (10 ∷ []))))) ++ r) ≡ Ok (a, b, r)
  read_pair_line ca cb sa ea eb fit =
      let x = letter d in
      let tail : List ℕ = 32 ∷ (va ++ (32 ∷ vb)) in
      let clear : Clear 10 (x ∷ tail) = (letter_not_end d, (λ e. omega arith, clear_append 10 va (32 ∷ vb) ca (λ e. omega arith, cb))) in
      let line = ap (line_of p) (pair_text x va vb r) ∙ line_of_text p (x ∷ tail) r clear in
      let parts : parts_if x (x ∷ tail) ≡ Some (va, vb) = cond-true _ _ _ (eq-eqb x x refl) ∙ (λ i. Some (former_text va vb sa i, latter_text va vb sa i)) in
      let both = and_parts (in_range d most a b) (ordered d own a b) fit in
      ap (λ l. and_then l (pair_from d most own p)) line
      ∙ ap (λ o. and_then (given o (refusal WrongLetter p)) (pair_of d most own p r)) parts
      ∙ ap (λ o. and_then (given o (refusal NotNumbers p)) (λ a. and_then (number_of p vb) (λ b. pair_if d most own p r a b))) ea
      ∙ ap (λ o. and_then (given o (refusal NotNumbers p)) (λ b. pair_if d most own p r a b)) eb
      ∙ cond-true _ _ _ both.0
      ∙ cond-true _ _ _ both.1

top_small : (d : Due) (most : ℕ) → most < 1000 → top_of d most < 1000
top_small OfLatch most h = omega arith
top_small OfGate most h = h

read_pair_text : (d : Due) (most own p a b : ℕ) (r : List ℕ) → most < 1000 → pair_fits d most own a b ≡ true → read_pair d most own p (line_text (letter d) (a ∷ b ∷ []) ++ r) ≡ Ok (a, b, r)
read_pair_text d most own p a b r small fit =
    let range = and_parts (leb a most) (leb b (top_of d most)) (and_parts (in_range d most a b) _ fit).0 in
    let ha = leb-true _ _ range.0 in
    let hb = leb-true _ _ range.1 in
    let top = top_small d most small in
    read_pair_line d most own p (digits a) (digits b) r a b (digits_clear 10 a (omega arith)) (digits_clear 10 b (omega arith)) (digits_clear 32 a (omega arith)) (spelled_digits a (omega arith)) (spelled_digits b (omega arith)) fit

-- lines of pairs
read_pairs_text : (n : ℕ) (d : Due) (most own p : ℕ) (before s r : List ℕ) → most < 1000 → 2 * n ≤ length s → pairs_fit n d most own s ≡ true → read_pairs n d most own before p (pairs_text n (letter d) s ++ r) ≡ Ok (before ++ take (2 * n) s, r)
read_pairs_text zero d most own p before s r small long fit = ap (λ l. Ok (l, r)) (sym (append-nil before))
read_pairs_text (suc n) d most own p before [] r small long fit = absurd (omega arith)
read_pairs_text (suc n) d most own p before (a ∷ []) r small long fit = absurd (omega arith)
read_pairs_text (suc n) d most own p before (a ∷ b ∷ s) r small long fit =
    let x = letter d in
    let parts = and_parts (pair_fits d most own a b) _ fit in
    let first = ap (read_pair d most own p) (append_assoc (line_text x (a ∷ b ∷ [])) (pairs_text n x s) r) ∙ read_pair_text d most own p a b (pairs_text n x s ++ r) small parts.0 in
    let rest = read_pairs_text n d most (own + 1) (p + 1) (before ++ (a ∷ b ∷ [])) s r small (omega arith) parts.1 in
    let two : 2 * suc n ≡ suc (suc (2 * n)) = omega arith in
    ap (λ q. and_then q (λ q. read_pairs n d most (own + 1) (before ++ (q.0 ∷ q.1 ∷ [])) (p + 1) q.2)) first
    ∙ rest
    ∙ ap (λ l. Ok (l, r)) (append_assoc before (a ∷ b ∷ []) (take (2 * n) s) ∙ ap (λ k. before ++ take k (a ∷ b ∷ s)) (sym two))

read_bad_text : (most p a : ℕ) → most < 1000 → a ≤ most → read_bad most p (line_text 98 (a ∷ [])) ≡ Ok (a, [])
read_bad_text most p a small h =
    let clear : Clear 10 (98 ∷ 32 ∷ digits a) = (λ e. omega arith, (λ e. omega arith, digits_clear 10 a (omega arith))) in
    ap (λ l. and_then l (bad_from most p)) (line_of_text p (98 ∷ 32 ∷ digits a) [] clear)
    ∙ ap (λ o. and_then (given o (refusal NotNumbers p)) (bad_if most p [])) (spelled_digits a (omega arith))
    ∙ cond-true _ _ _ (le-leb _ _ h)

-- how long lines are
pub numbers_few : (ns : List ℕ) → length (numbers_text ns) ≤ 4 * length ns + 1
numbers_few [] = omega arith
numbers_few (n ∷ ns) =
    let more = numbers_few ns in
    let here = digits_few n in
    let both = length-append (digits n) (numbers_text ns) in
    omega arith

pub pairs_few : (n x : ℕ) (s : List ℕ) → length (pairs_text n x s) ≤ 10 * n
pairs_few zero x s = omega arith
pairs_few (suc n) x s =
    let a = get_or s 0 0 in
    let b = get_or s 1 0 in
    let here = numbers_few (a ∷ b ∷ []) in
    let more = pairs_few n x (drop 2 s) in
    let both = length-append (line_text x (a ∷ b ∷ [])) (pairs_text n x (drop 2 s)) in
    omega arith

four_long : (a b c d : List ℕ) → length (a ++ (b ++ (c ++ d))) ≡ length a + (length b + (length c + length d))
four_long a b c d = simp length-append

pub text_few : (i n m : ℕ) (l : List ℕ) → length (text_by i n m l) ≤ 20 + 10 * (n + m)
text_few i n m l =
    let head = numbers_few (i ∷ n ∷ m ∷ []) in
    let ls = pairs_few n 108 (drop 4 l) in
    let gs = pairs_few m 103 (drop (4 + 2 * n) l) in
    let end = numbers_few (bad_of l ∷ []) in
    let all = four_long (line_text 99 (i ∷ n ∷ m ∷ [])) (pairs_text n 108 (drop 4 l)) (pairs_text m 103 (drop (4 + 2 * n) l)) (line_text 98 (bad_of l ∷ [])) in
    omega arith

-- the whole text
lines_text : (i n m bad : ℕ) (s : List ℕ) → Fits i n m (i ∷ n ∷ m ∷ bad ∷ s) → parse_lines (text_by i n m (i ∷ n ∷ m ∷ bad ∷ s)) ≡ Ok (i ∷ n ∷ m ∷ bad ∷ take (2 * (n + m)) s)
lines_text i n m bad s f =
    let l : List ℕ = i ∷ n ∷ m ∷ bad ∷ s in
    let most = most_literal (i + n + m) in
    let gs = drop (2 * n) s in
    let at : drop (4 + 2 * n) l ≡ gs = sym (drop-drop (2 * n) 4 l) in
    let end = line_text 98 (bad ∷ []) in
    let t₂ = pairs_text m 103 gs ++ end in
    let t₁ = pairs_text n 108 s ++ t₂ in
    let fi = f.few_inputs in
    let fn = f.few_latches in
    let fm = f.few_gates in
    let long = f.whole in
    let small : most < 1000 = omega arith in
    let head = read_contents_text i n m t₁ fi f.some_latch fn fm in
    let ls = read_pairs_text n OfLatch most (1 + i) 2 [] s t₂ small (omega arith) f.latches in
    let gates = read_pairs_text m OfGate most (1 + i + n) (2 + n) (take (2 * n) s) gs end small (simp length-drop (omega arith)) (subst (λ k. pairs_fit m OfGate most (1 + i + n) k ≡ true) at f.gates) in
    let last = read_bad_text most (2 + n + m) bad small f.bad_literal in
    let two : 2 * n + 2 * m ≡ 2 * (n + m) = omega arith in
    ap (λ k. parse_lines (line_text 99 (i ∷ n ∷ m ∷ []) ++ (pairs_text n 108 s ++ (pairs_text m 103 k ++ end)))) at
    ∙ ap (λ c. and_then c (λ c. parse_rest c.0 c.1 c.2 c.3)) head
    ∙ ap (λ l. and_then l (latches_of i n m)) ls
    ∙ ap (λ g. and_then g (gates_of i n m)) gates
    ∙ ap (λ b. and_then b (last_of i n m (take (2 * n) s ++ take (2 * m) gs))) last
    ∙ ap (λ l. Ok (i ∷ n ∷ m ∷ bad ∷ l)) (sym (take-add (2 * n) (2 * m) s) ∙ ap (λ k. take k s) two)

parse_text : (i n m bad : ℕ) (s : List ℕ) → Fits i n m (i ∷ n ∷ m ∷ bad ∷ s) → parse (text_of (i ∷ n ∷ m ∷ bad ∷ s)) ≡ Ok (take (4 + 2 * (n + m)) (i ∷ n ∷ m ∷ bad ∷ s))
parse_text i n m bad s f =
    let l : List ℕ = i ∷ n ∷ m ∷ bad ∷ s in
    let few = text_few i n m l in
    let fn = f.few_latches in
    let fm = f.few_gates in
    let k : suc (suc (suc (suc (2 * (n + m))))) ≡ 4 + 2 * (n + m) = omega arith in
    cond-true _ _ _ (le-leb (length (text_of l)) 4096 (omega arith)) ∙ lines_text i n m bad s f ∙ ap (λ j. Ok (take j l)) k

-- the text of a list that passes the test
pub there : (l : List ℕ) → well_formed l ≡ true → parse (text_of l) ≡ Ok (take (size_of l) l)
there [] h = absurd (omega (arith, (fits_parts 0 0 0 [] h).whole))
there (i ∷ []) h = absurd (omega (arith, (fits_parts i 0 0 (i ∷ []) h).whole))
there (i ∷ n ∷ []) h = absurd (omega (arith, (fits_parts i n 0 (i ∷ n ∷ []) h).whole))
there (i ∷ n ∷ m ∷ []) h = absurd (omega (arith, (fits_parts i n m (i ∷ n ∷ m ∷ []) h).whole))
there (i ∷ n ∷ m ∷ bad ∷ s) h = parse_text i n m bad s (fits_parts i n m (i ∷ n ∷ m ∷ bad ∷ s) h)
