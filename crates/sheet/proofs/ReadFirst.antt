-- A refusal names the first wrong line of a text. Assumes nothing.
use Rattle.std.proofs.Common.{◌≡◌, ℕ, zero, suc, ◌+◌, ◌-◌, ◌≤◌, Bool, true, false, ◌&&◌, eqb, leb, List, [], ◌∷◌, ◌++◌, length, take, Some, None, Ok, Err, Option, Result, sym, refl, ap, ◌∙◌, subst, inl, inr, ⊎_elim, arith}
use Rattle.std.proofs.lemmas.List.{append-nil, length-append, length-take}
use Rattle.std.proofs.lemmas.Bool.{cond-true, cond-false, lt-ltb, le-leb, leb-true, leb-false, ne_eqb, and_from, and_parts, cases_Bool}
use Rattle.lists.specs.Counted.{counted}
use Rattle.sheet.specs.declared.fault.Cause.{Cause}
use Rattle.sheet.specs.declared.fault.Cause.TheVariants.{TextTooLong, WrongLetter, NotNumbers, OutOfRange, OutOfOrder, TextGoesOn}
use Rattle.sheet.specs.declared.fault.Fault.{Fault}
use Rattle.sheet.specs.declared.line.Due.{Due}
use Rattle.sheet.specs.declared.line.Due.TheVariants.{OfLatch, OfGate}
use Rattle.sheet.specs.Sheets.{Legal, most_literal, size_of}
use Rattle.sheet.specs.Faults.{and_then, demand, given}
use Rattle.sheet.specs.Parts.{up_to, spelled}
use Rattle.sheet.specs.Parse.{refusal, line_of, triples_if, parts_if, part_if, number_of, letter, in_range, ordered, read_pair, read_pairs, read_bad, parse_rest, parse_lines, parse, stored, read_text}
use Rattle.sheet.specs.Render.{well_formed, text_of}
use Rattle.sheet.specs.FirstLine.{first_lines, Begins, FirstWrongLine, Judged}
use Rattle.sheet.proofs.Legality.{well_formed_legal, legal_well_formed}
use Rattle.sheet.proofs.Stages.{contents_if, contents_of, contents_from, pair_if, pair_of, pair_from, bad_if, bad_by, bad_from, latches_of, gates_of, last_of, err_not, and_then_inv, demand_inv, ok_same}
use Rattle.sheet.proofs.There.{there}
use Rattle.sheet.proofs.Again.{lines_read}
use Rattle.sheet.proofs.ReadSteps.{Free, Departs, Lined, err_same, step, Placed, lined_step}

-- what a line gives, read by itself
abbrev pub contents_in : ℕ → ℕ → ℕ → Result (ℕ × ℕ × ℕ) Fault
contents_in i n m = demand (leb i 24 && (leb 1 n && (leb n 24 && leb m 200))) (refusal OutOfRange 1) (Ok (i, n, m))

abbrev pub contents_by : List ℕ × List ℕ × List ℕ → Result (ℕ × ℕ × ℕ) Fault
contents_by s =
    and_then (number_of 1 s.0) (λ i. and_then (number_of 1 s.1) (λ n. and_then (number_of 1 s.2) (λ m. contents_in i n m)))

abbrev pub contents_on : List ℕ → Result (ℕ × ℕ × ℕ) Fault
contents_on x = and_then (given (triples_if 99 x) (refusal WrongLetter 1)) contents_by

abbrev pub pair_in : Due → ℕ → ℕ → ℕ → ℕ → ℕ → Result (ℕ × ℕ) Fault
pair_in d most own p a b =
    demand (in_range d most a b) (refusal OutOfRange p) (demand (ordered d own a b) (refusal OutOfOrder p) (Ok (a, b)))

abbrev pub pair_by : Due → ℕ → ℕ → ℕ → List ℕ × List ℕ → Result (ℕ × ℕ) Fault
pair_by d most own p s = and_then (number_of p s.0) (λ a. and_then (number_of p s.1) (λ b. pair_in d most own p a b))

abbrev pub pair_on : Due → ℕ → ℕ → ℕ → List ℕ → Result (ℕ × ℕ) Fault
pair_on d most own p x = and_then (given (parts_if (letter d) x) (refusal WrongLetter p)) (pair_by d most own p)

abbrev pub bad_in : ℕ → ℕ → ℕ → Result ℕ Fault
bad_in most p a = demand (leb a most) (refusal OutOfRange p) (Ok a)

abbrev pub bad_on : ℕ → ℕ → List ℕ → Result ℕ Fault
bad_on most p x = and_then (given (part_if 98 x) (refusal WrongLetter p)) (λ s. and_then (number_of p s) (bad_in most p))

-- with what follows the line put to it, that is what the format reads
under : {Y Z : Type 0} (b : Bool) (e : Fault) (r : Result Y Fault) (s : Result Z Fault) (k : Y → Result Z Fault) → s ≡ and_then r k → demand b e s ≡ and_then (demand b e r) k
under true e r s k h = h
under false e r s k h = refl

contents_numbers : (r : List ℕ) (a b c : Option ℕ) → and_then (given a (refusal NotNumbers 1)) (λ i. and_then (given b (refusal NotNumbers 1)) (λ n. and_then (given c (refusal NotNumbers 1)) (λ m. contents_if r i n m))) ≡ and_then (and_then (given a (refusal NotNumbers 1)) (λ i. and_then (given b (refusal NotNumbers 1)) (λ n. and_then (given c (refusal NotNumbers 1)) (λ m. contents_in i n m)))) (λ v. Ok (v.0, v.1, v.2, r))
contents_numbers r None b c = refl
contents_numbers r (Some i) None c = refl
contents_numbers r (Some i) (Some n) None = refl
contents_numbers r (Some i) (Some n) (Some m) =
    under (leb i 24 && (leb 1 n && (leb n 24 && leb m 200))) (refusal OutOfRange 1) (Ok (i, n, m)) (Ok (i, n, m, r)) (λ v. Ok (v.0, v.1, v.2, r)) refl

contents_parts : (r : List ℕ) (o : Option (List ℕ × List ℕ × List ℕ)) → and_then (given o (refusal WrongLetter 1)) (contents_of r) ≡ and_then (and_then (given o (refusal WrongLetter 1)) contents_by) (λ v. Ok (v.0, v.1, v.2, r))
contents_parts r None = refl
contents_parts r (Some s) = contents_numbers r (spelled s.0) (spelled s.1) (spelled s.2)

contents_one : (l : List ℕ × List ℕ) → contents_from l ≡ and_then (contents_on l.0) (λ v. Ok (v.0, v.1, v.2, l.1))
contents_one l = contents_parts l.1 (triples_if 99 l.0)

pair_numbers : (d : Due) (most own p : ℕ) (r : List ℕ) (a b : Option ℕ) → and_then (given a (refusal NotNumbers p)) (λ a. and_then (given b (refusal NotNumbers p)) (λ b. pair_if d most own p r a b)) ≡ and_then (and_then (given a (refusal NotNumbers p)) (λ a. and_then (given b (refusal NotNumbers p)) (λ b. pair_in d most own p a b))) (λ v. Ok (v.0, v.1, r))
pair_numbers d most own p r None b = refl
pair_numbers d most own p r (Some a) None = refl
pair_numbers d most own p r (Some a) (Some b) =
    let ok : Result (ℕ × ℕ) Fault = Ok (a, b) in
    let whole : Result (ℕ × ℕ × List ℕ) Fault = Ok (a, b, r) in
    let order = ordered d own a b in
    under (in_range d most a b) (refusal OutOfRange p) (demand order (refusal OutOfOrder p) ok) (demand order (refusal OutOfOrder p) whole) (λ v. Ok (v.0, v.1, r))
    (under order (refusal OutOfOrder p) ok whole (λ v. Ok (v.0, v.1, r)) refl)

pair_parts : (d : Due) (most own p : ℕ) (r : List ℕ) (o : Option (List ℕ × List ℕ)) → and_then (given o (refusal WrongLetter p)) (pair_of d most own p r) ≡ and_then (and_then (given o (refusal WrongLetter p)) (pair_by d most own p)) (λ v. Ok (v.0, v.1, r))
pair_parts d most own p r None = refl
pair_parts d most own p r (Some s) = pair_numbers d most own p r (spelled s.0) (spelled s.1)

pair_one : (d : Due) (most own p : ℕ) (l : List ℕ × List ℕ) → pair_from d most own p l ≡ and_then (pair_on d most own p l.0) (λ v. Ok (v.0, v.1, l.1))
pair_one d most own p l = pair_parts d most own p l.1 (parts_if (letter d) l.0)

bad_number : (most p : ℕ) (r : List ℕ) (a : Option ℕ) → and_then (given a (refusal NotNumbers p)) (bad_if most p r) ≡ and_then (and_then (given a (refusal NotNumbers p)) (bad_in most p)) (λ v. Ok (v, r))
bad_number most p r None = refl
bad_number most p r (Some a) = under (leb a most) (refusal OutOfRange p) (Ok a) (Ok (a, r)) (λ v. Ok (v, r)) refl

bad_part : (most p : ℕ) (r : List ℕ) (o : Option (List ℕ)) → and_then (given o (refusal WrongLetter p)) (bad_by most p r) ≡ and_then (and_then (given o (refusal WrongLetter p)) (λ s. and_then (number_of p s) (bad_in most p))) (λ v. Ok (v, r))
bad_part most p r None = refl
bad_part most p r (Some s) = bad_number most p r (spelled s)

bad_one : (most p : ℕ) (l : List ℕ × List ℕ) → bad_from most p l ≡ and_then (bad_on most p l.0) (λ v. Ok (v, l.1))
bad_one most p l = bad_part most p l.1 (part_if 98 l.0)

-- and so it is where more follows
then_assoc : {X Y Z : Type 0} (r : Result X Fault) (f : X → Result Y Fault) (k : Y → Result Z Fault) → and_then (and_then r f) k ≡ and_then r (λ x. and_then (f x) k)
then_assoc (Ok x) f k = refl
then_assoc (Err e) f k = refl

then_made : {V Y Z : Type 0} (o : Result V Fault) (mk : V → Y) (k : Y → Result Z Fault) → and_then (and_then o (λ v. Ok (mk v))) k ≡ and_then o (λ v. k (mk v))
then_made (Ok v) mk k = refl
then_made (Err e) mk k = refl

as_step : {V Y Z : Type 0} (r : Result (List ℕ × List ℕ) Fault) (f : List ℕ × List ℕ → Result Y Fault) (one : List ℕ → Result V Fault) (mk : List ℕ → V → Y) (k : Y → Result Z Fault) → ((l : List ℕ × List ℕ) → f l ≡ and_then (one l.0) (λ v. Ok (mk l.1 v))) → and_then (and_then r f) k ≡ and_then r (λ l. and_then (one l.0) (λ v. k (mk l.1 v)))
as_step (Ok l) f one mk k h = ap (λ q. and_then q k) (h l) ∙ then_made (one l.0) (mk l.1) k
as_step (Err e) f one mk k h = refl

-- the lines of two numbers, the line of the bad literal and the whole text, each read by its first line
pub pairs_are_step : {Y : Type 0} (n : ℕ) (d : Due) (most own : ℕ) (before : List ℕ) (p : ℕ) (k : List ℕ × List ℕ → Result Y Fault) (t : List ℕ) → and_then (read_pairs (suc n) d most own before p t) k ≡ step p (pair_on d most own p) (λ v r. and_then (read_pairs n d most (own + 1) (before ++ (v.0 ∷ v.1 ∷ [])) (p + 1) r) k) t
pairs_are_step n d most own before p k t =
    let rest : ℕ × ℕ × List ℕ → Result (List ℕ × List ℕ) Fault = λ r. read_pairs n d most (own + 1) (before ++ (r.0 ∷ r.1 ∷ [])) (p + 1) r.2 in
    then_assoc (read_pair d most own p t) rest k
    ∙ as_step (line_of p t) (pair_from d most own p) (pair_on d most own p) (λ r v. (v.0, v.1, r)) (λ y. and_then (rest y) k) (pair_one d most own p)

pub bad_is_step : {Y : Type 0} (most p : ℕ) (k : ℕ × List ℕ → Result Y Fault) (t : List ℕ) → and_then (read_bad most p t) k ≡ step p (bad_on most p) (λ a r. k (a, r)) t
bad_is_step most p k t = as_step (line_of p t) (bad_from most p) (bad_on most p) (λ r v. (v, r)) k (bad_one most p)

pub lines_are_step : (t : List ℕ) → parse_lines t ≡ step 1 contents_on (λ c r. parse_rest c.0 c.1 c.2 r) t
lines_are_step t =
    as_step (line_of 1 t) contents_from contents_on (λ r v. (v.0, v.1, v.2, r)) (λ c. parse_rest c.0 c.1 c.2 c.3) contents_one

lined_as : {Y : Type 0} (j : ℕ) (F G : List ℕ → Result Y Fault) → ((t : List ℕ) → F t ≡ G t) → Lined j G → Lined j F
lined_as j F G h g = let same : G ≡ F = λ i t. sym (h t) i in subst (Lined j) same g

-- each refusal of a line has its place
placed_given : {X : Type 0} (o : Option X) (n : Cause) (p : ℕ) → Placed p (given o (refusal n p))
placed_given None n p = refl
placed_given (Some x) n p = tt

placed_then : {X Y : Type 0} (p : ℕ) (r : Result X Fault) (f : X → Result Y Fault) → Placed p r → ((x : X) → Placed p (f x)) → Placed p (and_then r f)
placed_then p (Ok x) f a b = b x
placed_then p (Err e) f a b = a

placed_demand : {X : Type 0} (b : Bool) (n : Cause) (p : ℕ) (r : Result X Fault) → Placed p r → Placed p (demand b (refusal n p) r)
placed_demand true n p r h = h
placed_demand false n p r h = refl

contents_placed : (x : List ℕ) → Placed 1 (contents_on x)
contents_placed x =
    placed_then 1 (given (triples_if 99 x) (refusal WrongLetter 1)) _ (placed_given (triples_if 99 x) WrongLetter 1)
    (λ s. placed_then 1 (number_of 1 s.0) _ (placed_given _ NotNumbers 1)
    (λ i. placed_then 1 (number_of 1 s.1) _ (placed_given _ NotNumbers 1)
    (λ n. placed_then 1 (number_of 1 s.2) _ (placed_given _ NotNumbers 1)
    (λ m. placed_demand (leb i 24 && (leb 1 n && (leb n 24 && leb m 200))) OutOfRange 1 _ tt))))

pair_placed : (d : Due) (most own p : ℕ) (x : List ℕ) → Placed p (pair_on d most own p x)
pair_placed d most own p x =
    placed_then p (given (parts_if (letter d) x) (refusal WrongLetter p)) _ (placed_given (parts_if (letter d) x) WrongLetter p)
    (λ s. placed_then p (number_of p s.0) _ (placed_given _ NotNumbers p)
    (λ a. placed_then p (number_of p s.1) _ (placed_given _ NotNumbers p)
    (λ b. placed_demand (in_range d most a b) OutOfRange p _ (placed_demand (ordered d own a b) OutOfOrder p _ tt))))

bad_placed : (most p : ℕ) (x : List ℕ) → Placed p (bad_on most p x)
bad_placed most p x =
    placed_then p (given (part_if 98 x) (refusal WrongLetter p)) _ (placed_given (part_if 98 x) WrongLetter p)
    (λ s. placed_then p (number_of p s) _ (placed_given _ NotNumbers p) (λ a. placed_demand (leb a most) OutOfRange p _ tt))

-- a line that is right whatever stands before it: a latch that stays 0, a gate of node 1 and the constant
abbrev plain : Due → List ℕ
plain OfLatch = 108 ∷ 32 ∷ 48 ∷ 32 ∷ 48 ∷ []
plain OfGate = 103 ∷ 32 ∷ 50 ∷ 32 ∷ 48 ∷ []

abbrev plain_pair : Due → ℕ × ℕ
plain_pair OfLatch = (0, 0)
plain_pair OfGate = (2, 0)

abbrev Above : Due → ℕ → Type 0
Above OfLatch own = Unit {0}
Above OfGate own = 2 ≤ own

above_more : (d : Due) (own : ℕ) → Above d own → Above d (own + 1)
above_more OfLatch own h = tt
above_more OfGate own h = omega arith

plain_free : (d : Due) → Free (plain d)
plain_free OfLatch = refl
plain_free OfGate = refl

plain_right : (d : Due) (most own p : ℕ) → 2 ≤ most → Above d own → pair_on d most own p (plain d) ≡ Ok (plain_pair d)
plain_right OfLatch most own p big h = cond-true _ _ _ (and_from _ _ (le-leb 0 most (omega arith)) refl)
plain_right OfGate most own p big h =
    cond-true _ _ _ (and_from _ _ (le-leb 2 most big) (le-leb 0 most (omega arith)))
    ∙ cond-true _ _ _ (and_from _ _ (lt-ltb 1 own (omega arith)) refl)

-- the lines of two numbers, and what follows them
lined_pairs : {Y : Type 0} (n : ℕ) (d : Due) (most own : ℕ) (before : List ℕ) (p : ℕ) (k : List ℕ × List ℕ → Result Y Fault) → 2 ≤ most → Above d own → ((ys : List ℕ) → Lined (p + n) (λ t. k (ys, t))) → Lined p (λ t. and_then (read_pairs n d most own before p t) k)
lined_pairs zero d most own before p k big h next =
    let here : p + 0 ≡ p = omega arith in
    subst (λ j. Lined j (λ t. k (before, t))) here (next before)
lined_pairs {Y = Y} (suc n) d most own before p k big h next =
    let go : ℕ × ℕ → List ℕ → Result Y Fault = λ v r. and_then (read_pairs n d most (own + 1) (before ++ (v.0 ∷ v.1 ∷ [])) (p + 1) r) k in
    let on : p + suc n ≡ p + 1 + n = omega arith in
    lined_as p _ (step p (pair_on d most own p) go) (pairs_are_step n d most own before p k)
    (lined_step p (pair_on d most own p) go (plain d) (plain_pair d) (plain_free d) (plain_right d most own p big h) (pair_placed d most own p)
    (λ x v is. lined_pairs n d most (own + 1) (before ++ (v.0 ∷ v.1 ∷ [])) (p + 1) k big (above_more d own h) (λ ys. subst (λ j. Lined j (λ t. k (ys, t))) on (next ys))))

-- the line of the bad literal
lined_bad : {Y : Type 0} (most p : ℕ) (k : ℕ × List ℕ → Result Y Fault) → ((a : ℕ) → Lined (p + 1) (λ t. k (a, t))) → Lined p (λ t. and_then (read_bad most p t) k)
lined_bad most p k next =
    lined_as p _ (step p (bad_on most p) (λ a r. k (a, r)))
    (bad_is_step most p k)
    (lined_step p (bad_on most p) (λ a r. k (a, r)) (98 ∷ 32 ∷ 48 ∷ []) 0 refl (cond-true _ _ _ (le-leb 0 most (omega arith))) (bad_placed most p) (λ x v is. next v))

-- nothing follows
abbrev nothing : ℕ → List ℕ → List ℕ → Result (List ℕ) Fault
nothing p y r = demand (eqb (length r) 0) (refusal TextGoesOn p) (Ok y)

first_some : (x : ℕ) (t : List ℕ) → first_lines 1 (x ∷ t) ≡ [] → ⊥
first_some x t e =
    omega (arith, ap length e, length-append (take (up_to 10 (x ∷ t) + 1) (x ∷ t)) [], length-take (up_to 10 (x ∷ t) + 1) (x ∷ t))

nothing_some : (p x : ℕ) (y t : List ℕ) → nothing p y (x ∷ t) ≡ Err (refusal TextGoesOn p)
nothing_some p x y t = cond-false _ _ _ (ne_eqb (length (x ∷ t)) 0 (λ e. omega arith))

nothing_wrong : (p x : ℕ) (y t u : List ℕ) → first_lines 1 (x ∷ t) ≡ first_lines 1 u → nothing p y u ≡ Err (refusal TextGoesOn p)
nothing_wrong p x y t [] e = absurd (first_some x t e)
nothing_wrong p x y t (z ∷ u) e = nothing_some p z y u

nothing_departs : (j p : ℕ) (y : List ℕ) → p ≡ j → (t : List ℕ) (e : Fault) → nothing p y t ≡ Err e → Departs (nothing p y) j t e
nothing_departs j p y at [] e h = absurd (err_not e y (sym h))
nothing_departs j p y at (x ∷ t) e h =
    let is : refusal TextGoesOn p ≡ e = err_same _ _ (sym (nothing_some p x y t) ∙ h) in
    let place : p ≡ e.place = ap (λ (f : Fault). f.place) is in
    record {
      before = 0;
      place = omega arith;
      wrong = λ u same. nothing_wrong p x y t u same ∙ ap Err is;
      text = [];
      gives = y;
      accepted = refl;
      same = refl;
    }

lined_last : (j p : ℕ) (y : List ℕ) → p ≡ j → Lined j (nothing p y)
lined_last j p y at = record { text = []; gives = y; accepted = refl; departs = nothing_departs j p y at }

-- all lines
pub lined_rest : (i n m : ℕ) → 1 ≤ n → Lined 2 (parse_rest i n m)
lined_rest i n m some =
    let most = most_literal (i + n + m) in
    lined_pairs n OfLatch most (1 + i) [] 2 (latches_of i n m) (omega arith) tt
    (λ ls. lined_pairs m OfGate most (1 + i + n) ls (2 + n) (gates_of i n m) (omega arith) (omega arith)
    (λ gs. lined_bad most (2 + n + m) (last_of i n m gs) (λ a. lined_last (2 + n + m + 1) (3 + n + m) (i ∷ n ∷ m ∷ a ∷ gs) (omega arith))))

pub some_latch : (x : List ℕ) (c : ℕ × ℕ × ℕ) → contents_on x ≡ Ok c → 1 ≤ c.1
some_latch x c h =
    let s₁ = and_then_inv (given (triples_if 99 x) (refusal WrongLetter 1)) _ c h in
    let s = s₁.0 in
    let s₂ = and_then_inv (number_of 1 s.0) _ c s₁.1.1 in
    let i = s₂.0 in
    let s₃ = and_then_inv (number_of 1 s.1) _ c s₂.1.1 in
    let n = s₃.0 in
    let s₄ = and_then_inv (number_of 1 s.2) _ c s₃.1.1 in
    let m = s₄.0 in
    let s₅ = demand_inv (leb i 24 && (leb 1 n && (leb n 24 && leb m 200))) (refusal OutOfRange 1) (Ok (i, n, m)) c s₄.1.1 in
    let low = (and_parts (leb 1 n) (leb n 24 && leb m 200) (and_parts (leb i 24) _ s₅.0).1).0 in
    let P : ℕ × ℕ × ℕ → Type 0 = λ c. 1 ≤ c.1 in
    subst P (ok_same (i, n, m) c s₅.1) (leb-true 1 n low)

lined_all : Lined 1 parse_lines
lined_all =
    lined_as 1 parse_lines (step 1 contents_on (λ c r. parse_rest c.0 c.1 c.2 r))
    lines_are_step
    (lined_step 1 contents_on (λ c r. parse_rest c.0 c.1 c.2 r) (99 ∷ 32 ∷ 48 ∷ 32 ∷ 49 ∷ 32 ∷ 48 ∷ []) (0, 1, 0) refl refl contents_placed
    (λ x c is. lined_rest c.0 c.1 c.2 (some_latch x c is)))

-- a text that is accepted is that of a legal list, and the other way round
legal_of : (u l : List ℕ) → parse_lines u ≡ Ok l → Legal l × (u ≡ text_of l)
legal_of u l h =
    let r = lines_read u l 0 h in
    let same = append-nil l in
    (well_formed_legal l (subst (λ k. well_formed k ≡ true) same r.formed), sym r.text ∙ ap text_of same)

pub lines_of : (l : List ℕ) → Legal l → parse_lines (text_of l) ≡ Ok (take (size_of l) l)
lines_of l h =
    (demand_inv (leb (length (text_of l)) 4096) (refusal TextTooLong 0) (parse_lines (text_of l)) _ (there l (legal_well_formed l h))).1

wrong_line : (t : List ℕ) (f : Fault) → parse_lines t ≡ Err f → (1 ≤ f.place) × Begins (f.place - 1) t × (Begins f.place t → ⊥)
wrong_line t f h =
    let d = lined_all.departs t f h in
    let at = d.place in
    let last : f.place - 1 ≡ d.before = omega arith in
    let here : f.place ≡ suc d.before = omega arith in
    let good = legal_of d.text d.gives d.accepted in
    let begins : first_lines (f.place - 1) t ≡ first_lines (f.place - 1) (text_of d.gives) =
    ap (λ q. first_lines q t) last ∙ d.same ∙ ap (first_lines d.before) good.1 ∙ ap (λ q. first_lines q (text_of d.gives)) (sym last) in (
      omega arith,
      (d.gives, good.0, begins),
      λ w. err_not f _ (sym (d.wrong (text_of w.0) (subst (λ q. first_lines q t ≡ first_lines q (text_of w.0)) here w.2)) ∙ lines_of w.0 w.1),
    )

pub first_wrong : (t : List ℕ) (f : Fault) → parse t ≡ Err f → FirstWrongLine t f.cause f.place
first_wrong t f h =
    ⊎_elim
    (λ b. inr (wrong_line t f (sym (cond-true _ _ _ b) ∙ h)))
    (λ b.
    let is : refusal TextTooLong 0 ≡ f = err_same _ _ (sym (cond-false _ _ _ b) ∙ h) in
    inl (ap (λ (f : Fault). f.cause) (sym is), ap (λ (f : Fault). f.place) (sym is), leb-false (length t) 4096 b))
    (cases_Bool (leb (length t) 4096))

judged_by : (t old : List ℕ) (q : Result (List ℕ) Fault) (r : Result ℕ Fault) → parse t ≡ q → r ≡ (stored q old).0 → Judged t r
judged_by t old (Err f) r h is = subst (Judged t) (sym is) (inr (first_wrong t f h))
judged_by t old (Ok l) r h is =
    let legal = legal_of t l (demand_inv (leb (length t) 4096) (refusal TextTooLong 0) (parse_lines t) l h).1 in
    let result = λ (p : Result ℕ Fault × List ℕ). p.0 in
    ⊎_elim
    (λ b. subst (Judged t) (sym (is ∙ ap result (cond-true _ _ _ b))) (l, legal.0, legal.1))
    (λ b. subst (Judged t) (sym (is ∙ ap result (cond-false _ _ _ b))) (inl (refl, refl, (l, legal.0, legal.1))))
    (cases_Bool (leb (length l) (length old)))

-- what reading returns says which
pub judged : (t old new : List ℕ) (r : Result ℕ Fault) → (r, new) ≡ read_text t old → Judged t r
judged t old new r h =
    judged_by t (counted old) (parse t) r refl (ap (λ (p : Result ℕ Fault × List ℕ). p.0) h)
