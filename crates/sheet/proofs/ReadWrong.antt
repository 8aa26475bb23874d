-- Why a line by itself is refused: each refusal has the reason that its number says. Assumes nothing.
use Rattle.std.proofs.Common.{◌≡◌, ℕ, suc, ◌+◌, ◌<◌, Bool, true, false, cond, ◌&&◌, eqb, leb, ◌⊎◌, List, [], ◌∷◌, ◌++◌, get_or, Some, None, Ok, Err, Option, Result, sym, refl, ap, ◌∙◌, subst, inl, inr, ⊎_elim, arith}
use Rattle.std.proofs.lemmas.Bool.{le-leb, lt-ltb, leb-true, eqb-true, eqb-false, and_from, and_parts, both_ways}
use Rattle.sheet.specs.declared.fault.Cause.{Cause}
use Rattle.sheet.specs.declared.fault.Cause.TheVariants.{WrongLetter, NotNumbers, OutOfRange, OutOfOrder}
use Rattle.sheet.specs.declared.fault.Fault.{Fault}
use Rattle.sheet.specs.declared.line.Due.{Due}
use Rattle.sheet.specs.declared.line.Due.TheVariants.{OfLatch, OfGate}
use Rattle.sheet.specs.Sheets.{input_count, latch_count, gate_count, literal_limit}
use Rattle.sheet.specs.Faults.{and_then, demand, given}
use Rattle.sheet.specs.Parts.{spelled, spaced, former, further, latter}
use Rattle.sheet.specs.Parse.{refusal, number_of, letter, in_range, ordered}
use Rattle.sheet.specs.Reasons.{Kind, contents_line, latch_line, gate_line, bad_line, letter_of, numbers_in, IsLine, InRange, InOrder, HasEnd, Says, Wrong, other_letter, no_numbers, out_of_range, out_of_order}
use Rattle.sheet.proofs.Stages.{err_not, none_not}
use Rattle.sheet.proofs.Spelling.{Clear}
use Rattle.sheet.proofs.ReadSteps.{Free, clear_of, first_ended, same_end, err_same}
use Rattle.sheet.proofs.ReadNumbers.{parts, with_first, numbers, body, line_text_lem, line_free, given_numbers, numbers_given}
use Rattle.sheet.proofs.ReadFirst.{contents_in, contents_by, contents_on, pair_in, pair_by, pair_on, bad_in, bad_on}

-- a line read by its letter and its numbers, which are then checked
abbrev heard : {V : Type 0} → ℕ → ℕ → ℕ → (List ℕ → Result V Fault) → List ℕ → Result V Fault
heard c k p check [] = Err (refusal WrongLetter p)
heard c k p check (y ∷ s) = demand (eqb y c) (refusal WrongLetter p) (and_then (given (numbers (parts k s)) (refusal NotNumbers p)) check)

-- that is how each line is read
abbrev contents_check : List ℕ → Result (ℕ × ℕ × ℕ) Fault
contents_check ns = contents_in (get_or ns 0 0) (get_or ns 1 0) (get_or ns 2 0)

abbrev pair_check : Due → ℕ → ℕ → ℕ → List ℕ → Result (ℕ × ℕ) Fault
pair_check d most own p ns = pair_in d most own p (get_or ns 0 0) (get_or ns 1 0)

abbrev bad_check : ℕ → ℕ → List ℕ → Result ℕ Fault
bad_check most p ns = bad_in most p (get_or ns 0 0)

if_letter : {X V : Type 0} (b : Bool) (e : Fault) (x : X) (f : X → Result V Fault) → and_then (given (cond b (Some x) None) e) f ≡ demand b e (f x)
if_letter true e x f = refl
if_letter false e x f = refl

contents_options : (a b c : Option ℕ) → and_then (given a (refusal NotNumbers 1)) (λ i. and_then (given b (refusal NotNumbers 1)) (λ n. and_then (given c (refusal NotNumbers 1)) (λ m. contents_in i n m))) ≡ and_then (given (with_first a (with_first b (with_first c (Some [])))) (refusal NotNumbers 1)) contents_check
contents_options None b c = refl
contents_options (Some i) None c = refl
contents_options (Some i) (Some n) None = refl
contents_options (Some i) (Some n) (Some m) = refl

contents_heard : (x : List ℕ) → contents_on x ≡ heard 99 2 1 contents_check x
contents_heard [] = refl
contents_heard (y ∷ s) =
    if_letter (eqb y 99) (refusal WrongLetter 1) (former s, former (further s), latter (further s)) contents_by
    ∙ ap (demand (eqb y 99) (refusal WrongLetter 1)) (contents_options (spelled (former s)) (spelled (former (further s))) (spelled (latter (further s))))

pair_options : (d : Due) (most own p : ℕ) (a b : Option ℕ) → and_then (given a (refusal NotNumbers p)) (λ a. and_then (given b (refusal NotNumbers p)) (λ b. pair_in d most own p a b)) ≡ and_then (given (with_first a (with_first b (Some []))) (refusal NotNumbers p)) (pair_check d most own p)
pair_options d most own p None b = refl
pair_options d most own p (Some a) None = refl
pair_options d most own p (Some a) (Some b) = refl

pair_heard : (d : Due) (most own p : ℕ) (x : List ℕ) → pair_on d most own p x ≡ heard (letter d) 1 p (pair_check d most own p) x
pair_heard d most own p [] = refl
pair_heard d most own p (y ∷ s) =
    if_letter (eqb y (letter d)) (refusal WrongLetter p) (former s, latter s) (pair_by d most own p)
    ∙ ap (demand (eqb y (letter d)) (refusal WrongLetter p)) (pair_options d most own p (spelled (former s)) (spelled (latter s)))

bad_option : (most p : ℕ) (a : Option ℕ) → and_then (given a (refusal NotNumbers p)) (bad_in most p) ≡ and_then (given (with_first a (Some [])) (refusal NotNumbers p)) (bad_check most p)
bad_option most p None = refl
bad_option most p (Some a) = refl

bad_heard : (most p : ℕ) (x : List ℕ) → bad_on most p x ≡ heard 98 0 p (bad_check most p) x
bad_heard most p [] = refl
bad_heard most p (y ∷ s) =
    if_letter (eqb y 98) (refusal WrongLetter p) (spaced s) (λ v. and_then (number_of p v) (bad_in most p))
    ∙ ap (demand (eqb y 98) (refusal WrongLetter p)) (bad_option most p (spelled (spaced s)))

-- a refusal of line p, of this kind, where the text goes on with s
abbrev pub Refused : List ℕ → Kind → ℕ → List ℕ → Fault → Type 0
Refused l k p s e = (e.place ≡ p) × Wrong l k s e.cause

pub refused_by : (l : List ℕ) (k : Kind) (p : ℕ) (n : Cause) (s : List ℕ) (e : Fault) → refusal n p ≡ e → Wrong l k s n → Refused l k p s e
refused_by l k p n s e is w =
    (ap (λ (f : Fault). f.place) (sym is), subst (λ (f : Fault). Wrong l k s f.cause) is w)

letter_not_end : (k : Kind) → 10 ≡ letter_of k → ⊥
letter_not_end contents_line e = omega arith
letter_not_end (latch_line i) e = omega arith
letter_not_end (gate_line g) e = omega arith
letter_not_end bad_line e = omega arith

pub demand_err : {X : Type 0} (b : Bool) (d : Fault) (r : Result X Fault) (e : Fault) → demand b d r ≡ Err e → ((b ≡ true) × (r ≡ Err e)) ⊎ ((b ≡ false) × (d ≡ e))
demand_err true d r e h = inl (refl, h)
demand_err false d r e h = inr (refl, err_same d e h)

-- a text with no end of line
not_clear : (x r : List ℕ) → Clear 10 (x ++ (10 ∷ r)) → ⊥
not_clear [] r h = h.0 refl
not_clear (y ∷ x) r h = not_clear x r h.1

pub not_open : (t : List ℕ) → Free t → HasEnd t → ⊥
not_open t f h = not_clear h.0 h.1 (subst (Clear 10) h.2 (clear_of t f))

-- the first line of a text, which says some numbers
pub says_body : (k : Kind) (x r ns : List ℕ) → Free x → Says k (x ++ (10 ∷ r)) ns → x ≡ letter_of k ∷ body ns
says_body k x r ns f h =
    (same_end x (letter_of k ∷ body ns) [] [] f (line_free (letter_of k) ns (λ e. letter_not_end k (sym e)))
    (sym (first_ended 0 x r f) ∙ h.line ∙ line_text_lem (letter_of k) ns)).0

body_says : (k : Kind) (j : ℕ) (s r ns : List ℕ) → numbers_in k ≡ suc j → Free (letter_of k ∷ s) → numbers (parts j s) ≡ Some ns → Says k ((letter_of k ∷ s) ++ (10 ∷ r)) ns
body_says k j s r ns many f h =
    let g = given_numbers j s ns h in
    record {
      as_many = g.many ∙ sym many;
      three_digits = g.small;
      line = first_ended 0 (letter_of k ∷ s) r f ∙ ap (λ s. (letter_of k ∷ s) ++ (10 ∷ [])) (sym g.is) ∙ sym (line_text_lem (letter_of k) ns);
    }

-- the refusals of a line that is read by its letter and its numbers, where those of the check are right
module _ {V : Type 0} (l : List ℕ) (k : Kind) (j p : ℕ) (check : List ℕ → Result V Fault) (r : List ℕ) (e : Fault) (many : numbers_in k ≡ suc j) where
  refused_numbers : (s : List ℕ) (o : Option (List ℕ)) → Free (letter_of k ∷ s) → numbers (parts j s) ≡ o → ((ns : List ℕ) → Says k ((letter_of k ∷ s) ++ (10 ∷ r)) ns → check ns ≡ Err e → Refused l k p ((letter_of k ∷ s) ++ (10 ∷ r)) e) → and_then (given o (refusal NotNumbers p)) check ≡ Err e → Refused l k p ((letter_of k ∷ s) ++ (10 ∷ r)) e
  refused_numbers s (Some ns) f is checked h = checked ns (body_says k j s r ns many f is) h
  refused_numbers s None f is checked h =
      let none : (ns : List ℕ) → Says k ((letter_of k ∷ s) ++ (10 ∷ r)) ns → ⊥ = λ ns says.
      let whole = says_body k (letter_of k ∷ s) r ns f says in
      let tail : s ≡ body ns = cc in
      none_not ns (sym is ∙ ap (λ s. numbers (parts j s)) tail ∙ numbers_given j ns (says.as_many ∙ many) says.three_digits) in
      refused_by l k p NotNumbers ((letter_of k ∷ s) ++ (10 ∷ r)) e (err_same _ _ h) (no_numbers refl (letter_of k ∷ s, r, refl) refl none)

  refused_line : (x : List ℕ) → Free x → ((ns : List ℕ) → Says k (x ++ (10 ∷ r)) ns → check ns ≡ Err e → Refused l k p (x ++ (10 ∷ r)) e) → heard (letter_of k) j p check x ≡ Err e → Refused l k p (x ++ (10 ∷ r)) e
  refused_line [] f checked h =
      refused_by l k p WrongLetter (10 ∷ r) e (err_same _ _ h) (other_letter refl ([], r, refl) (letter_not_end k))
  refused_line (y ∷ s) f checked h =
      ⊎_elim
      (λ (q : (eqb y (letter_of k) ≡ true) × (and_then (given (numbers (parts j s)) (refusal NotNumbers p)) check ≡ Err e)).
      let P : ℕ → Type 0 = λ y. Free (y ∷ s) → ((ns : List ℕ) → Says k ((y ∷ s) ++ (10 ∷ r)) ns → check ns ≡ Err e → Refused l k p ((y ∷ s) ++ (10 ∷ r)) e) → Refused l k p ((y ∷ s) ++ (10 ∷ r)) e in
      subst P (sym (eqb-true y (letter_of k) q.0)) (λ f checked. refused_numbers s (numbers (parts j s)) f refl checked q.1) f checked)
      (λ (q : (eqb y (letter_of k) ≡ false) × (refusal WrongLetter p ≡ e)).
      refused_by l k p WrongLetter ((y ∷ s) ++ (10 ∷ r)) e q.1 (other_letter refl (y ∷ s, r, refl) (eqb-false y (letter_of k) q.0)))
      (demand_err (eqb y (letter_of k)) (refusal WrongLetter p) (and_then (given (numbers (parts j s)) (refusal NotNumbers p)) check) e h)

-- the contents line
pub contents_refused : (l x r : List ℕ) (e : Fault) → Free x → contents_on x ≡ Err e → Refused l contents_line 1 (x ++ (10 ∷ r)) e
contents_refused l x r e f h =
    refused_line l contents_line 2 1 contents_check r e refl x f
    (λ ns says bad.
    let i = get_or ns 0 0 in
    let n = get_or ns 1 0 in
    let m = get_or ns 2 0 in
    let test = leb i 24 && (leb 1 n && (leb n 24 && leb m 200)) in
    ⊎_elim
    (λ (q : (test ≡ true) × (Ok (i, n, m) ≡ Err e)). absurd (err_not e (i, n, m) (sym q.1)))
    (λ (q : (test ≡ false) × (refusal OutOfRange 1 ≡ e)).
    refused_by l contents_line 1 OutOfRange (x ++ (10 ∷ r)) e q.1
    (out_of_range refl ns says (λ w.
    both_ways test q.0 (and_from _ _ (le-leb i 24 w.0) (and_from _ _ (le-leb 1 n w.1) (and_from _ _ (le-leb n 24 w.2) (le-leb m 200 w.3)))))))
    (demand_err test (refusal OutOfRange 1) (Ok (i, n, m)) e bad))
    (sym (contents_heard x) ∙ h)

-- the lines of two numbers
abbrev pub kind_by : Due → ℕ → Kind
kind_by OfLatch j = latch_line j
kind_by OfGate j = gate_line j

abbrev pub count_by : List ℕ → Due → ℕ
count_by l OfLatch = latch_count l
count_by l OfGate = gate_count l

abbrev pub line_by : List ℕ → Due → ℕ → ℕ
line_by l OfLatch j = 2 + j
line_by l OfGate j = 2 + latch_count l + j

abbrev pub node_by : List ℕ → Due → ℕ → ℕ
node_by l OfLatch j = 1 + input_count l + j
node_by l OfGate j = 1 + input_count l + latch_count l + j

pub is_line_by : (l : List ℕ) (d : Due) (j p : ℕ) → j < count_by l d → p ≡ line_by l d j → IsLine l (kind_by d j) p
is_line_by l OfLatch j p h at = (h, at)
is_line_by l OfGate j p h at = (h, at)

pub line_on : (l : List ℕ) (d : Due) (j p : ℕ) → p ≡ line_by l d j → p + 1 ≡ line_by l d (j + 1)
line_on l OfLatch j p h = omega arith
line_on l OfGate j p h = omega arith

pub node_on : (l : List ℕ) (d : Due) (j own : ℕ) → own ≡ node_by l d j → own + 1 ≡ node_by l d (j + 1)
node_on l OfLatch j own h = omega arith
node_on l OfGate j own h = omega arith

in_range_test : (l : List ℕ) (d : Due) (j : ℕ) (ns : List ℕ) → InRange l (kind_by d j) ns → in_range d (literal_limit l) (get_or ns 0 0) (get_or ns 1 0) ≡ true
in_range_test l OfLatch j ns h = and_from _ _ (le-leb _ _ h.0) (le-leb _ _ h.1)
in_range_test l OfGate j ns h = and_from _ _ (le-leb _ _ h.0) (le-leb _ _ h.1)

test_in_range : (l : List ℕ) (d : Due) (j : ℕ) (ns : List ℕ) → in_range d (literal_limit l) (get_or ns 0 0) (get_or ns 1 0) ≡ true → InRange l (kind_by d j) ns
test_in_range l OfLatch j ns h =
    let p = and_parts (leb (get_or ns 0 0) (literal_limit l)) _ h in (leb-true _ _ p.0, leb-true _ _ p.1)
test_in_range l OfGate j ns h =
    let p = and_parts (leb (get_or ns 0 0) (literal_limit l)) _ h in (leb-true _ _ p.0, leb-true _ _ p.1)

in_order_test : (l : List ℕ) (d : Due) (j : ℕ) (ns : List ℕ) → InOrder l (kind_by d j) ns → ordered d (node_by l d j) (get_or ns 0 0) (get_or ns 1 0) ≡ true
in_order_test l OfLatch j ns h = refl
in_order_test l OfGate j ns h = and_from _ _ (lt-ltb _ _ h.0) (lt-ltb _ _ h.1)

pair_checked : (l : List ℕ) (d : Due) (j p : ℕ) (s ns : List ℕ) (e : Fault) → Says (kind_by d j) s ns → pair_check d (literal_limit l) (node_by l d j) p ns ≡ Err e → Refused l (kind_by d j) p s e
pair_checked l d j p s ns e says h =
    let a = get_or ns 0 0 in
    let b = get_or ns 1 0 in
    let range = in_range d (literal_limit l) a b in
    let order = ordered d (node_by l d j) a b in
    let ok : Result (ℕ × ℕ) Fault = Ok (a, b) in
    ⊎_elim
    (λ (q : (range ≡ true) × (demand order (refusal OutOfOrder p) ok ≡ Err e)).
    ⊎_elim
    (λ (w : (order ≡ true) × (ok ≡ Err e)). absurd (err_not e (a, b) (sym w.1)))
    (λ (w : (order ≡ false) × (refusal OutOfOrder p ≡ e)).
    refused_by l (kind_by d j) p OutOfOrder s e w.1
    (out_of_order refl ns says (test_in_range l d j ns q.0) (λ o. both_ways order w.0 (in_order_test l d j ns o))))
    (demand_err order (refusal OutOfOrder p) ok e q.1))
    (λ (q : (range ≡ false) × (refusal OutOfRange p ≡ e)).
    refused_by l (kind_by d j) p OutOfRange s e q.1
    (out_of_range refl ns says (λ o. both_ways range q.0 (in_range_test l d j ns o))))
    (demand_err range (refusal OutOfRange p) (demand order (refusal OutOfOrder p) ok) e h)

letter_by : (d : Due) (j : ℕ) → letter_of (kind_by d j) ≡ letter d
letter_by OfLatch j = refl
letter_by OfGate j = refl

two_by : (d : Due) (j : ℕ) → numbers_in (kind_by d j) ≡ 2
two_by OfLatch j = refl
two_by OfGate j = refl

pub pair_refused : (l : List ℕ) (d : Due) (j p : ℕ) (x r : List ℕ) (e : Fault) → Free x → pair_on d (literal_limit l) (node_by l d j) p x ≡ Err e → Refused l (kind_by d j) p (x ++ (10 ∷ r)) e
pair_refused l d j p x r e f h =
    let check = pair_check d (literal_limit l) (node_by l d j) p in
    refused_line l (kind_by d j) 1 p check r e (two_by d j) x f
    (λ ns says bad. pair_checked l d j p (x ++ (10 ∷ r)) ns e says bad)
    (ap (λ c. heard c 1 p check x) (letter_by d j) ∙ sym (pair_heard d (literal_limit l) (node_by l d j) p x) ∙ h)

-- the line of the bad literal
pub bad_refused : (l : List ℕ) (p : ℕ) (x r : List ℕ) (e : Fault) → Free x → bad_on (literal_limit l) p x ≡ Err e → Refused l bad_line p (x ++ (10 ∷ r)) e
bad_refused l p x r e f h =
    refused_line l bad_line 0 p (bad_check (literal_limit l) p) r e refl x f
    (λ ns says bad.
    let a = get_or ns 0 0 in
    let test = leb a (literal_limit l) in
    ⊎_elim
    (λ (q : (test ≡ true) × (Ok a ≡ Err e)). absurd (err_not e a (sym q.1)))
    (λ (q : (test ≡ false) × (refusal OutOfRange p ≡ e)).
    refused_by l bad_line p OutOfRange (x ++ (10 ∷ r)) e q.1
    (out_of_range refl ns says (λ w. both_ways test q.0 (le-leb a (literal_limit l) w))))
    (demand_err test (refusal OutOfRange p) (Ok a) e bad))
    (sym (bad_heard (literal_limit l) p x) ∙ h)
