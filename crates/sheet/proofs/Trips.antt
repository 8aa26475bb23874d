-- Reading and writing undo each other. Assumes nothing.
use Rattle.std.proofs.Common.{◌≡◌, ℕ, ◌+◌, ◌-◌, ◌*◌, ◌^◌, ◌<◌, ◌≤◌, true, eqb, leb, List, [], ◌∷◌, ◌++◌, length, take, drop, replicate, Ok, Err, Result, sym, refl, ap, ◌∙◌, subst, ⊎_elim, arith, lit<}
use Rattle.std.proofs.lemmas.List.{append-nil, length-append, length-take, length-drop, length-take-le, length-replicate, take_all, take_at, drop_all, take-append-drop, get_or-take}
use Rattle.std.proofs.lemmas.Bool.{cond-true, cond-false, le-leb, leb-true, eqb-true, and_parts, cases_Bool, cases_lt}
use Rattle.lists.specs.Counted.{counted, uncounted, on_counted}
use Rattle.sheet.specs.declared.fault.Cause.TheVariants.{ListTooShort}
use Rattle.sheet.specs.declared.fault.Fault.{Fault}
use Rattle.sheet.specs.Sheets.{size_of, input_count, latch_count, gate_count}
use Rattle.sheet.specs.Parse.{parse, stored, read_text, refusal}
use Rattle.sheet.specs.Render.{all_zero, well_formed, text_of, placed, rendered}
use Rattle.sheet.specs.Trip.{ReadsBack, WritesBack, AcceptsLegalSheets}
use Rattle.sheet.proofs.Legality.{fits_parts, well_formed_legal, legal_well_formed}
use Rattle.sheet.proofs.Stages.{err_not}
use Rattle.sheet.proofs.There.{there}
use Rattle.sheet.proofs.Again.{again}

pub accepts : AcceptsLegalSheets
accepts t l = (
  λ h.
      let r = again t l 0 h in
      let same = append-nil l in
      (well_formed_legal l (subst (λ k. well_formed k ≡ true) same r.formed), r.long, sym r.text ∙ ap text_of same),
  λ h.
      let long = h.1 in
      ap parse h.2 ∙ there l (legal_well_formed l h.0) ∙ ap Ok (take_all (size_of l) l (omega arith)),
)

-- what counts of a list says as many latches and gates
size_counted : (l : List ℕ) → size_of (counted l) ≡ size_of l
size_counted l =
    let n = get_or-take (2 ^ 28) l 1 0 (lit< tt) in
    let m = get_or-take (2 ^ 28) l 2 0 (lit< tt) in
    (λ i. 4 + 2 * (n i + m i))

zeros_are : (s : List ℕ) → all_zero s ≡ true → s ≡ replicate (length s) 0
zeros_are [] h = refl
zeros_are (x ∷ s) h =
    let parts = and_parts (eqb x 0) _ h in
    (λ i. eqb-true x 0 parts.0 i ∷ zeros_are s parts.1 i)

-- the front of a list, stored where the rest was zeros
stored_back : (k : ℕ) (l old : List ℕ) → k ≤ length l → length old ≡ length l → all_zero (drop k l) ≡ true → ◌≡◌ {A = Result ℕ Fault × List ℕ} (stored (Ok (take k l)) old) (Ok k, l)
stored_back k l old h e z =
    let long = length-take-le k l h in
    let rest : drop k l ≡ replicate (length l - k) 0 = zeros_are (drop k l) z ∙ ap (λ n. replicate n 0) (length-drop k l) in
    let fits : length (take k l) ≤ length old = omega arith in
    let count : length old - length (take k l) ≡ length l - k = omega arith in
    let whole : take k l ++ replicate (length old - length (take k l)) 0 ≡ l = ap (λ n. take k l ++ replicate n 0) count ∙ ap (λ s. take k l ++ s) (sym rest) ∙ take-append-drop k l in
    cond-true _ _ _ (le-leb _ _ fits) ∙ (λ i. (Ok (long i), whole i))

-- a result at what counts, and the rest behind it
joined_rest : (q : Result ℕ Fault × List ℕ) (k : ℕ) (c rest : List ℕ) (n : ℕ) {l : List ℕ} → q ≡ (Ok k, c) → k ≡ n → c ++ rest ≡ l → ◌≡◌ {A = Result ℕ Fault × List ℕ} (q.0, q.1 ++ rest) (Ok n, l)
joined_rest q k c rest n is count all =
    ap (λ (q : Result ℕ Fault × List ℕ). (q.0, q.1 ++ rest)) is ∙ (λ i. (Ok (count i), all i))

-- a list that passes the test has a text that reads back to it
pub back : (l : List ℕ) → well_formed (counted l) ≡ true → ReadsBack l (text_of (counted l))
back l h old e u =
    let c = counted l in
    let o = counted old in
    let f = fits_parts (input_count c) (latch_count c) (gate_count c) c h in
    let lc = length-take (2 ^ 28) l in
    let lo = length-take (2 ^ 28) old in
    let same : length o ≡ length c = omega arith in
    let is : ◌≡◌ {A = Result ℕ Fault × List ℕ} (stored (parse (text_of c)) o) (Ok (size_of c), c) =
    ap (λ r. stored r o) (there c h) ∙ stored_back (size_of c) c o f.whole same f.zeros in
    joined_rest _ _ c _ _ is (size_counted l) (ap (λ r. c ++ r) u ∙ take-append-drop (2 ^ 28) l)

-- a front as long as what counts, before what does not
counted_front : (w old : List ℕ) → length w ≡ length (counted old) → counted (w ++ uncounted old) ≡ w
counted_front w old e =
    let lo = length-take (2 ^ 28) old in
    ⊎_elim
    (λ (short : length old < 2 ^ 28).
    let none : uncounted old ≡ [] = drop_all (2 ^ 28) old (omega arith) in
    ap (λ r. counted (w ++ r)) none ∙ ap counted (append-nil w) ∙ take_all (2 ^ 28) w (omega arith))
    (λ (long : 2 ^ 28 ≤ length old). take_at w (uncounted old) (2 ^ 28) (omega arith))
    (cases_lt (length old) (2 ^ 28))

-- what reading stored: a list that was parsed, and zeros
record Stored (t l : List ℕ) : Type 0 where
  list : List ℕ
  room : ℕ
  parsed : parse t ≡ Ok list
  is : counted l ≡ list ++ replicate room 0

stored_from : (t : List ℕ) (q : Result (List ℕ) Fault) (old l : List ℕ) (k : ℕ) → parse t ≡ q → ◌≡◌ {A = Result ℕ Fault × List ℕ} (Ok k, l) (on_counted (stored q) old) → Stored t l
stored_from t (Err e) old l k h s =
    absurd (err_not e k (sym (ap (λ (q : Result ℕ Fault × List ℕ). q.0) s)))
stored_from t (Ok xs) old l k h s =
    let o = counted old in
    let z = length o - length xs in
    let P : Result ℕ Fault × List ℕ → Type 0 = λ q. ◌≡◌ {A = Result ℕ Fault × List ℕ} (Ok k, l) (q.0, q.1 ++ uncounted old) in
    ⊎_elim
    (λ b.
    let fits = leb-true (length xs) (length o) b in
    let is = subst P (cond-true _ _ _ b) s in
    let lz = length-append xs (replicate z 0) in
    let lr = length-replicate {A = ℕ} z 0 in
    let front = counted_front (xs ++ replicate z 0) old (omega arith) in
    record { list = xs; room = z; parsed = h; is = ap (λ (q : Result ℕ Fault × List ℕ). counted q.1) is ∙ front })
    (λ b. absurd (err_not (refusal ListTooShort 0) k (sym (ap (λ (q : Result ℕ Fault × List ℕ). q.0) (subst P (cond-false _ _ _ b) s)))))
    (cases_Bool (leb (length xs) (length o)))

-- what reading left passes the test, and its text is the one that was read
pub record Formed (t l : List ℕ) : Type 0 where
  pub formed : well_formed (counted l) ≡ true
  pub text : text_of (counted l) ≡ t

pub read_formed : (t old l : List ℕ) (k : ℕ) → ◌≡◌ {A = Result ℕ Fault × List ℕ} (Ok k, l) (read_text t old) → Formed t l
read_formed t old l k h =
    let s = stored_from t (parse t) old l k refl h in
    let r = again t s.list s.room s.parsed in
    record { formed = ap well_formed s.is ∙ r.formed; text = ap text_of s.is ∙ r.text }

pub read_again : (t old l : List ℕ) (k : ℕ) → ◌≡◌ {A = Result ℕ Fault × List ℕ} (Ok k, l) (read_text t old) → WritesBack t l
read_again t old l k h out =
    let f = read_formed t old l k h in
    let is : rendered (counted l) (counted out) ≡ placed t (counted out) = cond-true _ _ _ f.formed ∙ ap (λ s. placed s (counted out)) f.text in
    ap (λ (q : Result ℕ Fault × List ℕ). (q.0, q.1 ++ uncounted out)) is
