-- What writing answers, and when. Assumes nothing.
use Rattle.std.proofs.Common.{◌≡◌, ℕ, ◌-◌, ◌^◌, ◌<◌, ◌≤◌, min, Bool, true, false, cond, leb, List, [], ◌++◌, length, take, drop, replicate, IfOk, Ok, Err, Result, sym, refl, ap, ◌∙◌, subst, ⊎_elim, arith}
use borrow.Rule.Slice.PartMut.{put_mid, post_of}
use Rattle.std.proofs.lemmas.List.{append_assoc, append-nil, length-append, length-drop, length-take-le, take_at, drop_at, drop_all, take-append-drop}
use Rattle.std.proofs.lemmas.Bool.{cond-true, cond-false, le-leb, lt-leb, leb-false, cases_Bool, cases_lt, both_ways}
use Rattle.lists.specs.Counted.{counted, uncounted}
use Rattle.lists.proofs.Taken.{take_min}
use Rattle.sheet.specs.Faults.{cause_number}
use Rattle.sheet.specs.declared.fault.Cause.{Cause}
use Rattle.sheet.specs.declared.fault.Cause.TheVariants.{ListTooShort, NotLegal}
use Rattle.sheet.specs.declared.fault.Fault.{Fault}
use Rattle.sheet.specs.Sheets.{Legal, size_of}
use Rattle.sheet.specs.Parse.{refusal}
use Rattle.sheet.specs.Render.{well_formed, text_of, placed, rendered, write_text}
use Rattle.sheet.specs.Trip.{Iff, ReadsTo, ReadsBack}
use Rattle.sheet.proofs.Legality.{well_formed_legal, legal_well_formed}
use Rattle.sheet.proofs.Stages.{err_not, ok_same}
use Rattle.sheet.proofs.Trips.{back, read_formed}

-- what writing answers, by whether the list passes the test and whether there is room
abbrev answer : Bool → Bool → ℕ → Result ℕ Fault
answer b c k = cond b (cond c (Ok k) (Err (refusal ListTooShort 0))) (Err (refusal NotLegal 0))

fault_number : Result ℕ Fault → ℕ
fault_number (Ok k) = 0
fault_number (Err e) = cause_number e.cause

other_fault : (a b : Cause) → ◌≡◌ {A = Result ℕ Fault} (Err (refusal a 0)) (Err (refusal b 0)) → cause_number a ≡ cause_number b
unfolding fault_number
other_fault a b h = ap fault_number h

first_of : (b c : Bool) (x y z : Result ℕ Fault × List ℕ) → (cond b (cond c x y) z).0 ≡ cond b (cond c x.0 y.0) z.0
first_of true true x y z = refl
first_of true false x y z = refl
first_of false c x y z = refl

answer_is : (l old t : List ℕ) (r : Result ℕ Fault) → (r, t) ≡ write_text l old → r ≡ answer (well_formed (counted l)) (leb (length (text_of (counted l))) (length (counted old))) (length (text_of (counted l)))
answer_is l old t r h =
    let c = counted l in
    let o = counted old in
    ap (λ (q : Result ℕ Fault × List ℕ). q.0) h
    ∙ first_of (well_formed c) (leb (length (text_of c)) (length o)) _ _ _

answer_refused : (b c : Bool) (k : ℕ) → answer b c k ≡ Err (refusal NotLegal 0) → b ≡ false
answer_refused true true k h = absurd (err_not (refusal NotLegal 0) k (sym h))
answer_refused true false k h = absurd (omega (arith, other_fault ListTooShort NotLegal h))
answer_refused false c k h = refl

answer_short : (b c : Bool) (k : ℕ) → answer b c k ≡ Err (refusal ListTooShort 0) → (b ≡ true) × (c ≡ false)
answer_short true true k h = absurd (err_not (refusal ListTooShort 0) k (sym h))
answer_short true false k h = (refl, refl)
answer_short false c k h = absurd (omega (arith, other_fault NotLegal ListTooShort h))

answer_ok : (b c : Bool) (k n : ℕ) → Ok n ≡ answer b c k → (b ≡ true) × (c ≡ true) × (n ≡ k)
answer_ok true true k n h = (refl, refl, ok_same n k h)
answer_ok true false k n h = absurd (err_not (refusal ListTooShort 0) n (sym h))
answer_ok false c k n h = absurd (err_not (refusal NotLegal 0) n (sym h))

take_front : (w z rest t : List ℕ) (n : ℕ) → n ≡ length w → t ≡ (w ++ z) ++ rest → take n t ≡ w
take_front w z rest t n long is = ap (take n) (is ∙ append_assoc w z rest) ∙ take_at w (z ++ rest) n (sym long)

-- what was written is read back
pub written_back : (l old t : List ℕ) (r : Result ℕ Fault) → (r, t) ≡ write_text l old → IfOk r (λ n. ReadsBack l (take n t))
written_back l old t (Err e) h = tt
written_back l old t (Ok n) h =
    let c = counted l in
    let o = counted old in
    let w = text_of c in
    let p = answer_ok (well_formed c) (leb (length w) (length o)) (length w) n (answer_is l old t (Ok n) h) in
    let is : rendered c o ≡ (Ok (length w), w ++ replicate (length o - length w) 0) = cond-true _ _ _ p.0 ∙ cond-true _ _ _ p.1 in
    let text = take_front w (replicate (length o - length w) 0) (uncounted old) t n p.2 (ap (λ (q : Result ℕ Fault × List ℕ). q.1) h ∙ ap (λ (q : Result ℕ Fault × List ℕ). q.1 ++ uncounted old) is) in
    subst (ReadsBack l) (sym text) (back l p.0)

-- a list is refused exactly if no text reads to it
pub refused_unread : (l old t : List ℕ) (r : Result ℕ Fault) → (r, t) ≡ write_text l old → Iff (r ≡ Err (refusal NotLegal 0)) ((s : List ℕ) → ReadsTo s l → ⊥)
refused_unread l old t r h =
    let c = counted l in
    let room = leb (length (text_of c)) (length (counted old)) in
    let is = answer_is l old t r h in (
      λ e s reads.
          let f = read_formed s reads.0 l (size_of l) (sym reads.3) in
          both_ways (well_formed c) (answer_refused (well_formed c) room (length (text_of c)) (sym is ∙ e)) f.formed,
      λ none.
          ⊎_elim (λ b. absurd (none (text_of c) (l, refl, refl, back l b l refl refl))) (λ b. is ∙ cond-false _ _ _ b) (cases_Bool (well_formed c)),
    )

-- the text is too short exactly if the list is legal and its text is longer
pub short_room : (l old t : List ℕ) (r : Result ℕ Fault) → (r, t) ≡ write_text l old → Iff (r ≡ Err (refusal ListTooShort 0)) (Legal (counted l) × (length (counted old) < length (text_of (counted l))))
short_room l old t r h =
    let c = counted l in
    let w = length (text_of c) in
    let o = length (counted old) in
    let is = answer_is l old t r h in (
      λ e.
          let p = answer_short (well_formed c) (leb w o) w (sym is ∙ e) in (well_formed_legal c p.0, leb-false w o p.1),
      λ p. is ∙ cond-true _ _ _ (legal_well_formed c p.0) ∙ cond-false _ _ _ (lt-leb w o p.1),
    )

-- a refused list leaves the text
pub writes_nothing : (l old : List ℕ) → well_formed (counted l) ≡ false → (Err (refusal NotLegal 0), old) ≡ write_text l old
writes_nothing l old h =
    let is : rendered (counted l) (counted old) ≡ (Err (refusal NotLegal 0), counted old) = cond-false _ _ _ h in
    sym (ap (λ (q : Result ℕ Fault × List ℕ). (q.0, q.1 ++ uncounted old)) is ∙ ap (λ r. (Err (refusal NotLegal 0), r)) (take-append-drop (2 ^ 28) old))

drop_min : (xs : List ℕ) (n m : ℕ) → m ≡ min (length xs) n → drop m xs ≡ drop n xs
drop_min xs n m is =
    ⊎_elim
    (λ (long : n < length xs). let same : m ≡ n = omega arith in ap (λ (k : ℕ). drop k xs) same)
    (λ (short : length xs ≤ n). drop_all m xs (omega arith) ∙ sym (drop_all n xs short))
    (cases_lt n (length xs))

-- a text that was made elsewhere, and put into what counts
pub writes_whole : (l old : List ℕ) (len : ℕ) (c bytes : List ℕ) (r : Result ℕ Fault) (t : List ℕ) → c ≡ counted l → true ≡ well_formed c → bytes ≡ text_of c → len ≡ min (length old) (2 ^ 28) → (r, t) ≡ placed bytes (take (len - 0) old) → (r, t ++ post_of 0 (len - 0) old) ≡ write_text l old
writes_whole l old len c bytes r t is formed text cut put =
    let front : take (len - 0) old ≡ counted old = take_min old (2 ^ 28) (len - 0) (omega arith) in
    let rest : drop (len - 0) old ≡ uncounted old = drop_min old (2 ^ 28) (len - 0) (omega arith) in
    let whole : bytes ≡ text_of (counted l) = text ∙ ap text_of is in
    let done : (r, t) ≡ rendered (counted l) (counted old) = put ∙ (λ i. placed (whole i) (front i)) ∙ sym (cond-true _ _ _ (sym (formed ∙ ap well_formed is))) in
    (λ i. ((done i).0, (done i).1 ++ rest i))

placed_is : (b old p q none : List ℕ) → length b ≤ length old → p ≡ b → q ≡ replicate (length old - length b) 0 → none ≡ [] → (Ok (length b), p ++ (q ++ none)) ≡ placed b old
placed_is b old p q none fits e f g =
    let zeros : List ℕ = replicate (length old - length b) 0 in
    let is : p ++ (q ++ none) ≡ b ++ zeros = (λ i. e i ++ (f i ++ g i)) ∙ ap (λ s. b ++ s) (append-nil zeros) in
    ap (λ s. (Ok (length b), s)) is ∙ sym (cond-true _ _ _ (le-leb (length b) (length old) fits))

-- a text copied to the front of lent bytes, and zeros filled in behind it
pub placed_whole : (b old part xs zs : List ℕ) (k : ℕ) → length b ≤ length old → part ≡ b → xs ≡ part ++ drop (length b - 0) old → k ≡ length xs - length b → zs ≡ replicate (length (take k (drop (length b) xs))) 0 → (Ok (length b), put_mid (length b) k xs zs) ≡ placed b old
placed_whole b old part xs zs k fits copied front count filled =
    let rest = drop (length b - 0) old in
    let is : xs ≡ b ++ rest = front ∙ ap (λ p. p ++ rest) copied in
    let long = ap length is ∙ length-append b rest in
    let left = length-drop (length b - 0) old in
    let behind : drop (length b) xs ≡ rest = ap (drop (length b)) is ∙ drop_at b rest (length b) refl in
    let taken = length-take-le k (drop (length b) xs) (omega (arith, ap length behind)) in
    let zeros : zs ≡ replicate (length old - length b) 0 = filled ∙ ap (λ n. replicate n 0) (taken ∙ omega arith) in
    let none : drop k (drop (length b) xs) ≡ [] = drop_all k (drop (length b) xs) (omega (arith, ap length behind)) in
    let first : take (length b) xs ≡ b = ap (take (length b)) is ∙ take_at b rest (length b) refl in
    placed_is b old (take (length b) xs) zs (drop k (drop (length b) xs)) fits first zeros none
