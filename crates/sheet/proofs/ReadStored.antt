-- What reading leaves in a lent list, of which k places count. Assumes nothing.
use Rattle.std.proofs.Common.{◌≡◌, ℕ, ◌-◌, ◌^◌, ◌<◌, ◌≤◌, min, List, ◌++◌, length, take, drop, replicate, Ok, Err, Result, sym, ap, ◌∙◌, ⊎_elim, arith}
use Rattle.std.proofs.lemmas.List.{take-append-drop, length-take, length-take-le, drop_all}
use Rattle.std.proofs.lemmas.Bool.{cond-true, cond-false, le-leb, lt-leb, cases_lt}
use Rattle.lists.specs.Counted.{counted, uncounted, on_counted}
use Rattle.sheet.specs.declared.fault.Cause.TheVariants.{ListTooShort}
use Rattle.sheet.specs.declared.fault.Fault.{Fault}
use Rattle.sheet.specs.Parse.{parse, refusal, stored, read_text}

-- what a call returns, and what it leaves
abbrev leaves : Result ℕ Fault → List ℕ → Result ℕ Fault × List ℕ
leaves r l = (r, l)

-- a list as long as the limit or shorter has nothing behind it
drop_min : (xs : List ℕ) (n m : ℕ) → m ≡ min (length xs) n → drop m xs ≡ drop n xs
drop_min xs n m is =
    ⊎_elim
    (λ (long : n < length xs). let same : m ≡ n = omega arith in ap (λ (k : ℕ). drop k xs) same)
    (λ (short : length xs ≤ n). drop_all m xs (omega arith) ∙ sym (drop_all n xs short))
    (cases_lt n (length xs))

-- a refusal of any kind leaves the list
kept : (old : List ℕ) (e : Fault) → leaves (Err e) old ≡ leaves (Err e) (counted old ++ uncounted old)
kept old e = ap (leaves (Err e)) (sym (take-append-drop (2 ^ 28) old))

pub read_refused : (t old : List ℕ) (e : Fault) → Err e ≡ parse t → (Err e, old) ≡ read_text t old
read_refused t old e is = kept old e ∙ ap (λ r. on_counted (stored r) old) is

-- of the list that was read to the one that reading leaves
onward : (t old new : List ℕ) (p : Result ℕ Fault × List ℕ) → Ok new ≡ parse t → p ≡ stored (Ok new) (counted old) → leaves p.0 (p.1 ++ uncounted old) ≡ read_text t old
onward t old new p is gives = ap (λ q. leaves q.0 (q.1 ++ uncounted old)) gives ∙ ap (λ r. on_counted (stored r) old) is

length_counted : (old : List ℕ) (k : ℕ) → k ≡ min (length old) (2 ^ 28) → length (counted old) ≡ k
length_counted old k cut = omega (arith, length-take (2 ^ 28) old)

pub read_short : (t old whole : List ℕ) (k n : ℕ) → Ok whole ≡ parse t → n ≡ length whole → k ≡ min (length old) (2 ^ 28) → k < n → (Err (refusal ListTooShort 0), old) ≡ read_text t old
read_short t old whole k n is size cut short =
    let most = length_counted old k cut in
    kept old (refusal ListTooShort 0)
    ∙ onward t old whole (Err (refusal ListTooShort 0), counted old) is (sym (cond-false _ _ _ (lt-leb (length whole) (length (counted old)) (omega arith))))

-- `new` is what was stored in the places that count
pub read_stored : (t old whole new : List ℕ) (k n : ℕ) → Ok whole ≡ parse t → n ≡ length whole → k ≡ min (length old) (2 ^ 28) → n ≤ k → new ≡ whole ++ replicate (length (take (k - 0) old) - length whole) 0 → (Ok n, new ++ drop (k - 0) old) ≡ read_text t old
read_stored t old whole new k n is size cut wide made =
    let most = length_counted old k cut in
    let part = length-take-le (k - 0) old (omega arith) in
    let zeros : length (take (k - 0) old) - length whole ≡ length (counted old) - length whole = omega arith in
    let same : new ≡ whole ++ replicate (length (counted old) - length whole) 0 = made ∙ ap (λ m. whole ++ replicate m 0) zeros in
    let fits : leaves (Ok n) new ≡ stored (Ok whole) (counted old) =
    ap (λ m. leaves (Ok m) new) size ∙ ap (leaves (Ok (length whole))) same ∙ sym (cond-true _ _ _ (le-leb (length whole) (length (counted old)) (omega arith))) in
    ap (λ l. leaves (Ok n) (new ++ l)) (drop_min old (2 ^ 28) (k - 0) (omega arith))
    ∙ onward t old whole (Ok n, new) is fits
