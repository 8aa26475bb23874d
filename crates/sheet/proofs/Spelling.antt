-- A number and its digits: each gives the other. Assumes nothing.
use Rattle.std.proofs.Common.{◌≡◌, ℕ, ◌+◌, ◌-◌, ◌*◌, ◌/◌, ◌%◌, ◌<◌, ◌≤◌, true, ◌&&◌, leb, List, [], ◌∷◌, length, Some, sym, ap, ◌∙◌, subst, ⊎_elim, arith}
use native.Mathlib.Nat.{div-div-eq-div-mul}
use Rattle.std.proofs.lemmas.Bool.{cond-true, cond-false, lt-ltb, le-ltb, le-leb, leb-true, and_from, and_parts, cases_lt}
use Rattle.sheet.specs.Parts.{digit_from, spelled}
use Rattle.sheet.specs.Render.{digits}
use Rattle.sheet.proofs.Stages.{none_not, some_cond}

pub digits_one : (n : ℕ) → n < 10 → digits n ≡ (48 + n % 10) ∷ []
digits_one n h = cond-true _ _ _ (lt-ltb n 10 h)

pub digits_two : (n : ℕ) → 10 ≤ n → n < 100 → digits n ≡ (48 + n / 10 % 10) ∷ (48 + n % 10) ∷ []
digits_two n h k = cond-false _ _ _ (le-ltb n 10 h) ∙ cond-true _ _ _ (lt-ltb n 100 k)

pub digits_three : (n : ℕ) → 100 ≤ n → digits n ≡ (48 + n / 100 % 10) ∷ (48 + n / 10 % 10) ∷ (48 + n % 10) ∷ []
digits_three n h = cond-false _ _ _ (le-ltb n 10 (omega arith)) ∙ cond-false _ _ _ (le-ltb n 100 h)

by_digits : (P : List ℕ → Type 0) (n : ℕ) → (n < 10 → P ((48 + n % 10) ∷ [])) → (10 ≤ n → n < 100 → P ((48 + n / 10 % 10) ∷ (48 + n % 10) ∷ [])) → (100 ≤ n → P ((48 + n / 100 % 10) ∷ (48 + n / 10 % 10) ∷ (48 + n % 10) ∷ [])) → P (digits n)
by_digits P n f g h =
    ⊎_elim (λ a. subst P (sym (digits_one n a)) (f a))
    (λ a. ⊎_elim (λ b. subst P (sym (digits_two n a b)) (g a b)) (λ b. subst P (sym (digits_three n b)) (h b)) (cases_lt n 100))
    (cases_lt n 10)

pub digits_few : (n : ℕ) → length (digits n) ≤ 3
digits_few n = by_digits (λ s. length s ≤ 3) n (λ _. omega arith) (λ _ _. omega arith) (λ _. omega arith)

-- byte c stands nowhere in a text
abbrev pub Clear : ℕ → List ℕ → Type 0
Clear c [] = Unit {0}
Clear c (x ∷ s) = (x ≡ c → ⊥) × Clear c s

pub digits_clear : (c n : ℕ) → c < 48 → Clear c (digits n)
digits_clear c n h =
    by_digits (Clear c) n
    (λ _. (λ e. omega arith, tt))
    (λ _ _. (λ e. omega arith, (λ e. omega arith, tt)))
    (λ _. (λ e. omega arith, (λ e. omega arith, (λ e. omega arith, tt))))

digit : (low b : ℕ) → low ≤ b → b ≤ 57 → digit_from low b ≡ true
digit low b h k = and_from _ _ (le-leb _ _ h) (le-leb _ _ k)

pub spelled_digits : (n : ℕ) → n < 1000 → spelled (digits n) ≡ Some n
spelled_digits n h =
    let twice : n / 10 / 10 ≡ n / 100 = div-div-eq-div-mul n 10 10 in
    let hundreds : n / 100 % 10 ≡ n / 100 = omega arith in
    let tens : 10 * (n / 100) + n / 10 % 10 ≡ n / 10 = omega arith in
    by_digits (λ s. spelled s ≡ Some n) n
    (λ a. cond-true _ _ _ (digit 48 (48 + n % 10) (omega arith) (omega arith)) ∙ ap Some (omega arith))
    (λ a b. cond-true _ _ _ (and_from _ _ (digit 49 (48 + n / 10 % 10) (omega arith) (omega arith)) (digit 48 (48 + n % 10) (omega arith) (omega arith))) ∙ ap Some (omega arith))
    (λ a. cond-true _ _ _ (and_from _ _ (digit 49 (48 + n / 100 % 10) (omega arith) (omega arith)) (and_from _ _ (digit 48 (48 + n / 10 % 10) (omega arith) (omega arith)) (digit 48 (48 + n % 10) (omega arith) (omega arith)))) ∙ ap Some (omega arith))

digit_inv : (low b : ℕ) → digit_from low b ≡ true → (low ≤ b) × (b ≤ 57)
digit_inv low b h = let p = and_parts (leb low b) (leb b 57) h in (leb-true _ _ p.0, leb-true _ _ p.1)

-- what spells a number is its digits
pub record Spelled (s : List ℕ) (n : ℕ) : Type 0 where
  pub is : digits n ≡ s
  pub some : 0 < length s
  pub small : n ≤ 999

pub spelled_inv : (s : List ℕ) (n : ℕ) → spelled s ≡ Some n → Spelled s n
spelled_inv [] n h = absurd (none_not n h)
spelled_inv (a ∷ []) n h =
    let p = some_cond (digit_from 48 a) n (a - 48) (sym h) in
    let d = digit_inv 48 a p.0 in
    let v = p.1 in
    let one : 48 + n % 10 ≡ a = omega arith in
    record { is = digits_one n (omega arith) ∙ ap (λ x. x ∷ []) one; some = omega arith; small = omega arith }
spelled_inv (a ∷ b ∷ []) n h =
    let p = some_cond (digit_from 49 a && digit_from 48 b) n ((a - 48) * 10 + (b - 48)) (sym h) in
    let q = and_parts (digit_from 49 a) (digit_from 48 b) p.0 in
    let d = digit_inv 49 a q.0 in
    let e = digit_inv 48 b q.1 in
    let v = p.1 in
    let ten : 48 + n / 10 % 10 ≡ a = omega arith in
    let one : 48 + n % 10 ≡ b = omega arith in
    record { is = digits_two n (omega arith) (omega arith) ∙ (λ i. ten i ∷ one i ∷ []); some = omega arith; small = omega arith }
spelled_inv (a ∷ b ∷ c ∷ []) n h =
    let p = some_cond (digit_from 49 a && (digit_from 48 b && digit_from 48 c)) n ((a - 48) * 100 + (b - 48) * 10 + (c - 48)) (sym h) in
    let q = and_parts (digit_from 49 a) (digit_from 48 b && digit_from 48 c) p.0 in
    let r = and_parts (digit_from 48 b) (digit_from 48 c) q.1 in
    let d = digit_inv 49 a q.0 in
    let e = digit_inv 48 b r.0 in
    let f = digit_inv 48 c r.1 in
    let v = p.1 in
    let tens : n / 10 ≡ (a - 48) * 10 + (b - 48) = omega arith in
    let hundreds : n / 100 ≡ a - 48 = omega arith in
    let hundred : 48 + n / 100 % 10 ≡ a = omega arith in
    let ten : 48 + n / 10 % 10 ≡ b = omega arith in
    let one : 48 + n % 10 ≡ c = omega arith in
    record { is = digits_three n (omega arith) ∙ (λ i. hundred i ∷ ten i ∷ one i ∷ []); some = omega arith; small = omega arith }
spelled_inv (a ∷ b ∷ c ∷ d ∷ s) n h = absurd (none_not n h)
