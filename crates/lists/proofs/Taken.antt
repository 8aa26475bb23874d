-- The front of a list, and the rest behind it, cut at a limit or at the list's length, whichever comes first. Assumes nothing.
use Rattle.std.proofs.Common.{◌≡◌, ℕ, ◌<◌, ◌≤◌, min, List, ◌++◌, length, get_or, take, drop, sym, refl, ap, ◌∙◌, ⊎_elim, arith, length-take}
use Rattle.std.proofs.lemmas.List.{take_all, take_at, drop_all, take-append-drop, append-nil, get_or_append_left, get_or-append_right}
use Rattle.std.proofs.lemmas.Bool.{cases_lt}

-- a list as long as the limit or shorter is its own front
pub take_min : {X : Type 0} (xs : List X) (n m : ℕ) → m ≡ min (length xs) n → take m xs ≡ take n xs
take_min xs n m is =
    ⊎_elim
    (λ (long : n < length xs). let same : m ≡ n = omega arith in ap (λ (k : ℕ). take k xs) same)
    (λ (short : length xs ≤ n). take_all m xs (omega arith) ∙ sym (take_all n xs short))
    (cases_lt n (length xs))

-- and then nothing lies behind it
pub drop_min : {X : Type 0} (xs : List X) (n m : ℕ) → m ≡ min (length xs) n → drop m xs ≡ drop n xs
drop_min xs n m is =
    ⊎_elim
    (λ (long : n < length xs). let same : m ≡ n = omega arith in ap (λ (k : ℕ). drop k xs) same)
    (λ (short : length xs ≤ n). drop_all m xs (omega arith) ∙ sym (drop_all n xs short))
    (cases_lt n (length xs))

-- ---- xs with ys, which is as long, in place of its front
-- its front is ys
pub take_refronted : {X : Type 0} (ys xs : List X) (n : ℕ) → length ys ≡ length (take n xs) → take n (ys ++ drop n xs) ≡ ys
take_refronted ys xs n same =
    ⊎_elim
    (λ (long : n < length xs). take_at ys (drop n xs) n (omega (arith, length-take n xs)))
    (λ (short : length xs ≤ n).
    ap (λ zs. take n (ys ++ zs)) (drop_all n xs short) ∙ ap (λ zs. take n zs) (append-nil ys) ∙ take_all n ys (omega (arith, length-take n xs)))
    (cases_lt n (length xs))

-- a place that ys has as the front had it is as it was
pub get_d_refronted : {X : Type 0} (ys xs : List X) (n k : ℕ) (d : X) → length ys ≡ length (take n xs) → get_or ys k d ≡ get_or (take n xs) k d →
    get_or (ys ++ drop n xs) k d ≡ get_or xs k d
get_d_refronted ys xs n k d same is =
    let whole = ap (λ zs. get_or zs k d) (take-append-drop n xs) in
    ⊎_elim
    (λ (low : k < length ys).
    get_or_append_left ys (drop n xs) d k low ∙ is ∙ sym (get_or_append_left (take n xs) (drop n xs) d k (omega arith)) ∙ whole)
    (λ (high : length ys ≤ k).
    get_or-append_right ys (drop n xs) (length ys) k d refl high
    ∙ sym (get_or-append_right (take n xs) (drop n xs) (length ys) k d (sym same) high) ∙ whole)
    (cases_lt k (length ys))
