-- What the calls on single lists answer. Assumes nothing.
use Rattle.std.proofs.Common.{◌≡◌, ℕ, ◌+◌, ◌-◌, ◌*◌, ◌^◌, ◌<◌, ◌≤◌, min, List, ◌++◌, length, take, drop, replicate, sym, ap, ◌∙◌, ⊎_elim, arith, length-drop, length-take}
use borrow.Rule.Slice.PartMut.{put_mid}
use Rattle.std.proofs.lemmas.List.{append_assoc, take_all, take-take, drop-drop}
use Rattle.std.proofs.lemmas.Bool.{cases_lt}
use Rattle.lists.specs.Counted.{counted, uncounted}
use Rattle.lists.proofs.Taken.{take_min, drop_min}
use Rattle.checker.specs.Lists.{restored}

-- the front that two cuts leave
take_twice : (xs : List ℕ) (a b m : ℕ) → m ≡ min a (min (length xs) b) → take m xs ≡ take a (take b xs)
take_twice xs a b m is =
    ⊎_elim
    (λ (l : a < b). take_min xs a m (omega arith) ∙ sym (take-take a b xs (omega arith)))
    (λ (l : b ≤ a). take_min xs b m (omega arith) ∙ sym (take_all a (take b xs) (omega (arith, length-take b xs))))
    (cases_lt a b)

-- zeros from a place on, as far as places count
pub restored_by : (f zeros : List ℕ) (n len from : ℕ) → len ≡ min (length f) (2 ^ 28) → from ≡ min (2 * n) len
    → zeros ≡ replicate (length (take (len - from) (drop from f))) 0 → put_mid from (len - from) f zeros ≡ restored n f
restored_by f zeros n len from cut is filled =
    let front : take from f ≡ take (2 * n) (counted f) = take_twice f (2 * n) (2 ^ 28) from (omega arith) in
    let long : length (take (len - from) (drop from f)) ≡ length (counted f) - 2 * n = omega (arith, length-take (len - from) (drop from f), length-drop from f, length-take (2 ^ 28) f) in
    let zero : zeros ≡ replicate (length (counted f) - 2 * n) 0 = filled ∙ ap (λ (k : ℕ). replicate k 0) long in
    let whole : from + (len - from) ≡ len = omega arith in
    let rest : drop (len - from) (drop from f) ≡ uncounted f = drop-drop (len - from) from f ∙ ap (λ (k : ℕ). drop k f) whole ∙ drop_min f (2 ^ 28) len cut in
    (λ i. front i ++ (zero i ++ rest i))
    ∙ sym (append_assoc (take (2 * n) (counted f)) (replicate (length (counted f) - 2 * n) 0) (uncounted f))
