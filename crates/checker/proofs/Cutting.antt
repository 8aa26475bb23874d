-- Cut lists: the used part of a question, and the front of a formula list. Assumes nothing.
use Rattle.std.proofs.Common.{◌≡◌, ℕ, ◌*◌, ◌^◌, ◌<◌, ◌≤◌, Bool, true, false, ◌&&◌, leb, List, length, take, IfSome, Option, sym, refl, ap, ◌∙◌, arith, length-take}
use Rattle.std.proofs.lemmas.List.{take_all, take-take, get_or-take}
use Rattle.std.proofs.lemmas.Bool.{cond_both, and_parts, leb-true}
use Rattle.lists.specs.Counted.{counted}
use Rattle.formula.proofs.Valued.{SamePairs}
use Rattle.question.specs.Layout.{all_below, posed, posed_if}
use Rattle.question.specs.Questions.{variable_count}
use Rattle.checker.specs.Lists.{used_part}

pub few_counted : (xs : List ℕ) → length (counted xs) ≤ 2 ^ 28
few_counted xs = omega (arith, length-take (2 ^ 28) xs)

pub counted_few : (xs : List ℕ) → length xs ≤ 2 ^ 28 → counted xs ≡ xs
counted_few xs few = take_all (2 ^ 28) xs few

-- the used part, where it is not longer than what counts
pub used_is : (n : ℕ) (q : List ℕ) → n ≤ 2 ^ 28 → counted (used_part n q) ≡ take n q
used_is n q few =
    let front : used_part n q ≡ take n q = take-take n (2 ^ 28) q few in
    ap counted front ∙ counted_few (take n q) (omega (arith, length-take n q))

pub used_variables : (n : ℕ) (q : List ℕ) → 0 < n → n ≤ 2 ^ 28 → variable_count (counted q) ≡ variable_count (counted (used_part n q))
used_variables n q some few =
    get_or-take (2 ^ 28) q 0 0 (omega arith) ∙ sym (get_or-take n q 0 0 some) ∙ ap variable_count (sym (used_is n q few))

-- ---- a question that was posed has its own length, and counts
abbrev Sized : List ℕ → Option ℕ → Type 0
Sized q o = IfSome o (λ m. (m ≡ length q) × (m ≤ 2 ^ 28))

front_sized : (q front : List ℕ) → length front ≤ 2 ^ 28 → Sized q (posed q front).0
front_sized q front few =
    cond_both (leb (length q) (length front) && all_below (2 ^ 32) q) _ _ (λ (p : Option ℕ × List ℕ). Sized q p.0)
    (λ e. (refl, omega (arith, leb-true (length q) (length front) (and_parts (leb (length q) (length front)) (all_below (2 ^ 32) q) e).0)))
    (λ _. tt)

pub posed_sized : (b : Bool) (q old : List ℕ) → Sized q (posed_if b q old).0
posed_sized true q old = front_sized q (counted old) (few_counted old)
posed_sized false q old = tt

-- ---- the front of a formula list has the gates that lie in it
pub front_pairs : (f : List ℕ) (n : ℕ) → 2 * n ≤ length (counted f) → SamePairs f (counted f) n
front_pairs f n room k h = get_or-take (2 ^ 28) f k 0 (omega (arith, few_counted f))
