-- The tests of a list, pair by pair and place by place. Assumes nothing.
use Rattle.std.proofs.Common.{◌≡◌, ℕ, zero, suc, ◌+◌, ◌-◌, ◌*◌, ◌<◌, ◌≤◌, Bool, true, false, ◌&&◌, List, length, get_or, drop, sym, ap, ◌∙◌, arith}
use Rattle.std.proofs.lemmas.List.{get_or-drop, drop-drop}
use Rattle.std.proofs.lemmas.Bool.{le-leb, and_from}
use Rattle.sheet.specs.declared.line.Due.{Due}
use Rattle.sheet.specs.declared.line.Due.TheVariants.{OfLatch, OfGate}
use Rattle.sheet.specs.Sheets.{most_literal, bad_of}
use Rattle.sheet.specs.Render.{pairs_fit, all_zero, fits}
use Rattle.sheet.proofs.Legality.{pair_fits}

-- the next of n pairs, which lie in a list from k on
pairs_fit_more : (n : ℕ) (d : Due) (most own k : ℕ) (l : List ℕ) → 0 < n → pairs_fit n d most own (drop k l) ≡ (pair_fits d most own (get_or l k 0) (get_or l (k + 1) 0) && pairs_fit (n - 1) d most (own + 1) (drop (k + 2) l))
pairs_fit_more zero d most own k l h = absurd (omega arith)
pairs_fit_more (suc n) d most own k l h =
    let less : suc n - 1 ≡ n = omega arith in
    let first = get_or-drop k l 0 0 in
    let here : k + 0 ≡ k = omega arith in
    let second = get_or-drop k l 1 0 in
    let rest = drop-drop 2 k l in
    cc

pub pair_fits_lem : (n : ℕ) (d : Due) (most own k : ℕ) (l : List ℕ) → 0 < n → true ≡ pair_fits d most own (get_or l k 0) (get_or l (k + 1) 0) → pairs_fit n d most own (drop k l) ≡ pairs_fit (n - 1) d most (own + 1) (drop (k + 2) l)
pair_fits_lem n d most own k l h fit =
    pairs_fit_more n d most own k l h ∙ ap (λ t. t && pairs_fit (n - 1) d most (own + 1) (drop (k + 2) l)) (sym fit)

pub pair_not : (n : ℕ) (d : Due) (most own k : ℕ) (l : List ℕ) → 0 < n → false ≡ pair_fits d most own (get_or l k 0) (get_or l (k + 1) 0) → pairs_fit n d most own (drop k l) ≡ false
pair_not n d most own k l h no-fit =
    pairs_fit_more n d most own k l h ∙ ap (λ t. t && pairs_fit (n - 1) d most (own + 1) (drop (k + 2) l)) (sym no-fit)

-- where all tests but the last hold, the last gives the answer
passes : (x y : Bool) → x ≡ true → (x && y) ≡ y
passes x y h = ap (λ (x : Bool). x && y) h

pub fits_last : (i n m : ℕ) (l : List ℕ) → i ≤ 24 → 1 ≤ n → n ≤ 24 → m ≤ 200 → 4 + 2 * (n + m) ≤ length l → bad_of l ≤ most_literal (i + n + m) → pairs_fit n OfLatch (most_literal (i + n + m)) (1 + i) (drop 4 l) ≡ true → pairs_fit m OfGate (most_literal (i + n + m)) (1 + i + n) (drop (4 + 2 * n) l) ≡ true → fits i n m l ≡ all_zero (drop (4 + 2 * (n + m)) l)
fits_last i n m l a b c d whole bad latches gates =
    passes _ _ (and_from _ _ (le-leb _ _ a) (and_from _ _ (le-leb _ _ b) (and_from _ _ (le-leb _ _ c) (le-leb _ _ d))))
    ∙ passes _ _ (le-leb _ _ whole)
    ∙ passes _ _ (le-leb _ _ bad)
    ∙ passes _ _ latches
    ∙ passes _ _ gates
