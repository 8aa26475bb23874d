-- Writes one behind the other. Assumes nothing.
use Rattle.std.proofs.Common.{◌≡◌, ℕ, zero, suc, ◌+◌, ◌-◌, ◌<◌, ◌≤◌, List, [], ◌∷◌, ◌++◌, length, get_or, drop, sym, ap, ◌∙◌, arith}
use Rattle.std.proofs.lemmas.List.{append_assoc, at_drop_more, at_drop_all, get_or-drop, drop-drop}
use Rattle.sheet.specs.Render.{digits, numbers_text, line_text, pairs_text}

-- the next number of a line, which follows what was written: s, then s with a space, then t
pub number_more : (ns : List ℕ) (i : ℕ) (s t u : List ℕ) → i < length ns → t ≡ s ++ (32 ∷ []) → u ≡ t ++ digits (get_or ns i 0) → u ++ numbers_text (drop (i + 1) ns) ≡ s ++ numbers_text (drop i ns)
number_more ns i s t u h e f =
    let d = digits (get_or ns i 0) in
    let rest = numbers_text (drop (i + 1) ns) in
    let next = at_drop_more numbers_text ns i 0 h in
    let joined : ((s ++ (32 ∷ [])) ++ d) ++ rest ≡ s ++ (32 ∷ (d ++ rest)) = simp append_assoc in
    cc

-- the end of a line, which began with a letter behind s
pub line_end : (ns : List ℕ) (i x : ℕ) (s t u v : List ℕ) → length ns ≤ i → t ≡ s ++ (x ∷ []) → u ++ numbers_text (drop i ns) ≡ t ++ numbers_text ns → v ≡ u ++ (10 ∷ []) → v ≡ s ++ line_text x ns
line_end ns i x s t u v h e f g =
    let end = at_drop_all numbers_text ns i h in
    let joined : (s ++ (x ∷ [])) ++ numbers_text ns ≡ s ++ (x ∷ numbers_text ns) = simp append_assoc in
    cc

-- the next of n lines, whose numbers lie in a list from k on
pub pairs_text_more : (n x k : ℕ) (l : List ℕ) → 0 < n → pairs_text n x (drop k l) ≡ line_text x (get_or l k 0 ∷ get_or l (k + 1) 0 ∷ []) ++ pairs_text (n - 1) x (drop (k + 2) l)
pairs_text_more zero x k l h = absurd (omega arith)
pairs_text_more (suc n) x k l h =
    let less : suc n - 1 ≡ n = omega arith in
    let first = get_or-drop k l 0 0 in
    let here : k + 0 ≡ k = omega arith in
    let second = get_or-drop k l 1 0 in
    let rest = drop-drop 2 k l in
    cc

-- one of n lines is written, behind s
pub pair_more : (n x k : ℕ) (l s t : List ℕ) (n' k' : ℕ) → 0 < n → t ≡ s ++ line_text x (get_or l k 0 ∷ get_or l (k + 1) 0 ∷ []) → n' ≡ n - 1 → k' ≡ k + 2 → t ++ pairs_text n' x (drop k' l) ≡ s ++ pairs_text n x (drop k l)
pair_more n x k l s t n' k' some is less on =
    let line = line_text x (get_or l k 0 ∷ get_or l (k + 1) 0 ∷ []) in
    let left = pairs_text (n - 1) x (drop (k + 2) l) in
    (λ i. is i ++ pairs_text (less i) x (drop (on i) l))
    ∙ append_assoc s line left
    ∙ ap (λ r. s ++ r) (sym (pairs_text_more n x k l some))
