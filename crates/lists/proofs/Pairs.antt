-- The pairs that a part of a list is cut into. Assumes nothing.
use Rattle.std.proofs.Common.{◌≡◌, ℕ, zero, suc, ◌+◌, ◌*◌, ◌/◌, ◌<◌, ◌≤◌, List, [], ◌∷◌, length, get_or, take, drop, refl, ap, ◌∙◌, arith}
use Rattle.std.proofs.lemmas.List.{get_or-drop, get_or-take, length-drop, length-take-le}
use Rattle.std.specs.Simd.{first_chunks}

pub chunk_pair : (xs : List ℕ) (n i : ℕ) (d : List ℕ) → i < n → 2 * n ≤ length xs → get_or (first_chunks 2 n xs) i d ≡ get_or xs (2 * i) 0 ∷ get_or xs (2 * i + 1) 0 ∷ []
chunk_pair xs zero i d h l = absurd (omega arith)
chunk_pair [] (suc n) i d h l = absurd (omega arith)
chunk_pair (a ∷ []) (suc n) i d h l = absurd (omega arith)
chunk_pair (a ∷ b ∷ xs) (suc n) zero d h l = refl
chunk_pair (a ∷ b ∷ xs) (suc n) (suc i) d h l =
    let more = chunk_pair xs n i d (omega arith) (omega arith) in
    let one : suc (suc (2 * i)) ≡ 2 * suc i = omega arith in
    let two : suc (suc (2 * i + 1)) ≡ 2 * suc i + 1 = omega arith in
    more ∙ (λ j. get_or (a ∷ b ∷ xs) (one j) 0 ∷ get_or (a ∷ b ∷ xs) (two j) 0 ∷ [])

-- the pairs of the n that lie in a list from k on
pub pair_in : (xs : List ℕ) (cs : List (List ℕ)) (k n m i : ℕ) (d : List ℕ) → m ≡ 2 * n → k + 2 * n ≤ length xs → cs ≡ first_chunks 2 (length (take m (drop k xs)) / 2) (take m (drop k xs)) → i < n → get_or cs i d ≡ get_or xs (k + 2 * i) 0 ∷ get_or xs (k + 2 * i + 1) 0 ∷ []
pair_in xs cs k n m i d size room is h =
    let long = length-drop k xs in
    let all : length (take m (drop k xs)) ≡ m = length-take-le m (drop k xs) (omega arith) in
    let half : length (take m (drop k xs)) / 2 ≡ n = omega arith in
    let first = get_or-take m (drop k xs) (2 * i) 0 (omega arith) ∙ get_or-drop k xs (2 * i) 0 in
    let second = get_or-take m (drop k xs) (2 * i + 1) 0 (omega arith) ∙ get_or-drop k xs (2 * i + 1) 0 in
    let behind : k + (2 * i + 1) ≡ k + 2 * i + 1 = omega arith in
    ap (λ (c : List (List ℕ)). get_or c i d) (is ∙ ap (λ (p : ℕ). first_chunks 2 p (take m (drop k xs))) half)
    ∙ chunk_pair (take m (drop k xs)) n i d h (omega arith)
    ∙ (λ j. first j ∷ (second ∙ ap (λ (p : ℕ). get_or xs p 0) behind) j ∷ [])

-- the first m pairs of a list
pub pair_front : (xs : List ℕ) (cs ds : List (List ℕ)) (m i : ℕ) (d : List ℕ) → cs ≡ first_chunks 2 (length xs / 2) xs → ds ≡ take m cs → i < m → i < length xs / 2 → get_or ds i d ≡ get_or xs (2 * i) 0 ∷ get_or xs (2 * i + 1) 0 ∷ []
pair_front xs cs ds m i d is front h k =
    ap (λ (c : List (List ℕ)). get_or c i d) front
    ∙ get_or-take m cs i d h
    ∙ ap (λ (c : List (List ℕ)). get_or c i d) is
    ∙ chunk_pair xs (length xs / 2) i d k (omega arith)
