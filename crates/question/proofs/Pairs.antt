-- The operands of a sheet's gates, in the list of all pairs. Assumes nothing.
use Rattle.std.proofs.Common.{◌≡◌, ℕ, ◌+◌, ◌*◌, ◌<◌, List, drop, get_or, slice_index, ap, ◌∙◌, arith}
use Rattle.std.proofs.lemmas.List.{get_or-take, get_or-drop}
use Rattle.sheet.specs.Sheets.{gate_count, left_of, right_of, left_place, right_place, gate_pairs}

pub left_at : (l : List ℕ) (g : ℕ) → g < gate_count l → slice_index (gate_pairs l) (2 * g) ≡ left_of l g
left_at l g h =
    let place : left_place l 0 + 2 * g ≡ left_place l g = omega arith in
    get_or-take (2 * gate_count l) (drop (left_place l 0) l) (2 * g) 0 (omega arith) ∙ get_or-drop (left_place l 0) l (2 * g) 0 ∙ ap (λ k. get_or l k 0) place

pub right_at : (l : List ℕ) (g : ℕ) → g < gate_count l → slice_index (gate_pairs l) (2 * g + 1) ≡ right_of l g
right_at l g h =
    let place : left_place l 0 + (2 * g + 1) ≡ right_place l g = omega arith in
    get_or-take (2 * gate_count l) (drop (left_place l 0) l) (2 * g + 1) 0 (omega arith)
    ∙ get_or-drop (left_place l 0) l (2 * g + 1) 0
    ∙ ap (λ k. get_or l k 0) place
