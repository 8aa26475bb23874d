-- The gates of a list, as pairs of literals: each reads lower nodes alone, and the values of a sheet fit them. Assumes nothing.
use Rattle.std.proofs.Common.{◌≡◌, ℕ, suc, ◌+◌, ◌*◌, ◌/◌, ◌<◌, Bool, ◌&&◌, List, [], ◌∷◌, length, get_or, drop, sym, ap, ◌∙◌, subst, arith}
use Rattle.std.proofs.lemmas.List.{get_or-take, get_or-drop, length-take, length-drop}
use Rattle.sheet.specs.Sheets.{Legal, sheet_of, gate_count, left_of, right_of, left_place, right_place, gate_node, gate_pairs}
use Rattle.signal.specs.Settled.{Ordered, Gated}
use Rattle.signal.specs.Truth.{lit}
use Rattle.machine.specs.Values.{values}
use Rattle.machine.proofs.Values.{legal_ascends, settled}

-- ---- what holds of each pair
abbrev Lower : List ℕ → ℕ → ℕ → Type 0
Lower ps node g = (get_or ps (2 * g) 0 / 2 < node + g) × (get_or ps (2 * g + 1) 0 / 2 < node + g)

abbrev Fits : (ℕ → Bool) → List ℕ → ℕ → ℕ → Type 0
Fits α ps node g = α (node + g) ≡ (lit α (get_or ps (2 * g) 0) && lit α (get_or ps (2 * g + 1) 0))

-- pair g + 1 of a list is pair g of what follows the first pair
module _ (P : ℕ → ℕ → ℕ → Type 0) where
  next_pair : (l r : ℕ) (ps : List ℕ) (node g : ℕ) → P (get_or (l ∷ r ∷ ps) (2 * (g + 1)) 0) (get_or (l ∷ r ∷ ps) (2 * (g + 1) + 1) 0) (node + (g + 1))
      → P (get_or ps (2 * g) 0) (get_or ps (2 * g + 1) 0) (node + 1 + g)
  next_pair l r ps node g h =
      let first : 2 * (g + 1) ≡ suc (suc (2 * g)) = omega arith in
      let second : 2 * (g + 1) + 1 ≡ suc (suc (2 * g + 1)) = omega arith in
      let at : node + (g + 1) ≡ node + 1 + g = omega arith in
      subst (λ n. P (get_or ps (2 * g) 0) (get_or ps (2 * g + 1) 0) n) at
      (subst (λ n. P (get_or ps (2 * g) 0) (get_or (l ∷ r ∷ ps) n 0) (node + (g + 1))) second
      (subst (λ n. P (get_or (l ∷ r ∷ ps) n 0) (get_or (l ∷ r ∷ ps) (2 * (g + 1) + 1) 0) (node + (g + 1))) first h))

  first_pair : (l r : ℕ) (ps : List ℕ) (node : ℕ) → P (get_or (l ∷ r ∷ ps) (2 * 0) 0) (get_or (l ∷ r ∷ ps) (2 * 0 + 1) 0) (node + 0) → P l r node
  first_pair l r ps node h = let at : node + 0 ≡ node = omega arith in subst (λ n. P l r n) at h

abbrev LowerAt : ℕ → ℕ → ℕ → Type 0
LowerAt l r node = (l / 2 < node) × (r / 2 < node)

ordered_all : (ps : List ℕ) (node : ℕ) → ((g : ℕ) → 2 * g + 1 < length ps → Lower ps node g) → Ordered ps node
ordered_all [] node h = tt
ordered_all (l ∷ []) node h = tt
ordered_all (l ∷ r ∷ ps) node h =
    let first = first_pair LowerAt l r ps node (h 0 (omega arith)) in
    (first.0, first.1, ordered_all ps (node + 1) (λ g lt. next_pair LowerAt l r ps node g (h (g + 1) (omega arith))))

gated_all : (α : ℕ → Bool) (ps : List ℕ) (node : ℕ) → ((g : ℕ) → 2 * g + 1 < length ps → Fits α ps node g) → Gated α ps node
gated_all α [] node h = tt
gated_all α (l ∷ []) node h = tt
gated_all α (l ∷ r ∷ ps) node h =
    let P : ℕ → ℕ → ℕ → Type 0 = λ a b n. α n ≡ (lit α a && lit α b) in
    (first_pair P l r ps node (h 0 (omega arith)), gated_all α ps (node + 1) (λ g lt. next_pair P l r ps node g (h (g + 1) (omega arith))))

-- ---- the operands of a list
left_at : (l : List ℕ) (g : ℕ) → g < gate_count l → get_or (gate_pairs l) (2 * g) 0 ≡ left_of l g
left_at l g h =
    let place : left_place l 0 + 2 * g ≡ left_place l g = omega arith in
    get_or-take (2 * gate_count l) (drop (left_place l 0) l) (2 * g) 0 (omega arith) ∙ get_or-drop (left_place l 0) l (2 * g) 0 ∙ ap (λ k. get_or l k 0) place

right_at : (l : List ℕ) (g : ℕ) → g < gate_count l → get_or (gate_pairs l) (2 * g + 1) 0 ≡ right_of l g
right_at l g h =
    let place : left_place l 0 + (2 * g + 1) ≡ right_place l g = omega arith in
    get_or-take (2 * gate_count l) (drop (left_place l 0) l) (2 * g + 1) 0 (omega arith)
    ∙ get_or-drop (left_place l 0) l (2 * g + 1) 0
    ∙ ap (λ k. get_or l k 0) place

module _ (l : List ℕ) (legal : Legal l) where
  pub operands_length : length (gate_pairs l) ≡ 2 * gate_count l
  operands_length = simp (length-take, length-drop) (omega (arith, legal.whole))

  inside : (g : ℕ) → 2 * g + 1 < length (gate_pairs l) → g < gate_count l
  inside g h = omega (arith, operands_length)

  pub operands_ordered : Ordered (gate_pairs l) (gate_node l 0)
  operands_ordered =
      ordered_all (gate_pairs l) (gate_node l 0) (λ g h.
      let k : g < gate_count l = inside g h in
      let a : left_of l g / 2 < gate_node l g = legal.lefts g k in
      let b : right_of l g / 2 < left_of l g / 2 = legal.rights g k in
      (rw (left_at l g k) (omega arith), rw (right_at l g k) (omega arith)))

  pub values_gated : (c x : ℕ → Bool) → Gated (values (sheet_of l) c x) (gate_pairs l) (gate_node l 0)
  values_gated c x =
      let v = values (sheet_of l) c x in
      gated_all v (gate_pairs l) (gate_node l 0) (λ g h.
      let k : g < gate_count l = inside g h in
      let at : gate_node l 0 + g ≡ gate_node l g = omega arith in
      ap v at ∙ (settled (sheet_of l) c x (legal_ascends l legal)).gates g k
      ∙ sym (ap (λ y. lit v y && lit v (get_or (gate_pairs l) (2 * g + 1) 0)) (left_at l g k) ∙ ap (λ y. lit v (left_of l g) && lit v y) (right_at l g k)))
