-- One gate more, and no gate more, of `gates_of`. Assumes nothing.
use Rattle.std.proofs.Common.{◌≡◌, ℕ, ◌+◌, ◌-◌, ◌*◌, ◌/◌, ◌<◌, ◌≤◌, min, List, [], ◌∷◌, length, get_or, drop, set, refl, ⊎_elim, arith, length-drop}
use Rattle.std.proofs.lemmas.List.{drop_more, set_past}
use Rattle.std.proofs.lemmas.Bool.{cases_lt}
use Rattle.signal.specs.Circuit.{Ops, node_of, gates_of}

module _ {S : Type 0} (o : Ops S) where
  pub gates_more : (pairs : List ℕ) (i node : ℕ) (values : List S) → 2 * i + 1 < length pairs →
      gates_of o (drop (2 * i) pairs) node values
      ≡ gates_of o (drop (2 * (i + 1)) pairs) (node + 1) (set values node (o.conjunction (node_of o values (get_or pairs (2 * i) 0)) (node_of o values (get_or pairs (2 * i + 1) 0))))
  gates_more pairs i node values within =
      let two : 2 * (i + 1) ≡ 2 * i + 1 + 1 = omega arith in
      let left = drop_more pairs (2 * i) 0 (omega arith) in
      let right = drop_more pairs (2 * i + 1) 0 within in
      rw (two, left, right)

  -- where no place is left
  gates_past : (pairs : List ℕ) (node : ℕ) (values : List S) → length values ≤ node → gates_of o pairs node values ≡ values
  gates_past [] node values past = refl
  gates_past (l ∷ []) node values past = refl
  gates_past (l ∷ r ∷ rest) node values past =
      rw (set_past values node _ past) (gates_past rest (node + 1) values (omega arith))

  -- where no pair is left
  gates_none : (pairs : List ℕ) (node : ℕ) (values : List S) → length pairs ≤ 1 → gates_of o pairs node values ≡ values
  gates_none [] node values few = refl
  gates_none (l ∷ []) node values few = refl
  gates_none (l ∷ r ∷ rest) node values few = absurd (omega arith)

  pub gates_all : (pairs : List ℕ) (i first : ℕ) (values : List S) → min (length pairs / 2) (length values - first) ≤ i →
      gates_of o (drop (2 * i) pairs) (first + i) values ≡ values
  gates_all pairs i first values done =
      ⊎_elim
      (λ (room : first + i < length values). gates_none (drop (2 * i) pairs) (first + i) values (simp length-drop (omega arith)))
      (gates_past (drop (2 * i) pairs) (first + i) values)
      (cases_lt (first + i) (length values))
