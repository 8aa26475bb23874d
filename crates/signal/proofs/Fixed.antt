-- Gates leave the lower nodes, and settle their own. Assumes nothing.
use Rattle.std.proofs.Common.{◌≡◌, ℕ, ◌+◌, ◌/◌, ◌<◌, ◌≤◌, false, ◌≢◌, List, [], ◌∷◌, length, get_or, set, refl, ap, ◌∙◌, arith, length-set}
use Rattle.std.proofs.lemmas.List.{get_or-set_same, get_or-set_other}
use Rattle.signal.specs.Circuit.{Ops, phased_of, node_of, gates_of}
use Rattle.signal.specs.Settled.{Ordered, Settled}

module _ {S : Type 0} (o : Ops S) where
  pub length_gates : (ps : List ℕ) (node : ℕ) (values : List S) → length (gates_of o ps node values) ≡ length values
  length_gates [] node values = refl
  length_gates (l ∷ []) node values = refl
  length_gates (l ∷ r ∷ ps) node values =
      length_gates ps (node + 1) (set values node (o.conjunction (node_of o values l) (node_of o values r))) ∙ length-set values node _

  pub gates_keep : (ps : List ℕ) (node : ℕ) (values : List S) (k : ℕ) (d : S) → k < node → get_or (gates_of o ps node values) k d ≡ get_or values k d
  gates_keep [] node values k d h = refl
  gates_keep (l ∷ []) node values k d h = refl
  gates_keep (l ∷ r ∷ ps) node values k d h =
      let apart : k ≢ node = omega arith in
      gates_keep ps (node + 1) (set values node (o.conjunction (node_of o values l) (node_of o values r))) k d (omega arith)
      ∙ get_or-set_other values node k _ d apart

  node_keep : (ps : List ℕ) (node : ℕ) (values : List S) (l : ℕ) → l / 2 < node → node_of o (gates_of o ps node values) l ≡ node_of o values l
  node_keep ps node values l h = ap (λ (x : S). phased_of o l x) (gates_keep ps node values (l / 2) (o.known false) h)

  pub gates_settle : (ps : List ℕ) (node : ℕ) (values : List S) → Ordered ps node → node + length ps / 2 ≤ length values →
      Settled o (gates_of o ps node values) ps node
  gates_settle [] node values ordered room = tt
  gates_settle (l ∷ []) node values ordered room = tt
  gates_settle (l ∷ r ∷ ps) node values ordered room =
      let value = o.conjunction (node_of o values l) (node_of o values r) in
      let after = gates_of o (l ∷ r ∷ ps) node values in
      let left : node_of o after l ≡ node_of o values l = node_keep (l ∷ r ∷ ps) node values l ordered.0 in
      let right : node_of o after r ≡ node_of o values r = node_keep (l ∷ r ∷ ps) node values r ordered.1 in
      let here : get_or after node (o.known false) ≡ value =
      gates_keep ps (node + 1) (set values node value) node _ (omega arith) ∙ get_or-set_same values node value _ (omega arith) in
      let rest = gates_settle ps (node + 1) (set values node value) ordered.2 (simp length-set (omega arith)) in
      (cc, rest)
