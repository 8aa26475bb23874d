-- What literals, clauses and gates come to, over any kind of signal. Assumes nothing.
use Rattle.std.specs.Prelude.{ℕ, ◌+◌, ◌/◌, ◌%◌, Bool, false, cond, List, [], ◌∷◌, ◌==◌, slice_index, slice_index_or, slice_set}

-- what a kind of signal can do
pub record Ops (S : Type 0) : Type 0 where
  pub known : Bool → S
  pub reading : ℕ → S
  pub negation : S → S
  pub conjunction : S → S → S

module _ {S : Type 0} (o : Ops S) where
  abbrev pub disjunction : S → S → S
  disjunction x y = o.negation (o.conjunction (o.negation x) (o.negation y))

  -- the value x of a variable, as a literal of it sees it: an odd literal is negated
  abbrev pub phased_of : ℕ → S → S
  phased_of literal x = cond (literal % 2 == 0) x (o.negation x)

  -- the value of a literal whose variable has a number. A number that is not there counts as 0
  abbrev pub literal_of : List ℕ → ℕ → S
  literal_of numbers literal = phased_of literal (o.reading (slice_index numbers (literal / 2)))

  -- x or any of the literals
  abbrev pub or_all : List ℕ → S → List ℕ → S
  or_all numbers x [] = x
  or_all numbers x (l ∷ ls) = or_all numbers (disjunction x (literal_of numbers l)) ls

  abbrev pub clause_of : List ℕ → List ℕ → S
  clause_of numbers literals = or_all numbers (o.known false) literals

  -- the value of a literal whose variable is a node. A node that is not there counts as 0
  abbrev pub node_of : List S → ℕ → S
  node_of values literal = phased_of literal (slice_index_or values (literal / 2) (o.known false))

  -- the values after the AND gates, the first of which is at `node`. A gate past the end of the values writes nothing
  abbrev pub gates_of : List ℕ → ℕ → List S → List S
  gates_of [] node values = values
  gates_of (l ∷ []) node values = values
  gates_of (l ∷ r ∷ rest) node values =
      gates_of rest (node + 1) (slice_set values node (o.conjunction (node_of values l) (node_of values r)))
