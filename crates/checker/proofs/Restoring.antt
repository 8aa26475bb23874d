-- The start formula is kept while gates are added, and when they are taken away again. Assumes nothing.
use Rattle.std.proofs.Common.{◌≡◌, ℕ, ◌-◌, ◌*◌, ◌/◌, ◌^◌, ◌≤◌, Bool, List, length, take, replicate, Decides, sym, ◌∙◌, subst, inl, inr, arith, length-take}
use Rattle.std.proofs.lemmas.List.{get_or-take, get_or_append_left, length-append}
use Rattle.std.proofs.lemmas.Bool.{cases_Bool, both_ways}
use Rattle.lists.specs.Counted.{counted, uncounted}
use Rattle.sheet.specs.Sheets.{Sheet}
use Rattle.machine.specs.Bits.{bit}
use Rattle.machine.specs.Runs.{State, Starts}
use Rattle.machine.proofs.Chains.{chain_kept, lit_same}
use Rattle.procedure.specs.Happens.{starters}
use Rattle.procedure.proofs.Starting.{start_region}
use Rattle.formula.specs.Conjunction.{Extends}
use Rattle.formula.specs.Formulas.{width, left_of, right_of, held, nodes_at, value_at, Formula, Gates}
use Rattle.formula.specs.Starting.{StartBits, Starts as StartsWith}
use Rattle.formula.proofs.Valued.{SamePairs, formula_low, gates_same, value_same}
use Rattle.checker.specs.Lists.{gates_kept, restored}
use Rattle.checker.proofs.Cutting.{few_counted}

-- two tests of one thing agree
pub same_test : (P : Type 0) (b c : Bool) → Decides b P → Decides c P → b ≡ c
same_test P b c d e =
    elim (cases_Bool b) [
      | inl h ↦ h ∙ sym (e.1 (d.0 h))
      | inr h ↦ elim (cases_Bool c) [ inl k ↦ absurd (both_ways b h (d.1 (e.0 k))) | inr k ↦ h ∙ sym k ]
    ]

pub decides_at : (P : Type 0) (b c : Bool) → b ≡ c → Decides c P → Decides b P
decides_at P b c e d = subst (λ (x : Bool). Decides x P) (sym e) d

module _ (s : Sheet) where
  -- fewer gates give a formula of theirs the same value
  pub value_fewer : (f : List ℕ) (m n : ℕ) (c : ℕ → Bool) (x : ℕ) → m ≤ n → Formula s m x → value_at s f n c x ≡ value_at s f m c x
  value_fewer f m n c x h is =
      lit_same (nodes_at s f n c) (nodes_at s f m c) x
      (chain_kept (width s) (left_of f) (right_of f) (held s c) n m (x / 2) h (formula_low s m x is))

  pub gates_fewer : (f : List ℕ) (m n : ℕ) → m ≤ n → Gates s f n → Gates s f m
  gates_fewer f m n h g =
      record { lefts = λ i l. g.lefts i (omega arith); rights = λ i l. g.rights i (omega arith); order = λ i l. g.order i (omega arith) }

  -- the first m gates are as they were
  pub starts_extended : (f f' : List ℕ) (m n n' x : ℕ) → m ≤ n → Extends s f n f' n' → Formula s n x → StartsWith s f m x → StartsWith s f' m x
  starts_extended f f' m n n' x h ext in-n st =
      record {
        gates = gates_fewer f' m n' (omega (arith, ext.more)) ext.gates;
        formula = st.formula;
        value = λ c. decides_at (StartBits s c) _ _
            (sym (value_fewer f' m n' c x (omega (arith, ext.more)) st.formula) ∙ ext.kept c x in-n ∙ value_fewer f m n c x h st.formula)
            (st.value c);
      }

  pub starts_same : (f f' : List ℕ) (m x : ℕ) → SamePairs f f' m → StartsWith s f m x → StartsWith s f' m x
  starts_same f f' m x same st =
      record {
        gates = gates_same s f f' m same st.gates;
        formula = st.formula;
        value = λ c. decides_at (StartBits s c) _ _ (value_same s f f' m same c x) (st.value c);
      }

  -- the start formula is true exactly in the start states
  pub starts_set : (f : List ℕ) (m x : ℕ) → StartsWith s f m x → (c : State s) → starters s c ≡ value_at s f m (bit c) x
  starts_set f m x st c = same_test (Starts s c) _ _ (start_region s c) (st.value (bit c))

-- what is restored has the first n gates
pub restored_pairs : (f : List ℕ) (n : ℕ) → 2 * n ≤ length (counted f) → SamePairs f (restored n f) n
restored_pairs f n room k h =
    let front : List ℕ = take (2 * n) (counted f) in
    let zeros : List ℕ = replicate (length (counted f) - 2 * n) 0 in
    let long : length front ≡ 2 * n = omega (arith, length-take (2 * n) (counted f)) in
    get_or_append_left (gates_kept n (counted f)) (uncounted f) 0 k (omega (arith, length-append front zeros))
    ∙ get_or_append_left front zeros 0 k (omega arith)
    ∙ get_or-take (2 * n) (counted f) k 0 h
    ∙ get_or-take (2 ^ 28) f k 0 (omega (arith, few_counted f))
