-- Where the start formula is true. Assumes nothing.
use Rattle.std.proofs.Common.{◌≡◌, ℕ, zero, suc, ◌+◌, ◌*◌, ◌/◌, ◌%◌, ◌<◌, ◌≤◌, Bool, true, false, cond, not, ◌&&◌, List, Decides, sym, refl, ap, ◌∙◌, subst, inl, inr, ⊎_elim, arith}
use Rattle.std.proofs.lemmas.Bool.{cond-true, cond-false, eq-eqb, ne_eqb, cases_lt, not-true, not_from_false}
use Rattle.std.proofs.lemmas.Bool.Decides.{Decides-at, Decides-like, Decides-and}
use Rattle.sheet.specs.Sheets.{Sheet, Start, set, unset}
use Rattle.signal.specs.Truth.{lit}
use Rattle.formula.specs.Formulas.{width, nodes_at, value_at, Formula, Gates}
use Rattle.formula.specs.Conjunction.{Outcome, grown, short, conjoin}
use Rattle.formula.specs.Starting.{start_literal, joined, onward, join_starts, Starts}
use Rattle.formula.proofs.Valued.{gates_none, value_one, node_latch, Fine, conjoin_fine}

set_same : (b b' : Bool) → set b ≡ set b' → b ≡ b'
set_same b b' e = cc

unset_not : (b : Bool) → unset ≡ set b → ⊥
unset_not b e = let z : ◌≡◌ {A = ℕ} 0 1 = cc in omega arith

-- a literal that is true where its node has the bit b
lit_wants : (v : ℕ → Bool) (j : ℕ) (b : Bool) → Decides (lit v (2 * j + cond b 0 1)) (v j ≡ b)
lit_wants v j true =
    let r : (2 * j + 0) % 2 ≡ 0 = omega arith in
    let h : (2 * j + 0) / 2 ≡ j = omega arith in
    let is : lit v (2 * j + 0) ≡ v j = cond-true _ _ _ (eq-eqb _ _ r) ∙ ap v h in (λ e. sym is ∙ e, λ e. is ∙ e)
lit_wants v j false =
    let r : (2 * j + 1) % 2 ≡ 0 → ⊥ = λ e. omega arith in
    let h : (2 * j + 1) / 2 ≡ j = omega arith in
    let is : lit v (2 * j + 1) ≡ not (v j) = cond-false _ _ _ (ne_eqb _ _ r) ∙ ap (λ k. not (v k)) h in
    (λ e. not-true (v j) (sym is ∙ e), λ e. is ∙ not_from_false (v j) e)

pub node_of : (j : ℕ) (b : Bool) → (2 * j + cond b 0 1) / 2 ≡ j
node_of j true = omega arith
node_of j false = omega arith

module _ (s : Sheet) where
  -- the first i latches have their start bits
  abbrev Begun : ℕ → (ℕ → Bool) → Type 0
  Begun i c = (k : ℕ) (b : Bool) → k < i → s.start k ≡ set b → c k ≡ b

  record Good (i x n : ℕ) (f : List ℕ) : Type 0 where
    pub gates : Gates s f n
    pub formula : Formula s n x
    pub value : (c : ℕ → Bool) → Decides (value_at s f n c x) (Begun i c)

  abbrev GoodOutcome : ℕ → Outcome → Type 0
  GoodOutcome i (grown x n f) = Good i x n f
  GoodOutcome i short = Unit {0}

  latch_formula : (n i : ℕ) (b : Bool) → i < s.latches → Formula s n (start_literal s i b)
  latch_formula n i b h =
      let node = node_of (1 + s.inputs + i) b in inr (inl (omega (arith, node), omega (arith, node)))

  begun_more : (i : ℕ) (c : ℕ → Bool) → ((b : Bool) → s.start i ≡ set b → c i ≡ b) → Begun i c → Begun (i + 1) c
  begun_more i c here low k b h =
      ⊎_elim (λ (l : k < i). low k b l) (λ (l : i ≤ k). let e : i ≡ k = omega arith in subst (λ (j : ℕ). s.start j ≡ set b → c j ≡ b) e (here b)) (cases_lt k i)

  begun_less : (i : ℕ) (c : ℕ → Bool) → Begun (i + 1) c → Begun i c
  begun_less i c all k b h = all k b (omega arith)

  join_good : (i x n : ℕ) (f : List ℕ) → i < s.latches → (b : Bool) → s.start i ≡ set b → Good i x n f
      → (o : Outcome) → Fine s ◌&&◌ f n x (start_literal s i b) o → GoodOutcome (i + 1) o
  join_good i x n f h b is g (grown x' n' f') j =
      record {
        gates = j.extends.gates;
        formula = j.formula;
        value = λ c.
            let latch : Decides (value_at s f n c (start_literal s i b)) (nodes_at s f n c (1 + s.inputs + i) ≡ b) = lit_wants (nodes_at s f n c) (1 + s.inputs + i) b in
            let latched = node_latch s f n c i h in
            Decides-at _ _ (j.value c)
            (Decides-like (value_at s f n c x && value_at s f n c (start_literal s i b))
            (λ (p : Begun i c × (nodes_at s f n c (1 + s.inputs + i) ≡ b)). begun_more i c (λ b' e. sym latched ∙ p.1 ∙ set_same b b' (sym is ∙ e)) p.0)
            (λ (p : Begun (i + 1) c). (begun_less i c p, latched ∙ p i b (omega arith) is))
            (Decides-and (value_at s f n c x) (value_at s f n c (start_literal s i b)) (g.value c) latch));
      }
  join_good i x n f h b is g short j = tt

  step_good : (i x n : ℕ) (f : List ℕ) → i < s.latches → Good i x n f → (t : Start) → s.start i ≡ t → GoodOutcome (i + 1) (joined s i t x n f)
  step_good i x n f h g (set b) is =
      join_good i x n f h b is g (conjoin (width s) n f x (start_literal s i b)) (conjoin_fine s f n x (start_literal s i b) g.gates g.formula (latch_formula n i b h))
  step_good i x n f h g unset is =
      record {
        gates = g.gates;
        formula = g.formula;
        value = λ c. Decides-like (value_at s f n c x) (begun_more i c (λ b e. absurd (unset_not b (sym is ∙ e)))) (begun_less i c) (g.value c);
      }

  onward_good : (i k : ℕ) (more : ℕ → ℕ → List ℕ → Outcome) → ((x n : ℕ) (f : List ℕ) → Good i x n f → GoodOutcome k (more x n f))
      → (o : Outcome) → GoodOutcome i o → GoodOutcome k (onward o more)
  onward_good i k more keeps (grown x n f) g = keeps x n f g
  onward_good i k more keeps short g = tt

  starts_good : (m i x n : ℕ) (f : List ℕ) → i + m ≡ s.latches → Good i x n f → GoodOutcome s.latches (join_starts s m i x n f)
  starts_good zero i x n f h g = let e : i ≡ s.latches = omega arith in subst (λ (k : ℕ). Good k x n f) e g
  starts_good (suc m) i x n f h g =
      onward_good (i + 1) s.latches (λ x n f. join_starts s m (i + 1) x n f)
      (λ x n f good. starts_good m (i + 1) x n f (omega arith) good)
      (joined s i (s.start i) x n f) (step_good i x n f (omega arith) g (s.start i) refl)

  none_good : (f : List ℕ) → Good 0 1 0 f
  none_good f =
      record { gates = gates_none s f; formula = inl refl; value = λ c. (λ e k b h. absurd (omega arith), λ all. value_one s f 0 c) }

  pub starts_from : (f : List ℕ) (x n : ℕ) (f' : List ℕ) → join_starts s s.latches 0 1 0 f ≡ grown x n f' → Starts s f' n x
  starts_from f x n f' e =
      let g : Good s.latches x n f' = subst (GoodOutcome s.latches) e (starts_good s.latches 0 1 0 f (omega arith) (none_good f)) in
      record { gates = g.gates; formula = g.formula; value = g.value }
