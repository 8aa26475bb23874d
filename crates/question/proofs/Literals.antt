-- Literals of a question, and the sheet's and formulas' literals that they stand for. Assumes nothing.
use Rattle.std.proofs.Common.{◌≡◌, ℕ, suc, ◌+◌, ◌-◌, ◌*◌, ◌/◌, ◌%◌, ◌<◌, ◌≤◌, Bool, cond, not, eqb, ltb, sym, refl, ap, ◌∙◌, ⊎_elim, suc-mul, arith}
use Rattle.std.proofs.lemmas.Bool.{cond-true, cond-false, cond_both, eq-eqb, ne_eqb, lt-ltb, le-ltb, cases_lt}
use Rattle.signal.specs.Truth.{lit}
use Rattle.formula.specs.Conjunction.{opposite}
use Rattle.formula.specs.Framing.{in_frame, in_question}
use Rattle.formula.proofs.Valued.{opposite_is}

-- ---- rows of w places
pub row_more : (t w : ℕ) → (t + 1) * w ≡ t * w + w
row_more t w = let e : t + 1 ≡ suc t = omega arith in rw e (suc-mul t w)

pub row_less : (m w : ℕ) → 1 ≤ m → m * w ≡ (m - 1) * w + w
row_less m w h = let e : m ≡ (m - 1) + 1 = omega arith in ap (λ (n : ℕ). n * w) e ∙ row_more (m - 1) w

-- ---- signs
-- two literals of the same sign have the same value where their variables do
pub lit_moved : (α β : ℕ → Bool) (x y : ℕ) → x % 2 ≡ y % 2 → α (x / 2) ≡ β (y / 2) → lit α x ≡ lit β y
lit_moved α β x y sign same =
    ap (λ (n : ℕ). cond (eqb n 0) (α (x / 2)) (not (α (x / 2)))) sign ∙ ap (λ b. cond (eqb (y % 2) 0) b (not b)) same

pub lit_next : (α : ℕ → Bool) (x : ℕ) → x % 2 ≡ 0 → lit α (x + 1) ≡ not (lit α x)
lit_next α x even =
    let odd : (x + 1) % 2 ≡ 0 → ⊥ = λ e. omega arith in
    let half : (x + 1) / 2 ≡ x / 2 = omega arith in
    cond-false _ _ _ (ne_eqb _ _ odd) ∙ ap (λ (j : ℕ). not (α j)) half ∙ ap not (sym (cond-true _ _ _ (eq-eqb _ _ even)))

pub opposite_half : (x : ℕ) → opposite x / 2 ≡ x / 2
opposite_half x = sym (opposite_is x).0

-- ---- the literals of a frame
module _ (w : ℕ) where
  -- what an assignment gives the nodes in frame t
  abbrev pub slice : (ℕ → Bool) → ℕ → ℕ → Bool
  slice α t j = α (t * w + j)

  pub framed_half : (t x : ℕ) → in_frame w t x / 2 ≡ t * w + x / 2
  framed_half t x = omega arith

  pub framed_sign : (t x : ℕ) → in_frame w t x % 2 ≡ x % 2
  framed_sign t x = omega arith

  pub lit_framed : (α : ℕ → Bool) (t x : ℕ) → lit α (in_frame w t x) ≡ lit (slice α t) x
  lit_framed α t x = lit_moved α (slice α t) (in_frame w t x) x (framed_sign t x) (ap α (framed_half t x))

-- ---- the literals of formulas, where there are m frames
module _ (w m : ℕ) where
  -- the variable of a node
  abbrev pub placed : ℕ → ℕ
  placed j = cond (ltb j w) j (j + (m - 1) * w)

  pub placed_low : (j : ℕ) → j < w → placed j ≡ j
  placed_low j h = cond-true _ _ _ (lt-ltb _ _ h)

  pub placed_high : (j : ℕ) → w ≤ j → placed j ≡ j + (m - 1) * w
  placed_high j h = cond-false _ _ _ (le-ltb _ _ h)

  -- what an assignment gives them
  abbrev pub spread : (ℕ → Bool) → ℕ → Bool
  spread α j = α (placed j)

  pub posed_half : (x : ℕ) → in_question w m x / 2 ≡ placed (x / 2)
  posed_half x =
      ⊎_elim
      (λ (low : x < 2 * w). ap (λ (y : ℕ). y / 2) (cond-true _ _ _ (lt-ltb _ _ low)) ∙ sym (placed_low (x / 2) (omega arith)))
      (λ (high : 2 * w ≤ x).
      let half : (x + 2 * ((m - 1) * w)) / 2 ≡ x / 2 + (m - 1) * w = omega arith in
      ap (λ (y : ℕ). y / 2) (cond-false _ _ _ (le-ltb _ _ high)) ∙ half ∙ sym (placed_high (x / 2) (omega arith)))
      (cases_lt x (2 * w))

  pub posed_sign : (x : ℕ) → in_question w m x % 2 ≡ x % 2
  posed_sign x =
      cond_both (ltb x (2 * w)) x (x + 2 * ((m - 1) * w)) (λ y. y % 2 ≡ x % 2) (λ e. refl) (λ e. omega arith)

  pub lit_posed : (α : ℕ → Bool) (x : ℕ) → lit α (in_question w m x) ≡ lit (spread α) x
  lit_posed α x = lit_moved α (spread α) (in_question w m x) x (posed_sign x) (ap α (posed_half x))

  -- higher nodes have higher variables
  pub placed_above : (i j : ℕ) → i < j → placed i < placed j
  placed_above i j h =
      ⊎_elim
      (λ (low : j < w). omega (arith, placed_low i (omega arith), placed_low j low))
      (λ (high : w ≤ j). ⊎_elim
      (λ (low : i < w). omega (arith, placed_low i low, placed_high j high))
      (λ (both : w ≤ i). omega (arith, placed_high i both, placed_high j high))
      (cases_lt i w))
      (cases_lt j w)
