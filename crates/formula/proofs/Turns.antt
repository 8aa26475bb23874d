-- One turn of each loop over the latches. Assumes nothing.
use Rattle.std.proofs.Common.{◌≡◌, ℕ, suc, ◌+◌, ◌-◌, ◌<◌, ◌≤◌, List, Some, None, Option, sym, refl, ap, ◌∙◌, arith}
use Rattle.sheet.specs.declared.literal.Literal.{Literal}
use Rattle.sheet.specs.Sheets.{Sheet, Start, set, unset, Legal, sheet_of, latch_count}
use Rattle.formula.specs.declared.builder.Builder.{Builder}
use Rattle.formula.specs.Formulas.{width}
use Rattle.formula.specs.Conjunction.{Outcome, grown, short, conjoin}
use Rattle.formula.specs.Starting.{start_literal, start_mark, joined, onward, join_starts}
use Rattle.formula.specs.Built.{simplified, built}
use Rattle.formula.proofs.Building.{by_some, by_none}

-- a legal list lays out a small sheet
pub legal_few : (l : List ℕ) → Legal l → (latch_count l ≤ 24) × (width (sheet_of l) ≤ 249)
legal_few l h = (h.few_latches, omega (arith, h.few_inputs, h.few_latches, h.few_gates))

module _ (s : Sheet) (i : ℕ) where
  joined_some : (t : Start) (y : Literal) (x n : ℕ) (f : List ℕ) → Some y ≡ simplified (start_mark s i t) → joined s i t x n f ≡ conjoin (width s) n f x y.0
  joined_some (set b) y x n f h = let e : y.0 ≡ start_literal s i b = cc in ap (conjoin (width s) n f x) (sym e)
  joined_some unset y x n f h = let z : ◌≡◌ {A = ℕ} 0 1 = cc in absurd (omega arith)

  joined_none : (t : Start) (x n : ℕ) (f : List ℕ) → None ≡ simplified (start_mark s i t) → joined s i t x n f ≡ grown x n f
  joined_none (set b) x n f h = let z : ◌≡◌ {A = ℕ} 0 1 = cc in absurd (omega arith)
  joined_none unset x n f h = refl

  module _ (m : ℕ) (l : i < m) where
    starts_by : (x n : ℕ) (f : List ℕ) (o : Outcome) → joined s i (s.start i) x n f ≡ o → join_starts s (m - i) i x n f ≡ onward o (λ x n f. join_starts s (m - (i + 1)) (i + 1) x n f)
    starts_by x n f o e =
        let h : m - i ≡ suc (m - (i + 1)) = omega arith in
        ap (λ (j : ℕ). join_starts s j i x n f) h ∙ ap (λ o. onward o (λ x n f. join_starts s (m - (i + 1)) (i + 1) x n f)) e

    -- by what AND answers, in a builder as wide as the sheet
    module _ (g : Builder) (f : List ℕ) (w : g.width ≡ width s) (x y : Literal) (mark : Some y ≡ simplified (start_mark s i (s.start i))) (g' : Builder) (f' : List ℕ) where
      abbrev both : Outcome
      both = conjoin g.width g.count f x.0 y.0

      joined_both : joined s i (s.start i) x.0 g.count f ≡ both
      joined_both = joined_some (s.start i) y x.0 g.count f mark ∙ ap (λ (k : ℕ). conjoin k g.count f x.0 y.0) (sym w)

      pub starts_more : (z : Literal) → ◌≡◌ {A = Option Literal × Builder × List ℕ} (Some z, g', f') (built g f both)
          → (g'.width ≡ width s) × (join_starts s (m - i) i x.0 g.count f ≡ join_starts s (m - (i + 1)) (i + 1) z.0 g'.count f')
      starts_more z e =
          let p = by_some g f both z g' f' e in
          (p.1 ∙ w, starts_by x.0 g.count f (grown z.0 g'.count f') (joined_both ∙ p.0))

      pub starts_short : ◌≡◌ {A = Option Literal × Builder × List ℕ} (None, g', f') (built g f both) → join_starts s (m - i) i x.0 g.count f ≡ short
      starts_short e = starts_by x.0 g.count f short (joined_both ∙ (by_none g f both g' f' e).0)

    pub starts_skip : (x n : ℕ) (f : List ℕ) → None ≡ simplified (start_mark s i (s.start i)) → join_starts s (m - i) i x n f ≡ join_starts s (m - (i + 1)) (i + 1) x n f
    starts_skip x n f h = starts_by x n f (grown x n f) (joined_none (s.start i) x n f h)
