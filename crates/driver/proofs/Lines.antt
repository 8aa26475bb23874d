-- Lines of text, number by number and frame by frame: what is written, and then what is left, is the whole. Assumes nothing.
use Rattle.std.proofs.Common.{◌≡◌, ℕ, suc, ◌+◌, ◌-◌, ◌<◌, List, ◌∷◌, ◌++◌, get_or, drop, codes, decimal, sym, ap, ◌∙◌, append_assoc, arith}
use Rattle.std.proofs.lemmas.List.{append-nil}
use Rattle.checker.specs.Reports.{numbers_from}
use Rattle.driver.specs.Texts.{numbers_text, line_text, frame_text, frames_text}

-- one more number
pub number_more : (xs old new whole : List ℕ) (i n v : ℕ) → i < n → v ≡ get_or xs i 0 → new ≡ old ++ (32 ∷ decimal v)
    → old ++ numbers_text (numbers_from xs i (n - i)) ≡ whole → new ++ numbers_text (numbers_from xs (i + 1) (n - (i + 1))) ≡ whole
number_more xs old new whole i n v h is wrote before =
    let rest : List ℕ = numbers_text (numbers_from xs (i + 1) (n - (i + 1))) in
    let step : suc (n - (i + 1)) ≡ n - i = omega arith in
    ap (λ (ys : List ℕ). ys ++ rest) wrote ∙ append_assoc old (32 ∷ decimal v) rest ∙ ap (λ (u : ℕ). old ++ (32 ∷ (decimal u ++ rest))) is
    ∙ ap (λ (k : ℕ). old ++ numbers_text (numbers_from xs i k)) step ∙ before

-- ---- n latches and k inputs of a frame at the beginning of `rest`
module _ (n k : ℕ) (old mid new rest behind rest' : List ℕ) (states : mid ≡ old ++ line_text (codes "s") (numbers_from rest 0 n))
    (passed : behind ≡ drop n rest) (inputs : new ≡ mid ++ line_text (codes "i") (numbers_from behind 0 k)) (past : rest' ≡ drop k behind) where
  one : new ≡ old ++ frame_text n k rest
  one =
      inputs ∙ ap (λ (ys : List ℕ). mid ++ line_text (codes "i") (numbers_from ys 0 k)) passed
      ∙ ap (λ (ys : List ℕ). ys ++ line_text (codes "i") (numbers_from (drop n rest) 0 k)) states
      ∙ append_assoc old (line_text (codes "s") (numbers_from rest 0 n)) (line_text (codes "i") (numbers_from (drop n rest) 0 k))

  -- one more frame
  pub frame_more : (whole : List ℕ) (t m : ℕ) → t < m → old ++ frames_text (m - t) n k rest ≡ whole → new ++ frames_text (m - (t + 1)) n k rest' ≡ whole
  frame_more whole t m h before =
      let step : suc (m - (t + 1)) ≡ m - t = omega arith in
      ap (λ (ys : List ℕ). new ++ frames_text (m - (t + 1)) n k ys) (past ∙ ap (λ (ys : List ℕ). drop k ys) passed)
      ∙ ap (λ (ys : List ℕ). ys ++ frames_text (m - (t + 1)) n k (drop k (drop n rest))) one
      ∙ append_assoc old (frame_text n k rest) (frames_text (m - (t + 1)) n k (drop k (drop n rest)))
      ∙ ap (λ (j : ℕ). old ++ frames_text j n k rest) step ∙ before

  -- the last frame
  pub frame_last : (whole : List ℕ) (t m : ℕ) → m ≡ t + 1 → old ++ frames_text (m - t) n k rest ≡ whole → new ≡ whole
  frame_last whole t m is before =
      let step : suc 0 ≡ m - t = omega arith in
      one ∙ ap (λ (ys : List ℕ). old ++ ys) (sym (append-nil (frame_text n k rest))) ∙ ap (λ (j : ℕ). old ++ frames_text j n k rest) step ∙ before
