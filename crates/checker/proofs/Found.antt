-- The first bad frame of an assignment. Assumes nothing.
use Rattle.std.proofs.Common.{◌≡◌, ℕ, zero, suc, ◌+◌, ◌/◌, ◌<◌, ◌≤◌, true, false, List, map, sym, ap, ◌∙◌, subst, ⊎_elim, arith}
use Rattle.std.specs.List.{range_with_len}
use Rattle.std.proofs.lemmas.List.FromFn.{length-map-range_with_len}
use Rattle.std.proofs.lemmas.Bool.{cond_both, cases_eq, both_ways}
use Rattle.sheet.specs.Sheets.{Sheet}
use Rattle.signal.specs.Truth.{lit, bits_of}
use Rattle.machine.specs.Runs.{Frame, Follows, BadIn, BadPath, Reaches}
use Rattle.formula.specs.Formulas.{width}
use Rattle.formula.specs.Framing.{in_frame}
use Rattle.question.specs.Meaning.{frame_at, FrameTells}
use Rattle.question.proofs.Paths.{run_path, run_last}
use Rattle.checker.specs.Reports.{first_bad}

module _ (s : Sheet) (xs : List ℕ) (fits : s.bad / 2 < width s) where
  abbrev frames : ℕ → Frame s
  frames = frame_at s (bits_of xs)

  -- m is the first bad frame from t on
  pub record First (t last m : ℕ) : Type 0 where
    pub low : t ≤ m
    pub high : m ≤ last
    pub bad : BadIn s (frames m)
    pub none : (i : ℕ) → t ≤ i → i < m → BadIn s (frames i) → ⊥

  module _ (last : ℕ) (tells : (t : ℕ) → t ≤ last → FrameTells s (bits_of xs) t) where
    bad_literal : (t : ℕ) → t ≤ last → lit (bits_of xs) (in_frame (width s) t s.bad) ≡ true → BadIn s (frames t)
    bad_literal t h e = sym (tells t h s.bad fits) ∙ e

    good_literal : (t : ℕ) → t ≤ last → lit (bits_of xs) (in_frame (width s) t s.bad) ≡ false → BadIn s (frames t) → ⊥
    good_literal t h e bad = both_ways _ e (tells t h s.bad fits ∙ bad)

    pub first_bad_lem : (n t : ℕ) → t + n ≡ last → (j : ℕ) → t ≤ j → j ≤ last → BadIn s (frames j) → First t last (first_bad s xs n t)
    first_bad_lem zero t is j low high bad =
        let same : j ≡ t = omega arith in
        record { low = omega arith; high = omega arith; bad = subst (λ (i : ℕ). BadIn s (frames i)) same bad; none = λ i a b. absurd (omega arith) }
    first_bad_lem (suc n) t is j low high bad =
        cond_both (lit (bits_of xs) (in_frame (width s) t s.bad)) t (first_bad s xs n (t + 1)) (First t last)
        (λ e. record { low = omega arith; high = omega arith; bad = bad_literal t (omega arith) e; none = λ i a b. absurd (omega arith) })
        (λ e.
        let past : t < j =
        ⊎_elim
        (λ (z : j ≡ t). absurd (good_literal t (omega arith) e (subst (λ (i : ℕ). BadIn s (frames i)) z bad)))
        (λ (z : j ≡ t → ⊥). omega arith)
        (cases_eq j t) in
        let rest = first_bad_lem n (t + 1) (omega arith) j (omega arith) high bad in
        record {
          low = omega (arith, rest.low);
          high = rest.high;
          bad = rest.bad;
          none = λ i a b bad-i.
              ⊎_elim
              (λ (z : i ≡ t). good_literal t (omega arith) e (subst (λ (i : ℕ). BadIn s (frames i)) z bad-i))
              (λ (z : i ≡ t → ⊥). rest.none i (omega arith) b bad-i)
              (cases_eq i t);
        })

  -- frames that follow one another, the last of them bad
  pub bad_path : (m : ℕ) → ((t : ℕ) → t < m → Follows s (frames t) (frames (t + 1)).state) → BadIn s (frames m)
      → BadPath s (frames 0) (map frames (range_with_len 1 m))
  bad_path m follows bad =
      let e : 0 + m ≡ m = omega arith in
      record {
        path = run_path s frames m 0 (λ t _ b. follows t (omega arith));
        ends_bad = subst (BadIn s) (sym (run_last s frames m 0 ∙ ap frames e)) bad;
      }

  pub reaches : (m : ℕ) → ((t : ℕ) → t < m → Follows s (frames t) (frames (t + 1)).state) → BadIn s (frames m) → Reaches s (frames 0).state m
  reaches m follows bad =
      record {
        inputs = (frames 0).inputs;
        later = map frames (range_with_len 1 m);
        meets = bad_path m follows bad;
        steps = length-map-range_with_len frames 1 m;
      }
