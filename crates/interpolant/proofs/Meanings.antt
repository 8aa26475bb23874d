-- What is drawn means what it should. Assumes nothing.
use Rattle.std.proofs.Common.{◌≡◌, ℕ, ◌+◌, ◌-◌, ◌<◌, ◌≤◌, Bool, true, false, ltb, leb, List, ◌++◌, length, get_or, replicate, IfOk, Result, sym, ap, ◌∙◌, subst, ⊎_elim, arith}
use lib.ListN.{length-replicate}
use Rattle.std.proofs.lemmas.List.{get_or_append_left}
use Rattle.std.proofs.lemmas.Result.{IfOk-weaker}
use Rattle.std.proofs.lemmas.Bool.{cond_both, and_parts, and_from, leb-true, ltb-true, le-leb, lt-ltb, cases_lt, both_ways}
use Rattle.lists.specs.Counted.{counted, uncounted}
use Rattle.sheet.specs.Sheets.{Sheet, Legal, sheet_of}
use Rattle.machine.specs.Bits.{bit}
use Rattle.formula.specs.Formulas.{width, Formula, Gates}
use Rattle.question.proofs.Variables.{legal_lawful}
use Rattle.answer.specs.Derivations.{Derives}
use Rattle.answer.specs.Steps.{step_count}
use Rattle.interpolant.specs.Drawing.{Drawing, whole, broken, draw_lines, Found, answered, draw_all, interpolation}
use Rattle.interpolant.specs.Interpolation.{Cut, Partial, First, Second, line_count}
use Rattle.interpolant.specs.Meaning.{latches_at, value_under, DrawsFormula, Annotates, Interpolates, IsPath, Between, SeparatesPath, LiesBetween, InterpolatesPath}
use Rattle.interpolant.specs.Parting.{width_in, cut_of}
use Rattle.interpolant.specs.declared.draw.Short.{Short}
use Rattle.formula.specs.declared.root.Root.{Root}
use Rattle.interpolant.proofs.Annotating.{Ordered, Good, Ends, good_all, partial, partial_same}
use Rattle.interpolant.proofs.Gathering.{Latched}
use Rattle.interpolant.proofs.Pathways.{legal_wide, sound, parted, first_from, second_from, value_by, step_given, path_given}
use Rattle.interpolant.proofs.Zeros.{zeros}
use Rattle.interpolant.proofs.Separating.{implied, refuted, separates}

module _ (l q t f : List ℕ) (n : ℕ) where
  abbrev s : Sheet
  s = sheet_of l

  abbrev u : Cut
  u = cut_of l q n

  latched : Legal l → Latched s u
  latched legal v h =
      let wide = legal_wide l legal in
      let p = and_parts (leb (width_in l + 1 + s.inputs) v) (ltb v (width_in l + 1 + s.inputs + s.latches)) h in
      let low = leb-true (width_in l + 1 + s.inputs) v p.0 in
      let high = ltb-true v (width_in l + 1 + s.inputs + s.latches) p.1 in
      (omega (arith, wide, low), omega (arith, wide, high))

  latch_shared : Legal l → (i : ℕ) → i < s.latches → u.shared (width s + 1 + s.inputs + i) ≡ true
  latch_shared legal i h =
      let wide = legal_wide l legal in
      let v : ℕ = width s + 1 + s.inputs + i in
      and_from _ _ (le-leb (width_in l + 1 + s.inputs) v (omega (arith, wide))) (lt-ltb v (width_in l + 1 + s.inputs + s.latches) (omega (arith, wide)))

  ordered : (derived : ℕ → List ℕ) → Derives q t derived → Ordered q t
  ordered derived der i h = (der.steps i h).earlier

  -- ---- a whole drawing
  module _ (n' : ℕ) (f' vs : List ℕ) (legal : Legal l) (good : Good s u (latched legal) q t f n (line_count q t) n' f' vs) where
    abbrev x : ℕ
    x = get_or vs (line_count q t - 1) 0

    abbrev p : (ℕ → Bool) → ℕ → Bool
    p α k = value_under s f' n' α (get_or vs k 0)

    is_formula : Formula s n' x
    is_formula = good.formulas (line_count q t - 1)

    module _ (derived : ℕ → List ℕ) (der : Derives q t derived) where
      partials : (α : ℕ → Bool) → Partial q t u α (line_count q t) (p α)
      partials = partial s u (latched legal) q t f n n' f' vs good (ordered derived der)

      annotated : (rest : List ℕ) (α : ℕ → Bool) → Partial q t u α (line_count q t) (λ k. value_under s f' n' α (get_or (vs ++ rest) k 0))
      annotated rest α =
          partial_same q t u α (p α) (λ k. value_under s f' n' α (get_or (vs ++ rest) k 0)) (ordered derived der)
          (λ k h. ap (value_under s f' n' α) (get_or_append_left vs rest 0 k (omega (arith, good.room)))) (partials α)

    by_latches : (α β : ℕ → Bool) → ((v : ℕ) → u.shared v ≡ true → α v ≡ β v) → value_under s f' n' α x ≡ value_under s f' n' β x
    by_latches α β same =
        value_by s f' n' good.extends.gates (latches_at s α) (latches_at s β)
        (λ i h. same (width s + 1 + s.inputs + i) (latch_shared legal i h)) x is_formula

    -- ---- of a path question, whose formula gates are those of the list `asked`
    module _ (asked : List ℕ) (r k : ℕ) (gates : Gates s asked n) (formula : Formula s n r) (lays : IsPath q s asked n r k)
        (some : 1 ≤ step_count t) (derived : ℕ → List ℕ) (der : Derives q t derived) where
      follows_first : (α : ℕ → Bool) → First q u α → value_under s f' n' α x ≡ true
      follows_first α =
          implied q t (step_count t) derived u (sound l q asked n r k legal gates formula lays) (parted l q asked n r k legal gates formula lays)
          der.steps α (p α) (partials derived der α) some der.empty

      against_second : (α : ℕ → Bool) → Second q u α → value_under s f' n' α x ≡ false
      against_second α =
          refuted q t (step_count t) derived u (sound l q asked n r k legal gates formula lays) (parted l q asked n r k legal gates formula lays)
          der.steps α (p α) (partials derived der α) some der.empty

      separated : SeparatesPath s asked n r k f' n' x
      separated =
          record {
            implied = λ α all. follows_first α (first_from l q asked n r k legal gates formula lays α all);
            refuted = λ α all. against_second α (second_from l q asked n r k legal gates formula lays α all);
          }

      between : Between s asked n r k f' n' x
      between =
          record {
            holds_after_a_step = λ a c in_r follows.
                let (α, all, bits) = step_given s (legal_lawful l legal) asked n gates k r formula a c in_r follows in
                value_by s f' n' good.extends.gates (bit c) (latches_at s α) bits x is_formula
                ∙ separated.implied α all;
            keeps_from_bad = λ c j in-x reaches. ⊎_elim
                (λ (far : k < j). far)
                (λ (near : j ≤ k).
                let (α, all, bits) = path_given s (legal_lawful l legal) asked n gates k c j reaches near in
                let no : value_under s f' n' α x ≡ false = separated.refuted α all in
                let yes : value_under s f' n' α x ≡ true = sym (value_by s f' n' good.extends.gates (bit c) (latches_at s α) bits x is_formula) ∙ in-x in
                absurd (both_ways (value_under s f' n' α x) no yes))
                (cases_lt k j);
          }

  -- ---- what a caller is told
  abbrev AllTold : List ℕ → List ℕ → Root → Type 0
  AllTold f' vs d = DrawsFormula l f n f' d × Annotates l q t f n f' vs d × Interpolates l q t f n f' d × LiesBetween l q t f n f' d × InterpolatesPath l q t f n f' d

  abbrev Told : List ℕ → List ℕ → Result Root Short → Type 0
  Told f' vs r = IfOk r (AllTold f' vs)

  by_drawing : (vs rest : List ℕ) (o : Drawing) → ((legal : Legal l) → Gates s f n → Ends s u (latched legal) q t f n (line_count q t) o)
      → (let found : Found = answered (line_count q t) f vs o in Told found.1 (found.2 ++ rest) found.0)
  by_drawing vs rest broken h = tt
  by_drawing vs rest (whole n' f' vs') h = (
    λ legal gates. let good = h legal gates in record { extends = good.extends; formula = good.formulas (line_count q t - 1) },
    λ legal gates derived der α. annotated n' f' vs' legal (h legal gates) derived der rest α,
    λ legal gates asked parts some derived der.
        let good = h legal gates in
        let both = λ (α : ℕ → Bool). separates q t derived u asked parts some der α (p n' f' vs' legal good α) (partials n' f' vs' legal good derived der α) in
        record {
          implied = λ α. (both α).0;
          refuted = λ α. (both α).1;
          of_shared = by_latches n' f' vs' legal good;
        },
    λ asked r k legal gates own formula lays some derived der. between n' f' vs' legal (h legal gates) asked r k own formula lays some derived der,
    λ asked r k legal gates own formula lays some derived der. separated n' f' vs' legal (h legal gates) asked r k own formula lays some derived der,
  )

  told : (vs rest : List ℕ) → (let found : Found = draw_all (width_in l) u q t n f vs in Told found.1 (found.2 ++ rest) found.0)
  told vs rest =
      cond_both (leb (line_count q t) (length vs)) _ _ (λ (found : Found). Told found.1 (found.2 ++ rest) found.0)
      (λ e.
      let o : ℕ → Drawing = λ w. draw_lines w u q t (line_count q t) 0 (replicate (length vs) 0) n f in
      by_drawing vs rest (o (width_in l)) (λ legal gates.
      subst (λ (w : ℕ). Ends s u (latched legal) q t f n (line_count q t) (o w)) (sym (legal_wide l legal))
      (good_all s u (latched legal) q t f n (replicate (length vs) 0) (zeros (length vs)) (omega (arith, leb-true (line_count q t) (length vs) e, length-replicate {A = ℕ} (length vs) 0)) gates)))
      (λ e. tt)

  module _ (old f' vs : List ℕ) (r : Result Root Short) (is : ◌≡◌ {A = Found} (r, f', vs) (interpolation l q t f n old)) where
    all_told : Told f' vs r
    all_told = subst (λ (found : Found). Told found.1 found.2 found.0) (sym is) (told (counted old) (uncounted old))

    pub draws_formula : IfOk r (λ d. DrawsFormula l f n f' d)
    draws_formula = IfOk-weaker r (AllTold f' vs) (λ d. DrawsFormula l f n f' d) (λ d all. all.0) all_told

    pub annotates : IfOk r (λ d. Annotates l q t f n f' vs d)
    annotates = IfOk-weaker r (AllTold f' vs) (λ d. Annotates l q t f n f' vs d) (λ d all. all.1) all_told

    pub interpolates : IfOk r (λ d. Interpolates l q t f n f' d)
    interpolates = IfOk-weaker r (AllTold f' vs) (λ d. Interpolates l q t f n f' d) (λ d all. all.2) all_told

    pub lies_between : IfOk r (λ d. LiesBetween l q t f n f' d)
    lies_between = IfOk-weaker r (AllTold f' vs) (λ d. LiesBetween l q t f n f' d) (λ d all. all.3) all_told

    pub interpolates_path : IfOk r (λ d. InterpolatesPath l q t f n f' d)
    interpolates_path = IfOk-weaker r (AllTold f' vs) (λ d. InterpolatesPath l q t f n f' d) (λ d all. all.4) all_told
