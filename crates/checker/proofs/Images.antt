-- Of a path question that was answered no there is an interpolant: the states that follow one of the region. Assumes nothing.
use Rattle.std.proofs.Common.{◌≡◌, ℕ, ◌+◌, ◌<◌, ◌≤◌, Bool, true, false, ◌&&◌, List, [], ◌∷◌, sym, refl, ap, subst, ⊎_elim, arith}
use Rattle.std.proofs.lemmas.Bool.{and_from, and_parts, cases_lt}
use Rattle.sheet.specs.Sheets.{Sheet}
use Rattle.machine.specs.Bits.{Bits}
use Rattle.machine.specs.Runs.{State, Frame, Follows, Reaches}
use Rattle.machine.proofs.Count.{some, found, is_some, same_bits}
use Rattle.machine.proofs.Steps.{stepped, stepped_follows, only_stepped}
use Rattle.procedure.specs.Procedure.{Region, Witness, Interpolant}

-- whether two rows have the same bits
abbrev same : List Bool → List Bool → Bool
same [] [] = true
same [] (y ∷ ys) = false
same (x ∷ xs) [] = false
same (true ∷ xs) (true ∷ ys) = same xs ys
same (true ∷ xs) (false ∷ ys) = false
same (false ∷ xs) (true ∷ ys) = false
same (false ∷ xs) (false ∷ ys) = same xs ys

same_refl : (xs : List Bool) → same xs xs ≡ true
same_refl [] = refl
same_refl (true ∷ xs) = same_refl xs
same_refl (false ∷ xs) = same_refl xs

same_true : (xs ys : List Bool) → same xs ys ≡ true → xs ≡ ys
same_true [] [] h = refl
same_true [] (y ∷ ys) h = let z : ◌≡◌ {A = ℕ} 0 1 = cc in absurd (omega arith)
same_true (x ∷ xs) [] h = let z : ◌≡◌ {A = ℕ} 0 1 = cc in absurd (omega arith)
same_true (true ∷ xs) (true ∷ ys) h = ap (λ zs. true ∷ zs) (same_true xs ys h)
same_true (true ∷ xs) (false ∷ ys) h = let z : ◌≡◌ {A = ℕ} 0 1 = cc in absurd (omega arith)
same_true (false ∷ xs) (true ∷ ys) h = let z : ◌≡◌ {A = ℕ} 0 1 = cc in absurd (omega arith)
same_true (false ∷ xs) (false ∷ ys) h = ap (λ zs. false ∷ zs) (same_true xs ys h)

module _ (s : Sheet) (R : Region s) where
  abbrev frame : State s → Bits s.inputs → Frame s
  frame c x = record { state = c; inputs = x }

  abbrev leads : State s → State s → Bits s.inputs → Bool
  leads d c x = R c && same d.bits (stepped s (frame c x)).bits

  -- the states that follow one of the region
  abbrev pub image : Region s
  image d = some s.latches (λ c. some s.inputs (leads d c))

  image_has : (f : Frame s) (d : State s) → R f.state ≡ true → Follows s f d → image d ≡ true
  image_has f d inside follows =
      let is : d ≡ stepped s f = only_stepped s f d follows in
      let here : leads d f.state f.inputs ≡ true =
      and_from _ _ inside (subst (λ (e : State s). same d.bits e.bits ≡ true) is (same_refl d.bits)) in
      is_some s.latches (λ c. some s.inputs (leads d c)) f.state (is_some s.inputs (leads d f.state) f.inputs here)

  image_from : (d : State s) → image d ≡ true → (f : Frame s) × (R f.state ≡ true) × Follows s f d
  image_from d h =
      let (c, more) = found s.latches (λ c. some s.inputs (leads d c)) h in
      let (x, here) = found s.inputs (leads d c) more in
      let both = and_parts (R c) (same d.bits (stepped s (frame c x)).bits) here in
      let is : d ≡ stepped s (frame c x) = same_bits d (stepped s (frame c x)) (same_true d.bits (stepped s (frame c x)).bits both.1) in
      (frame c x, both.0, subst (Follows s (frame c x)) (sym is) (stepped_follows s (frame c x)))

  -- a step before a path
  step_before : (f : Frame s) (d : State s) (j : ℕ) → Follows s f d → Reaches s d j → Reaches s f.state (j + 1)
  step_before f d j follows r =
      record {
        inputs = f.inputs;
        later = record { state = d; inputs = r.inputs } ∷ r.later;
        meets = record { path = (follows, r.meets.path); ends_bad = r.meets.ends_bad };
        steps = omega (arith, r.steps);
      }

  pub image_interpolates : (k : ℕ) → ((d : State s) (j : ℕ) → Witness s R k d j → ⊥) → Interpolant s R k image
  image_interpolates k none =
      record {
        follows = image_has;
        far = λ d j inside reaches. ⊎_elim
            (λ (more : k < j). more)
            (λ (few : j ≤ k).
            let (f, has, follows) = image_from d inside in
            absurd (none f.state (j + 1) (record { inside = has; reaches = step_before f d j follows reaches; some = omega arith; few = omega arith })))
            (cases_lt k j);
      }
