-- One step of a run. Assumes nothing.
use Rattle.std.proofs.Common.{◌≡◌, ℕ, suc, ◌+◌, ◌-◌, ◌<◌, ◌≤◌, leb, List, length, Ok, Err, Result, sym, refl, ap, ◌∙◌, arith}
use Rattle.std.proofs.lemmas.Bool.{cond_both, leb-true}
use Rattle.sheet.specs.Faults.{and_then, demand, map_ok}
use Rattle.sheet.specs.declared.fault.Fault.{Fault}
use Rattle.answer.specs.Runs.{run}
use Rattle.answer.specs.Steps.{step_of, made_by, suited, onward, advanced, noted}
use Rattle.answer.specs.declared.steps.Step.{Step}
use Rattle.answer.specs.declared.steps.Progress.{Progress}

pub demand_ok : {X : Type 0} (end room : ℕ) (f : Fault) (x y : X) → demand (leb end room) f (Ok x) ≡ Ok y → (y ≡ x) × (end ≤ room)
demand_ok end room f x y =
    cond_both (leb end room) _ _ (λ r. r ≡ Ok y → (y ≡ x) × (end ≤ room))
    (λ e h. (cc, leb-true end room e))
    (λ _ h. let z : ◌≡◌ {A = ℕ} 0 1 = cc in absurd (omega arith))

granted : {X : Type 0} (r : Result (Unit {0}) Fault) (end room : ℕ) (f : Fault) (x y : X) →
    and_then r (λ _. demand (leb end room) f (Ok x)) ≡ Ok y → (r ≡ Ok tt) × (y ≡ x) × (end ≤ room)
granted (Ok _) end room f x y h = let k = demand_ok end room f x y h in (refl, k.0, k.1)
granted (Err _) end room f x y h = let z : ◌≡◌ {A = ℕ} 0 1 = cc in absurd (omega arith)

of_end : (r : Result Progress Fault) (end : ℕ) → Ok end ≡ map_ok (λ (more : Progress). more.end) r → (more : Progress) × (r ≡ Ok more) × (more.end ≡ end)
of_end (Ok more) end h = (more, refl, cc)
of_end (Err f) end h = let z : ◌≡◌ {A = ℕ} 0 1 = cc in absurd (omega arith)

module _ (q w : List ℕ) (s : Step) (at : Progress) where
  abbrev pub end_after : ℕ
  end_after = at.end + length (made_by q w s at.end)

  pub advanced_ok : (more : Progress) → advanced q w s at ≡ Ok more → (suited q w s at ≡ Ok tt) × (more ≡ onward at end_after) × (end_after ≤ length w)
  advanced_ok more h = granted (suited q w s at) end_after (length w) _ (onward at end_after) more h

  -- by the place where its clause ends
  pub ended_ok : (end : ℕ) → Ok end ≡ map_ok (λ (more : Progress). more.end) (advanced q w s at) → (Ok (onward at end) ≡ advanced q w s at) × (at.end ≤ end)
  ended_ok end h =
      let (more, is, same) = of_end (advanced q w s at) end h in
      let next = (advanced_ok more is).1 in
      let here : end ≡ end_after = sym same ∙ ap (λ (p : Progress). p.end) next in
      (ap (λ e. Ok (onward at e)) here ∙ ap Ok (sym next) ∙ sym is, omega (arith, here))

module _ (q t w : List ℕ) (n : ℕ) (at : Progress) (less : at.step < n) where
  pub run_ok : (v : List ℕ) (more : Progress) → Ok more ≡ advanced q w (step_of t at.step) at → v ≡ noted q w (step_of t at.step) at →
      run q t (n - at.step) w at ≡ run q t (n - more.step) v more
  run_ok v more h k =
      let next = ap (λ p. p.step) (advanced_ok q w (step_of t at.step) at more (sym h)).1 in
      let m : n - at.step ≡ suc (n - more.step) = omega arith in
      let a = sym h in
      rw (m, a) (ap (λ x. run q t (n - more.step) x more) (sym k))

  pub run_err : (f : Fault) → Err f ≡ advanced q w (step_of t at.step) at → run q t (n - at.step) w at ≡ Err f
  run_err f h =
      let m : n - at.step ≡ suc (n - (at.step + 1)) = omega arith in
      let a = sym h in
      rw (m, a)
