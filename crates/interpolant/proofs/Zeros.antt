-- What lies behind the lines is 0. Assumes nothing.
use Rattle.std.proofs.Common.{◌≡◌, ℕ, zero, suc, ◌+◌, ◌^◌, ◌<◌, ◌≤◌, leb, ◌≢◌, List, ◌++◌, length, get_or, set, replicate, IfOk, Result, sym, refl, ◌∙◌, subst, ⊎_elim, arith, length-set}
use lib.ListN.{length-replicate}
use Rattle.std.proofs.lemmas.List.{get_or_past, get_or-replicate, get_or-set_other}
use Rattle.std.proofs.lemmas.Result.{IfOk-weaker}
use Rattle.std.proofs.lemmas.Bool.{cond_both, cases_lt}
use Rattle.lists.specs.Counted.{counted, uncounted}
use Rattle.lists.proofs.Taken.{take_refronted}
use Rattle.formula.specs.Conjunction.{Outcome, grown, short}
use Rattle.interpolant.specs.Drawing.{draw_line, Drawing, whole, broken, proceed, draw_lines, Found, answered, draw_all, interpolation, ZeroFrom}
use Rattle.interpolant.specs.Interpolation.{Cut, line_count}
use Rattle.interpolant.specs.Parting.{width_in, cut_of}
use Rattle.formula.specs.declared.root.Root.{Root}
use Rattle.interpolant.specs.declared.draw.Short.{Short}

pub zeros : (n j : ℕ) → ◌≡◌ {A = ℕ} (get_or (replicate n 0) j 0) 0
zeros n j = ⊎_elim
    (λ (h : j < n). get_or-replicate n j 0 0 h)
    (λ (h : n ≤ j). get_or_past (replicate n 0) j 0 (omega (arith, length-replicate {A = ℕ} n 0)))
    (cases_lt j n)

-- the values vs have become others, as many, with the same places from k on
abbrev Keeps : List ℕ → ℕ → Drawing → Type 0
Keeps vs k (whole n f vs') = (length vs' ≡ length vs) × ((j : ℕ) → k ≤ j → get_or vs' j 0 ≡ get_or vs j 0)
Keeps vs k broken = Unit {0}

module _ (w : ℕ) (u : Cut) (q t : List ℕ) where
  keeps_set : (vs : List ℕ) (k x m : ℕ) → k < m → (o : Drawing) → Keeps (set vs k x) m o → Keeps vs m o
  keeps_set vs k x m l broken h = tt
  keeps_set vs k x m l (whole n f vs') h =
      (h.0 ∙ length-set vs k x, λ j i. let ne : j ≢ k = λ e. omega arith in h.1 j i ∙ get_or-set_other vs k j x 0 ne)

  keeps_next : (m k : ℕ) (vs : List ℕ) → ((k : ℕ) (vs : List ℕ) (n : ℕ) (f : List ℕ) → Keeps vs (k + m) (draw_lines w u q t m k vs n f))
      → (o : Outcome) → Keeps vs (k + suc m) (proceed o (λ x n f. draw_lines w u q t m (k + 1) (set vs k x) n f))
  keeps_next m k vs rest short = tt
  keeps_next m k vs rest (grown x n f) =
      let e : k + 1 + m ≡ k + suc m = omega arith in
      let o : Drawing = draw_lines w u q t m (k + 1) (set vs k x) n f in
      subst (λ (i : ℕ). Keeps vs i o) e (keeps_set vs k x (k + 1 + m) (omega arith) o (rest (k + 1) (set vs k x) n f))

  keeps_lines : (m k : ℕ) (vs : List ℕ) (n : ℕ) (f : List ℕ) → Keeps vs (k + m) (draw_lines w u q t m k vs n f)
  keeps_lines zero k vs n f = (refl, λ j h. refl)
  keeps_lines (suc m) k vs n f = keeps_next m k vs (keeps_lines m) (draw_line w u q t vs k n f)

-- as many values as there were places, and 0 from m on
abbrev Behind : ℕ → List ℕ → List ℕ → Type 0
Behind m old vs = (length vs ≡ length old) × ZeroFrom m vs

behind_by : (m : ℕ) (f vs : List ℕ) (o : Drawing) → Keeps (replicate (length vs) 0) m o → (let found : Found = answered m f vs o in IfOk found.0 (λ _. Behind m vs found.2))
behind_by m f vs broken h = tt
behind_by m f vs (whole n f' vs') h = (h.0 ∙ length-replicate {A = ℕ} (length vs) 0, λ k l. h.1 k l ∙ zeros (length vs) k)

behind_all : (w : ℕ) (u : Cut) (q t : List ℕ) (n : ℕ) (f vs : List ℕ) → (let found : Found = draw_all w u q t n f vs in IfOk found.0 (λ _. Behind (line_count q t) vs found.2))
behind_all w u q t n f vs =
    cond_both (leb (line_count q t) (length vs)) _ _ (λ (found : Found). IfOk found.0 (λ _. Behind (line_count q t) vs found.2))
    (λ e.
    let z : 0 + line_count q t ≡ line_count q t = omega arith in
    let o : Drawing = draw_lines w u q t (line_count q t) 0 (replicate (length vs) 0) n f in
    behind_by (line_count q t) f vs o (subst (λ (i : ℕ). Keeps (replicate (length vs) 0) i o) z (keeps_lines w u q t (line_count q t) 0 (replicate (length vs) 0) n f)))
    (λ e. tt)

module _ (l q t f : List ℕ) (n : ℕ) (old f' vs : List ℕ) (r : Result Root Short) (is : ◌≡◌ {A = Found} (r, f', vs) (interpolation l q t f n old)) where
  abbrev found : Found
  found = draw_all (width_in l) (cut_of l q n) q t n f (counted old)

  behind_here : IfOk found.0 (λ _. ZeroFrom (line_count q t) (counted (found.2 ++ uncounted old)))
  behind_here =
      IfOk-weaker found.0 (λ _. Behind (line_count q t) (counted old) found.2) (λ _. ZeroFrom (line_count q t) (counted (found.2 ++ uncounted old)))
      (λ d (h : Behind (line_count q t) (counted old) found.2).
      subst (λ (xs : List ℕ). ZeroFrom (line_count q t) xs) (sym (take_refronted found.2 old (2 ^ 28) h.0)) h.1)
      (behind_all (width_in l) (cut_of l q n) q t n f (counted old))

  pub zero_behind : IfOk r (λ _. ZeroFrom (line_count q t) (counted vs))
  zero_behind = subst (λ (g : Found). IfOk g.0 (λ _. ZeroFrom (line_count q t) (counted g.2))) (sym is) behind_here
