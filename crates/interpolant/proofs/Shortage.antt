-- Which list is short, and what the lists then hold. Assumes nothing.
use Rattle.std.proofs.Common.{◌≡◌, ℕ, ◌^◌, ◌≤◌, leb, List, ◌++◌, length, replicate, Result, sym, refl, subst, take-append-drop}
use Rattle.std.proofs.lemmas.Bool.{cond_both, leb-true, leb-false}
use Rattle.lists.specs.Counted.{counted, uncounted}
use Rattle.interpolant.specs.Drawing.{Drawing, whole, broken, draw_lines, Found, answered, interpolation, SaysWhich}
use Rattle.interpolant.specs.Interpolation.{line_count}
use Rattle.interpolant.specs.Parting.{width_in, cut_of}
use Rattle.interpolant.specs.declared.draw.Short.{Short}
use Rattle.formula.specs.declared.root.Root.{Root}

module _ (l q t f : List ℕ) (n : ℕ) where
  abbrev Which : List ℕ → Found → Type 0
  Which old found = SaysWhich q t f old (found.0, found.1, found.2 ++ uncounted old)

  by_drawing : (old : List ℕ) → line_count q t ≤ length (counted old) → (o : Drawing) → Which old (answered (line_count q t) f (counted old) o)
  by_drawing old room (whole n' f' vs) = room
  by_drawing old room broken = (room, refl, refl)

  pub says_which : (old f' vs : List ℕ) (r : Result Root Short) → ◌≡◌ {A = Found} (r, f', vs) (interpolation l q t f n old) → SaysWhich q t f old (r, f', vs)
  says_which old f' vs r is =
      subst (SaysWhich q t f old) (sym is)
      (cond_both (leb (line_count q t) (length (counted old))) _ _ (Which old)
      (λ e. by_drawing old (leb-true _ _ e) (draw_lines (width_in l) (cut_of l q n) q t (line_count q t) 0 (replicate (length (counted old)) 0) n f))
      (λ e. (leb-false _ _ e, refl, take-append-drop (2 ^ 28) old)))
