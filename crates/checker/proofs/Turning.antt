-- What an answer that was accepted leads to, by what the calls below answer. Assumes nothing.
use Rattle.std.proofs.Common.{◌≡◌, ℕ, true, List, Some, None, Option, sym, ap, ◌∙◌}
use Rattle.lists.specs.Counted.{counted}
use Rattle.sheet.specs.declared.literal.Literal.{Literal}
use Rattle.formula.specs.declared.builder.Builder.{Builder}
use Rattle.formula.specs.Built.{built}
use Rattle.formula.specs.Conjunction.{Outcome, grown, short, disjoin}
use Rattle.formula.proofs.Building.{by_some, by_none}
use Rattle.interpolant.specs.Parting.{width_in}
use Rattle.checker.specs.declared.Lack.TheVariants.{Formula}
use Rattle.checker.specs.declared.End.TheVariants.{Short as TooShort}
use Rattle.checker.specs.declared.Asked.{Asked}
use Rattle.checker.specs.Lists.{lists, wiped}
use Rattle.checker.specs.Turns.{Turned, path_asked, grown_if, grown_by}

-- growing
module _ (l : List ℕ) (a : Asked) (f vs q : List ℕ) (p : Literal) (w : ℕ) (is : w ≡ width_in (counted l)) (g' : Builder) (f' : List ℕ) where
  abbrev start : Builder
  start = record { width = w; count = a.region.gates }

  abbrev Reply : Type 0
  Reply = Option Literal × Builder × List ℕ

  abbrev either : Outcome
  either = disjoin w a.region.gates f a.region.literal.0 p.0

  grown_if_lem : (o : Outcome) → either ≡ o → grown_if o l a (lists f vs q) ≡ grown_by l a p (lists f vs q)
  grown_if_lem o e =
      let told : o ≡ disjoin (width_in (counted l)) a.region.gates f a.region.literal.0 p.0 =
      sym e ∙ ap (λ (w : ℕ). disjoin w a.region.gates f a.region.literal.0 p.0) is in
      ap (λ (o : Outcome). grown_if o l a (lists f vs q)) told

  pub grown_by_lem : (x : Literal) → ◌≡◌ {A = Reply} (Some x, g', f') (built start f either)
      → (r : Turned) → r ≡ path_asked l a a.bound (record { literal = x; gates = g'.count; grown = true }) (lists f' vs q)
      → r ≡ grown_by l a p (lists f vs q)
  grown_by_lem x e r asked = asked ∙ grown_if_lem (grown x.0 g'.count f') (by_some start f either x g' f' e).0

  pub ungrown_by : ◌≡◌ {A = Reply} (None, g', f') (built start f either)
      → ◌≡◌ {A = Turned} (Some (TooShort Formula), a, wiped (lists f' vs q)) (grown_by l a p (lists f vs q))
  ungrown_by e =
      let none = by_none start f either g' f' e in
      ap (λ (h : List ℕ). let r : Turned = (Some (TooShort Formula), a, wiped (lists h vs q)) in r) none.2 ∙ grown_if_lem short none.0
