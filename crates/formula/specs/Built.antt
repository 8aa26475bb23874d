-- What a caller finds when formulas are made. Assumes nothing.
use Rattle.std.specs.Prelude.{◌≡◌, ℕ, Bool, cond, List, length, IfSome, Some, None, Option}
use Rattle.lists.specs.Counted.{counted, on_counted}
use Rattle.sheet.specs.declared.literal.Literal.{Literal}
use Rattle.sheet.specs.Render.{well_formed}
use Rattle.sheet.specs.Sheets.{Sheet, sheet_of}
use Rattle.formula.specs.declared.builder.Builder.{Builder}
use Rattle.formula.specs.declared.root.Root.{Root}
use Rattle.formula.specs.Formulas.{width, Formula, Gates}
use Rattle.formula.specs.Conjunction.{Outcome, grown, short, Joins}
use Rattle.formula.specs.Starting.{start_in, start_size}

abbrev pub literal : ℕ → Literal
literal x = record { 0 = x }

abbrev pub simplified : Option ℕ → Option Literal
simplified (Some x) = Some (literal x)
simplified None = None

-- the answer, the counts and the list, where they were g and f before
abbrev pub built : Builder → List ℕ → Outcome → Option Literal × Builder × List ℕ
built g f (grown x n f') = (Some (literal x), record { width = g.width; count = n }, f')
built g f short = (None, g, f)

-- at every sheet as wide, two of its formulas are joined by `op`
abbrev pub JoinsBy : (Bool → Bool → Bool) → Builder → List ℕ → Literal → Literal → Builder → List ℕ → Option Literal → Type 0
JoinsBy op g f a b g' f' r =
    (s : Sheet) → width s ≡ g.width → Gates s f g.count → Formula s g.count a.0 → Formula s g.count b.0
    → IfSome r (λ x. Joins op s f g.count a.0 b.0 f' g'.count x.0)

-- the start formula in place of all that a list held; where there is no room, the list as it was
abbrev pub started : List ℕ → Outcome → Option Root × List ℕ
started old (grown x n f) = (Some (record { literal = literal x; gates = n }), f)
started old short = (None, old)

-- the start formula of the sheet that l lays out; of a list that lays out none, nothing
abbrev pub start_over : List ℕ → List ℕ → Option Root × List ℕ
start_over l old = cond (well_formed l) (started old (start_in (sheet_of l) (length old))) (None, old)

-- writing the start formula into a lent list
abbrev pub write_start : List ℕ → List ℕ → Option Root × List ℕ
write_start l old = on_counted (start_over (counted l)) old

-- how many gates it has; of a list that lays out no sheet, 0
abbrev pub size_of_start : List ℕ → ℕ
size_of_start l = cond (well_formed l) (start_size (sheet_of l)) 0
