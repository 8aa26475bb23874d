-- The parts of a line: where a byte stands, and the number that a part spells. Assumes nothing.
use Rattle.std.specs.Prelude.{ℕ, suc, ◌+◌, ◌-◌, ◌*◌, Bool, cond, ◌&&◌, List, [], ◌∷◌, take, drop, Some, None, Option, ◌==◌, nat_le}
use Rattle.sheet.specs.declared.line.Line.{Line}
use Rattle.sheet.specs.declared.line.Line.TheVariants.{Contents, Latch, Gate, Bad}

-- the place where byte b first stands in a text, or the text's length
abbrev pub up_to : ℕ → List ℕ → ℕ
up_to b [] = 0
up_to b (x ∷ xs) = cond (x == b) 0 (suc (up_to b xs))

-- a digit from `low` on
abbrev pub digit_from : ℕ → ℕ → Bool
digit_from low b = nat_le low b && nat_le b 57

-- the number that a text spells: one to three digits, and none leading that is 0
abbrev pub spelled : List ℕ → Option ℕ
spelled [] = None
spelled (a ∷ []) = cond (digit_from 48 a) (Some (a - 48)) None
spelled (a ∷ b ∷ []) = cond (digit_from 49 a && digit_from 48 b) (Some ((a - 48) * 10 + (b - 48))) None
spelled (a ∷ b ∷ c ∷ []) =
    cond (digit_from 49 a && (digit_from 48 b && digit_from 48 c)) (Some ((a - 48) * 100 + (b - 48) * 10 + (c - 48))) None
spelled (a ∷ b ∷ c ∷ d ∷ s) = None

-- what follows one space; nothing where there is no space
abbrev pub spaced : List ℕ → List ℕ
spaced [] = []
spaced (x ∷ xs) = cond (x == 32) xs []

-- after one space: up to the next space, from it on, and all that follows it
abbrev pub former : List ℕ → List ℕ
former s = take (up_to 32 (spaced s)) (spaced s)

abbrev pub further : List ℕ → List ℕ
further s = drop (up_to 32 (spaced s)) (spaced s)

abbrev pub latter : List ℕ → List ℕ
latter s = spaced (further s)

-- a line by its letter, with the parts that should be numbers
pub data Shape : Type 0 where
  contents : List ℕ → List ℕ → List ℕ → Shape
  latch : List ℕ → List ℕ → Shape
  gate : List ℕ → List ℕ → Shape
  bad : List ℕ → Shape

abbrev pub shape_by : ℕ → List ℕ → Option Shape
shape_by x s =
    cond (x == 99) (Some (contents (former s) (former (further s)) (latter (further s))))
    (cond (x == 108) (Some (latch (former s) (latter s)))
    (cond (x == 103) (Some (gate (former s) (latter s)))
    (cond (x == 98) (Some (bad (spaced s))) None)))

abbrev pub shape : List ℕ → Option Shape
shape [] = None
shape (x ∷ s) = shape_by x s

-- the line that the code holds, at what it borrows
abbrev pub seen : Option Line → Option Shape
seen None = None
seen (Some (Contents a b c)) = Some (contents a.now b.now c.now)
seen (Some (Latch a b)) = Some (latch a.now b.now)
seen (Some (Gate a b)) = Some (gate a.now b.now)
seen (Some (Bad a)) = Some (bad a.now)
