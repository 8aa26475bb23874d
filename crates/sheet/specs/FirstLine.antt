-- Where a text departs from the texts of legal lists: the first line that none of them has. Assumes nothing.
use Rattle.std.specs.Prelude.{◌≡◌, ℕ, zero, suc, ◌+◌, ◌-◌, ◌<◌, ◌≤◌, ◌⊎◌, List, [], ◌++◌, length, take, drop, Ok, Err, Result}
use Rattle.sheet.specs.declared.fault.Cause.{Cause}
use Rattle.sheet.specs.declared.fault.Cause.TheVariants.{TextTooLong, ListTooShort}
use Rattle.sheet.specs.declared.fault.Fault.{Fault}
use Rattle.sheet.specs.Sheets.{Legal}
use Rattle.sheet.specs.Parts.{up_to}
use Rattle.sheet.specs.Render.{text_of}

-- the first p lines of a text, with their ends
abbrev pub first_lines : ℕ → List ℕ → List ℕ
first_lines zero t = []
first_lines (suc p) t = take (up_to 10 t + 1) t ++ first_lines p (drop (up_to 10 t + 1) t)

-- the text is that of a legal list
abbrev pub IsLegal : List ℕ → Type 0
IsLegal t = (l : List ℕ) × Legal l × (t ≡ text_of l)

-- its first p lines are those of the text of some legal list
abbrev pub Begins : ℕ → List ℕ → Type 0
Begins p t = (l : List ℕ) × Legal l × (first_lines p t ≡ first_lines p (text_of l))

-- a refusal by the check c at place p: the text is too long, or p is the first of its lines at which it is the beginning of no
-- legal list's text
abbrev pub FirstWrongLine : List ℕ → Cause → ℕ → Type 0
FirstWrongLine t c p = ((c ≡ TextTooLong) × (p ≡ 0) × (4096 < length t)) ⊎ ((1 ≤ p) × Begins (p - 1) t × (Begins p t → ⊥))

-- what reading says of a text: it is that of a legal list, also where the list lent for it is too short, or which line is wrong
abbrev pub Judged : List ℕ → Result ℕ Fault → Type 0
Judged t (Ok k) = IsLegal t
Judged t (Err f) = ((f.cause ≡ ListTooShort) × (f.place ≡ 0) × IsLegal t) ⊎ FirstWrongLine t f.cause f.place
