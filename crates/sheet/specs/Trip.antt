-- What reading and writing are to each other, in the words of the format. Assumes nothing.
use Rattle.std.specs.Prelude.{◌≡◌, ℕ, List, length, Ok}
use Rattle.lists.specs.Counted.{uncounted, on_counted}
use Rattle.sheet.specs.Sheets.{Legal, size_of}
use Rattle.sheet.specs.Parse.{parse, read_text}
use Rattle.sheet.specs.Render.{text_of, placed, write_text}

-- both or neither
abbrev pub Iff : Type 0 → Type 0 → Type 0
Iff P Q = (P → Q) × (Q → P)

-- a text reads to a list: into some list as long, reading it leaves this one
abbrev pub ReadsTo : List ℕ → List ℕ → Type 0
ReadsTo t l = (old : List ℕ) × (length old ≡ length l) × (uncounted old ≡ uncounted l) × (read_text t old ≡ (Ok (size_of l), l))

-- the same of every list as long
abbrev pub ReadsBack : List ℕ → List ℕ → Type 0
ReadsBack l t = (old : List ℕ) → length old ≡ length l → uncounted old ≡ uncounted l → read_text t old ≡ (Ok (size_of l), l)

-- writing the list gives the text, where there is room for it
abbrev pub WritesBack : List ℕ → List ℕ → Type 0
WritesBack t l = (old : List ℕ) → write_text l old ≡ on_counted (placed t) old

-- a text is accepted exactly if it is the text of a legal list, which is then the one that it gives
abbrev pub AcceptsLegalSheets : Type 0
AcceptsLegalSheets = (t l : List ℕ) → Iff (parse t ≡ Ok l) (Legal l × (length l ≡ size_of l) × (t ≡ text_of l))
