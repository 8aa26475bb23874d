-- Why a text is refused at a line: what each number says of the line, in the words of the format. Assumes nothing.
use Rattle.std.specs.Prelude.{◌≡◌, ℕ, zero, suc, ◌+◌, ◌-◌, ◌/◌, ◌<◌, ◌≤◌, ◌⊎◌, List, [], ◌∷◌, ◌++◌, length, drop, Ok, Err, Result, ◌≢◌, slice_index}
use Rattle.sheet.specs.declared.fault.Cause.{Cause}
use Rattle.sheet.specs.declared.fault.Cause.TheVariants.{LineNotEnded, WrongLetter, NotNumbers, OutOfRange, OutOfOrder, TextGoesOn}
use Rattle.sheet.specs.declared.fault.Fault.{Fault}
use Rattle.sheet.specs.Sheets.{Legal, latch_count, gate_count, gate_node, literal_limit}
use Rattle.sheet.specs.Parts.{up_to}
use Rattle.sheet.specs.Render.{line_text, text_of}
use Rattle.sheet.specs.FirstLine.{first_lines}

-- what follows the first p lines of a text
abbrev pub after_lines : ℕ → List ℕ → List ℕ
after_lines zero t = t
after_lines (suc p) t = after_lines p (drop (up_to 10 t + 1) t)

-- the lines of a sheet
pub data Kind : Type 0 where
  contents_line : Kind
  latch_line : ℕ → Kind
  gate_line : ℕ → Kind
  bad_line : Kind

-- the letter of a line
abbrev pub letter_of : Kind → ℕ
letter_of contents_line = 99
letter_of (latch_line i) = 108
letter_of (gate_line g) = 103
letter_of bad_line = 98

-- how many numbers it has
abbrev pub numbers_in : Kind → ℕ
numbers_in contents_line = 3
numbers_in (latch_line i) = 2
numbers_in (gate_line g) = 2
numbers_in bad_line = 1

-- it is line p of a text whose contents line is that of l
abbrev pub IsLine : List ℕ → Kind → ℕ → Type 0
IsLine l contents_line p = p ≡ 1
IsLine l (latch_line i) p = (i < latch_count l) × (p ≡ 2 + i)
IsLine l (gate_line g) p = (g < gate_count l) × (p ≡ 2 + latch_count l + g)
IsLine l bad_line p = p ≡ 2 + latch_count l + gate_count l

-- its numbers are within their limits
abbrev pub InRange : List ℕ → Kind → List ℕ → Type 0
InRange l contents_line ns = (slice_index ns 0 ≤ 24) × (1 ≤ slice_index ns 1) × (slice_index ns 1 ≤ 24) × (slice_index ns 2 ≤ 200)
InRange l (latch_line i) ns = (slice_index ns 0 ≤ literal_limit l) × (slice_index ns 1 ≤ 2)
InRange l (gate_line g) ns = (slice_index ns 0 ≤ literal_limit l) × (slice_index ns 1 ≤ literal_limit l)
InRange l bad_line ns = slice_index ns 0 ≤ literal_limit l

-- a gate stands above its left operand, and that above its right one; no other line has an order
abbrev pub InOrder : List ℕ → Kind → List ℕ → Type 0
InOrder l contents_line ns = Unit {0}
InOrder l (latch_line i) ns = Unit {0}
InOrder l (gate_line g) ns = (slice_index ns 0 / 2 < gate_node l g) × (slice_index ns 1 / 2 < slice_index ns 0 / 2)
InOrder l bad_line ns = Unit {0}

-- the first line of a text has an end
abbrev pub HasEnd : List ℕ → Type 0
HasEnd s = (x : List ℕ) × (r : List ℕ) × (s ≡ x ++ (10 ∷ r))

-- it is the line of these numbers, each of at most three digits
pub record Says (k : Kind) (s ns : List ℕ) : Type 0 where
  pub as_many : length ns ≡ numbers_in k
  pub three_digits : (i : ℕ) → slice_index ns i ≤ 999
  pub line : first_lines 1 s ≡ line_text (letter_of k) ns

-- why a text s does not begin with the line that is due, by check: it has no end; it has another letter; it has not the
-- numbers that are due; they are not within their limits; they are not in order
pub data Wrong (l : List ℕ) (k : Kind) (s : List ℕ) (c : Cause) : Type 0 where
  not_ended : c ≡ LineNotEnded → (HasEnd s → ⊥) → Wrong l k s c
  other_letter : c ≡ WrongLetter → HasEnd s → (slice_index s 0 ≢ letter_of k) → Wrong l k s c
  no_numbers : c ≡ NotNumbers → HasEnd s → slice_index s 0 ≡ letter_of k → ((ns : List ℕ) → Says k s ns → ⊥) → Wrong l k s c
  out_of_range : c ≡ OutOfRange → (ns : List ℕ) → Says k s ns → (InRange l k ns → ⊥) → Wrong l k s c
  out_of_order : c ≡ OutOfOrder → (ns : List ℕ) → Says k s ns → InRange l k ns → (InOrder l k ns → ⊥) → Wrong l k s c

-- more follows the text of l
pub record GoesOn (t l : List ℕ) (c : Cause) (p : ℕ) : Type 0 where
  pub cause : c ≡ TextGoesOn
  pub place : p ≡ 3 + latch_count l + gate_count l
  pub whole : first_lines (p - 1) t ≡ text_of l
  pub more : after_lines (p - 1) t ≡ [] → ⊥

-- the first p lines of t are those of the text of l
abbrev pub BeginsAs : ℕ → List ℕ → List ℕ → Type 0
BeginsAs p t l = first_lines p t ≡ first_lines p (text_of l)

-- why t, which up to line p begins as the text of l, is refused there by the check c
abbrev pub Reason : List ℕ → List ℕ → Cause → ℕ → Type 0
Reason t l c p = ((k : Kind) × IsLine l k p × Wrong l k (after_lines (p - 1) t) c) ⊎ GoesOn t l c p

-- a refusal is of no line, or there is a reason for its check and for no other, by whichever legal list the text begins as
-- up to that line
abbrev pub Reasoned : List ℕ → Result ℕ Fault → Type 0
Reasoned t (Ok k) = Unit {0}
Reasoned t (Err f) =
    (f.place ≡ 0)
    ⊎ ((l : List ℕ)
    → Legal l
    → BeginsAs (f.place - 1) t l
    → Reason t l f.cause f.place × ((c : Cause) → Reason t l c f.place → c ≡ f.cause))
