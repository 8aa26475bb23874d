-- The text of a list, and the lists that have one. Assumes nothing.
use Rattle.std.specs.Prelude.{ℕ, zero, suc, ◌+◌, ◌-◌, ◌*◌, ◌/◌, ◌%◌, Bool, true, cond, ◌&&◌, List, [], ◌∷◌, ◌++◌, length, drop, replicate, Ok, Err, Result, ◌==◌, nat_le, nat_lt, slice_index}
use Rattle.std.specs.List.{list_all}
use Rattle.lists.specs.Counted.{counted, on_counted}
use Rattle.sheet.specs.declared.fault.Cause.TheVariants.{ListTooShort, NotLegal}
use Rattle.sheet.specs.declared.fault.Fault.{Fault}
use Rattle.sheet.specs.declared.line.Due.{Due}
use Rattle.sheet.specs.declared.line.Due.TheVariants.{OfLatch, OfGate}
use Rattle.sheet.specs.Sheets.{input_count, latch_count, gate_count, bad_of, most_literal}
use Rattle.sheet.specs.Parse.{refusal, in_range, letter, ordered}

-- the digits of a number of at most three
abbrev pub digits : ℕ → List ℕ
digits n =
    cond (nat_lt n 10) ((48 + n % 10) ∷ [])
    (cond (nat_lt n 100) ((48 + n / 10 % 10) ∷ (48 + n % 10) ∷ [])
    ((48 + n / 100 % 10) ∷ (48 + n / 10 % 10) ∷ (48 + n % 10) ∷ []))

-- each number after one space, and the line's end
abbrev pub numbers_text : List ℕ → List ℕ
numbers_text [] = 10 ∷ []
numbers_text (n ∷ ns) = 32 ∷ (digits n ++ numbers_text ns)

-- a line: its letter and its numbers
abbrev pub line_text : ℕ → List ℕ → List ℕ
line_text x ns = x ∷ numbers_text ns

-- a line for each of the first n pairs of a list
abbrev pub pairs_text : ℕ → ℕ → List ℕ → List ℕ
pairs_text zero x s = []
pairs_text (suc n) x s = line_text x (slice_index s 0 ∷ slice_index s 1 ∷ []) ++ pairs_text n x (drop 2 s)

-- the text of a list that says i inputs, n latches and m gates
abbrev pub text_by : ℕ → ℕ → ℕ → List ℕ → List ℕ
text_by i n m l =
    line_text 99 (i ∷ n ∷ m ∷ [])
    ++ (pairs_text n (letter OfLatch) (drop 4 l) ++ (pairs_text m (letter OfGate) (drop (4 + 2 * n) l) ++ line_text 98 (bad_of l ∷ [])))

abbrev pub text_of : List ℕ → List ℕ
text_of l = text_by (input_count l) (latch_count l) (gate_count l) l

-- the first n pairs are such that lines of this kind may have them; `own` is the node of the first, if they are gates
abbrev pub pairs_fit : ℕ → Due → ℕ → ℕ → List ℕ → Bool
pairs_fit zero d most own s = true
pairs_fit (suc n) d most own s =
    (in_range d most (slice_index s 0) (slice_index s 1) && ordered d own (slice_index s 0) (slice_index s 1)) && pairs_fit n d most (own + 1) (drop 2 s)

abbrev pub all_zero : List ℕ → Bool
all_zero s = list_all (λ x. x == 0) s

-- a list that says i inputs, n latches and m gates is one that a text gives
abbrev pub fits : ℕ → ℕ → ℕ → List ℕ → Bool
fits i n m l =
    (nat_le i 24 && (nat_le 1 n && (nat_le n 24 && nat_le m 200))) && (nat_le (4 + 2 * (n + m)) (length l)
    && (nat_le (bad_of l) (most_literal (i + n + m))
    && (pairs_fit n OfLatch (most_literal (i + n + m)) (1 + i) (drop 4 l)
    && (pairs_fit m OfGate (most_literal (i + n + m)) (1 + i + n) (drop (4 + 2 * n) l)
    && all_zero (drop (4 + 2 * (n + m)) l)))))

abbrev pub well_formed : List ℕ → Bool
well_formed l = fits (input_count l) (latch_count l) (gate_count l) l

-- a text in lent bytes, with zeros behind, if there is room; the result is how many bytes it has
abbrev pub placed : List ℕ → List ℕ → Result ℕ Fault × List ℕ
placed t old =
    cond (nat_le (length t) (length old)) (Ok (length t), t ++ replicate (length old - length t) 0) (Err (refusal ListTooShort 0), old)

abbrev pub rendered : List ℕ → List ℕ → Result ℕ Fault × List ℕ
rendered l old = cond (well_formed l) (placed (text_of l) old) (Err (refusal NotLegal 0), old)

-- writing a list as a text into lent bytes
abbrev pub write_text : List ℕ → List ℕ → Result ℕ Fault × List ℕ
write_text l old = on_counted (rendered (counted l)) old
