-- The format: which list a text gives, or the refusal that comes first. Assumes nothing.
use Rattle.std.specs.Prelude.{ℕ, zero, suc, ◌+◌, ◌-◌, ◌/◌, Bool, true, cond, ◌&&◌, List, [], ◌∷◌, ◌++◌, length, take, drop, replicate, Some, None, Ok, Err, Option, Result, ◌==◌, nat_le, nat_lt}
use Rattle.lists.specs.Counted.{on_counted}
use Rattle.sheet.specs.declared.fault.Cause.{Cause}
use Rattle.sheet.specs.declared.fault.Cause.TheVariants.{TextTooLong, LineNotEnded, WrongLetter, NotNumbers, OutOfRange, OutOfOrder, TextGoesOn, ListTooShort}
use Rattle.sheet.specs.declared.fault.Fault.{Fault}
use Rattle.sheet.specs.declared.fault.Layer.TheVariants.{Sheet}
use Rattle.sheet.specs.declared.line.Due.{Due}
use Rattle.sheet.specs.declared.line.Due.TheVariants.{OfLatch, OfGate}
use Rattle.sheet.specs.Sheets.{most_literal}
use Rattle.sheet.specs.Faults.{fault, and_then, demand, given}
use Rattle.sheet.specs.Parts.{up_to, spelled, spaced, former, further, latter}

-- the refusals of a text, by check and line
abbrev pub refusal : Cause → ℕ → Fault
refusal c p = fault Sheet c p

-- the first line, without its end, and what follows it, if it has an end
abbrev pub line_if : List ℕ → Option (List ℕ × List ℕ)
line_if t = cond (nat_lt (up_to 10 t) (length t)) (Some (take (up_to 10 t) t, drop (up_to 10 t + 1) t)) None

-- the same, or the refusal of line p
abbrev pub line_of : ℕ → List ℕ → Result (List ℕ × List ℕ) Fault
line_of p t = given (line_if t) (refusal LineNotEnded p)

-- the parts of a line that should be numbers, three, two or one, if its letter is the one that is due
abbrev pub triples_if : ℕ → List ℕ → Option (List ℕ × List ℕ × List ℕ)
triples_if x [] = None
triples_if x (y ∷ s) = cond (y == x) (Some (former s, former (further s), latter (further s))) None

abbrev pub parts_if : ℕ → List ℕ → Option (List ℕ × List ℕ)
parts_if x [] = None
parts_if x (y ∷ s) = cond (y == x) (Some (former s, latter s)) None

abbrev pub part_if : ℕ → List ℕ → Option (List ℕ)
part_if x [] = None
part_if x (y ∷ s) = cond (y == x) (Some (spaced s)) None

-- the number of a part of line p
abbrev pub number_of : ℕ → List ℕ → Result ℕ Fault
number_of p s = given (spelled s) (refusal NotNumbers p)

-- the contents line: inputs, latches, gates, and what follows it
abbrev pub read_contents : List ℕ → Result (ℕ × ℕ × ℕ × List ℕ) Fault
read_contents t =
    and_then (line_of 1 t) (λ l.
    and_then (given (triples_if 99 l.0) (refusal WrongLetter 1)) (λ s.
    and_then (number_of 1 s.0) (λ i.
    and_then (number_of 1 s.1) (λ n.
    and_then (number_of 1 s.2) (λ m.
    demand (nat_le i 24 && (nat_le 1 n && (nat_le n 24 && nat_le m 200))) (refusal OutOfRange 1) (Ok (i, n, m, l.1)))))))

-- lines of two numbers: their letter, how large the second number may be, and for a gate, whose node is `own`, the order of
-- its operands
abbrev pub letter : Due → ℕ
letter OfLatch = 108
letter OfGate = 103

abbrev pub top_of : Due → ℕ → ℕ
top_of OfLatch most = 2
top_of OfGate most = most

abbrev pub ordered : Due → ℕ → ℕ → ℕ → Bool
ordered OfLatch own a b = true
ordered OfGate own a b = nat_lt (a / 2) own && nat_lt (b / 2) (a / 2)

abbrev pub in_range : Due → ℕ → ℕ → ℕ → Bool
in_range d most a b = nat_le a most && nat_le b (top_of d most)

-- such a line, and what follows it
abbrev pub read_pair : Due → ℕ → ℕ → ℕ → List ℕ → Result (ℕ × ℕ × List ℕ) Fault
read_pair d most own p t =
    and_then (line_of p t) (λ l.
    and_then (given (parts_if (letter d) l.0) (refusal WrongLetter p)) (λ s.
    and_then (number_of p s.0) (λ a.
    and_then (number_of p s.1) (λ b.
    demand (in_range d most a b) (refusal OutOfRange p)
    (demand (ordered d own a b) (refusal OutOfOrder p) (Ok (a, b, l.1)))))))

-- n such lines, whose numbers go behind those read before
abbrev pub read_pairs : ℕ → Due → ℕ → ℕ → List ℕ → ℕ → List ℕ → Result (List ℕ × List ℕ) Fault
read_pairs zero d most own before p t = Ok (before, t)
read_pairs (suc n) d most own before p t =
    and_then (read_pair d most own p t) (λ r. read_pairs n d most (own + 1) (before ++ (r.0 ∷ r.1 ∷ [])) (p + 1) r.2)

-- the line of the bad literal, and what follows it
abbrev pub read_bad : ℕ → ℕ → List ℕ → Result (ℕ × List ℕ) Fault
read_bad most p t =
    and_then (line_of p t) (λ l.
    and_then (given (part_if 98 l.0) (refusal WrongLetter p)) (λ s.
    and_then (number_of p s) (λ a.
    demand (nat_le a most) (refusal OutOfRange p) (Ok (a, l.1)))))

-- the lines after the contents line, which said i inputs, n latches and m gates
abbrev pub parse_rest : ℕ → ℕ → ℕ → List ℕ → Result (List ℕ) Fault
parse_rest i n m t =
    and_then (read_pairs n OfLatch (most_literal (i + n + m)) (1 + i) [] 2 t) (λ l.
    and_then (read_pairs m OfGate (most_literal (i + n + m)) (1 + i + n) l.0 (2 + n) l.1) (λ g.
    and_then (read_bad (most_literal (i + n + m)) (2 + n + m) g.1) (λ b.
    demand (length b.1 == 0) (refusal TextGoesOn (3 + n + m)) (Ok (i ∷ n ∷ m ∷ b.0 ∷ g.0)))))

abbrev pub parse_lines : List ℕ → Result (List ℕ) Fault
parse_lines t = and_then (read_contents t) (λ c. parse_rest c.0 c.1 c.2 c.3)

-- the list that a text gives
abbrev pub parse : List ℕ → Result (List ℕ) Fault
parse t = demand (nat_le (length t) 4096) (refusal TextTooLong 0) (parse_lines t)

-- the list in a lent one, with zeros behind, if there is room; the result is how many of its places are used
abbrev pub stored : Result (List ℕ) Fault → List ℕ → Result ℕ Fault × List ℕ
stored (Err e) old = (Err e, old)
stored (Ok new) old =
    cond (nat_le (length new) (length old)) (Ok (length new), new ++ replicate (length old - length new) 0) (Err (refusal ListTooShort 0), old)

-- reading a text into a lent list
abbrev pub read_text : List ℕ → List ℕ → Result ℕ Fault × List ℕ
read_text t old = on_counted (stored (parse t)) old
