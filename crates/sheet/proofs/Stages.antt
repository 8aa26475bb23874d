-- The stages of reading by name, and what an accepted stage came from. Assumes nothing.
use Rattle.std.proofs.Common.{◌≡◌, ℕ, ◌+◌, Bool, true, false, cond, ◌&&◌, eqb, leb, List, ◌∷◌, length, Some, None, Ok, Err, Option, Result, sym, refl, arith}
use Rattle.sheet.specs.declared.fault.Cause.TheVariants.{WrongLetter, OutOfRange, OutOfOrder, TextGoesOn}
use Rattle.sheet.specs.declared.fault.Fault.{Fault}
use Rattle.sheet.specs.declared.line.Due.{Due}
use Rattle.sheet.specs.declared.line.Due.TheVariants.{OfGate}
use Rattle.sheet.specs.Sheets.{most_literal}
use Rattle.sheet.specs.Faults.{and_then, demand, given}
use Rattle.sheet.specs.Parse.{refusal, triples_if, parts_if, part_if, number_of, letter, in_range, ordered, read_pairs, read_bad}

-- the contents line: its numbers are in range; its parts are numbers; its letter is right
abbrev pub contents_if : List ℕ → ℕ → ℕ → ℕ → Result (ℕ × ℕ × ℕ × List ℕ) Fault
contents_if r i n m = demand (leb i 24 && (leb 1 n && (leb n 24 && leb m 200))) (refusal OutOfRange 1) (Ok (i, n, m, r))

abbrev pub contents_of : List ℕ → List ℕ × List ℕ × List ℕ → Result (ℕ × ℕ × ℕ × List ℕ) Fault
contents_of r s =
    and_then (number_of 1 s.0) (λ i. and_then (number_of 1 s.1) (λ n. and_then (number_of 1 s.2) (λ m. contents_if r i n m)))

abbrev pub contents_from : List ℕ × List ℕ → Result (ℕ × ℕ × ℕ × List ℕ) Fault
contents_from l = and_then (given (triples_if 99 l.0) (refusal WrongLetter 1)) (contents_of l.1)

-- a line of two numbers, likewise
abbrev pub pair_if : Due → ℕ → ℕ → ℕ → List ℕ → ℕ → ℕ → Result (ℕ × ℕ × List ℕ) Fault
pair_if d most own p r a b =
    demand (in_range d most a b) (refusal OutOfRange p) (demand (ordered d own a b) (refusal OutOfOrder p) (Ok (a, b, r)))

abbrev pub pair_of : Due → ℕ → ℕ → ℕ → List ℕ → List ℕ × List ℕ → Result (ℕ × ℕ × List ℕ) Fault
pair_of d most own p r s =
    and_then (number_of p s.0) (λ a. and_then (number_of p s.1) (λ b. pair_if d most own p r a b))

abbrev pub pair_from : Due → ℕ → ℕ → ℕ → List ℕ × List ℕ → Result (ℕ × ℕ × List ℕ) Fault
pair_from d most own p l = and_then (given (parts_if (letter d) l.0) (refusal WrongLetter p)) (pair_of d most own p l.1)

-- the line of the bad literal, likewise
abbrev pub bad_if : ℕ → ℕ → List ℕ → ℕ → Result (ℕ × List ℕ) Fault
bad_if most p r a = demand (leb a most) (refusal OutOfRange p) (Ok (a, r))

abbrev pub bad_by : ℕ → ℕ → List ℕ → List ℕ → Result (ℕ × List ℕ) Fault
bad_by most p r s = and_then (number_of p s) (bad_if most p r)

abbrev pub bad_from : ℕ → ℕ → List ℕ × List ℕ → Result (ℕ × List ℕ) Fault
bad_from most p l = and_then (given (part_if 98 l.0) (refusal WrongLetter p)) (bad_by most p l.1)

-- what follows the bad literal, the gates, the latches
abbrev pub last_of : ℕ → ℕ → ℕ → List ℕ → ℕ × List ℕ → Result (List ℕ) Fault
last_of i n m g b = demand (eqb (length b.1) 0) (refusal TextGoesOn (3 + n + m)) (Ok (i ∷ n ∷ m ∷ b.0 ∷ g))

abbrev pub gates_of : ℕ → ℕ → ℕ → List ℕ × List ℕ → Result (List ℕ) Fault
gates_of i n m g = and_then (read_bad (most_literal (i + n + m)) (2 + n + m) g.1) (last_of i n m g.0)

abbrev pub latches_of : ℕ → ℕ → ℕ → List ℕ × List ℕ → Result (List ℕ) Fault
latches_of i n m l =
    and_then (read_pairs m OfGate (most_literal (i + n + m)) (1 + i + n) l.0 (2 + n) l.1) (gates_of i n m)

-- what an Ok or a Some came from
pub err_not : {X : Type 0} (e : Fault) (y : X) → ◌≡◌ {A = Result X Fault} (Err e) (Ok y) → ⊥
err_not e y h = let z : ◌≡◌ {A = ℕ} 0 1 = cc in omega arith

pub none_not : {X : Type 0} (y : X) → ◌≡◌ {A = Option X} None (Some y) → ⊥
none_not y h = let z : ◌≡◌ {A = ℕ} 0 1 = cc in omega arith

pub some_cond : {X : Type 0} (b : Bool) (x y : X) → Some x ≡ cond b (Some y) None → (b ≡ true) × (x ≡ y)
some_cond true x y e = (refl, cc)
some_cond false x y e = absurd (none_not x (sym e))

pub and_then_inv : {X Y : Type 0} (r : Result X Fault) (f : X → Result Y Fault) (y : Y) → and_then r f ≡ Ok y → (x : X) × ((r ≡ Ok x) × (f x ≡ Ok y))
and_then_inv (Ok x) f y h = (x, (refl, h))
and_then_inv (Err e) f y h = absurd (err_not e y h)

pub given_inv : {X : Type 0} (o : Option X) (e : Fault) (x : X) → given o e ≡ Ok x → o ≡ Some x
given_inv None e x h = absurd (err_not e x h)
given_inv (Some y) e x h = cc

pub demand_inv : {X : Type 0} (b : Bool) (e : Fault) (r : Result X Fault) (y : X) → demand b e r ≡ Ok y → (b ≡ true) × (r ≡ Ok y)
demand_inv true e r y h = (refl, h)
demand_inv false e r y h = absurd (err_not e y h)

pub ok_same : {X : Type 0} (x y : X) → ◌≡◌ {A = Result X Fault} (Ok x) (Ok y) → x ≡ y
ok_same x y h = cc
