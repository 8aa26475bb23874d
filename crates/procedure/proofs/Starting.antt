-- Each machine has a start state, and a test of which states are. Assumes nothing.
use Rattle.std.proofs.Common.{◌≡◌, ℕ, zero, suc, ◌<◌, ◌≤◌, Bool, true, false, map, refl, ap, ◌∙◌, subst, inl, inr, arith}
use Rattle.std.specs.List.{range_with_len}
use Rattle.std.proofs.lemmas.List.FromFn.{length-map-range_with_len, get_or-map-range_with_len}
use Rattle.std.proofs.lemmas.Bool.{and_parts, and_from, cases_lt, not-true}
use Rattle.sheet.specs.Sheets.{Sheet, Start, set, unset}
use Rattle.signal.specs.Sets.{exactly}
use Rattle.machine.specs.Bits.{bit}
use Rattle.machine.specs.Runs.{State, Starts}
use Rattle.procedure.specs.Procedure.{StartRegion}
use Rattle.procedure.specs.Happens.{starts_with, starting, starters}

-- a bit that a latch may start with
abbrev first_bit : Start → Bool
first_bit (set b) = b
first_bit unset = false

pub first_state : (s : Sheet) → (d : State s) × Starts s d
first_state s = (
  record {
    bits = map (λ i. first_bit (s.start i)) (range_with_len 0 s.latches);
    sized = length-map-range_with_len (λ i. first_bit (s.start i)) 0 s.latches;
  },
  λ i b h e. get_or-map-range_with_len (λ k. first_bit (s.start k)) 0 s.latches i i false h (omega arith) ∙ ap first_bit e,
)

exactly_is : (b x : Bool) → exactly b x ≡ true → x ≡ b
exactly_is true x e = e
exactly_is false x e = not-true x e

is_exactly : (b x : Bool) → x ≡ b → exactly b x ≡ true
is_exactly true x e = e
is_exactly false x e = rw e refl

-- what `starts_with` tests
tests : (t : Start) (x : Bool) → ((b : Bool) → t ≡ set b → x ≡ b) → starts_with t x ≡ true
tests (set b) x h = is_exactly b x (h b refl)
tests unset x h = refl

tested : (t : Start) (x : Bool) → starts_with t x ≡ true → (b : Bool) → t ≡ set b → x ≡ b
tested t x e b f = exactly_is b x (rw f at e)

starting_starts : (s : Sheet) (n : ℕ) (d : State s) → starting s n d ≡ true
    → (i : ℕ) (b : Bool) → i < n → s.start i ≡ set b → bit d i ≡ b
starting_starts s zero d e i b h f = absurd (omega arith)
starting_starts s (suc n) d e i b h f =
    let parts = and_parts (starting s n d) (starts_with (s.start n) (bit d n)) e in
    elim (cases_lt i n) [
      | inl lt ↦ starting_starts s n d parts.0 i b lt f
      | inr le ↦
          (let last : n ≡ i = omega arith in
          tested (s.start i) (bit d i) (subst (λ k. starts_with (s.start k) (bit d k) ≡ true) last parts.1) b f)
    ]

starts_starting : (s : Sheet) (n : ℕ) (d : State s) → n ≤ s.latches → Starts s d → starting s n d ≡ true
starts_starting s zero d h e = refl
starts_starting s (suc n) d h e =
    and_from (starting s n d) (starts_with (s.start n) (bit d n)) (starts_starting s n d (omega arith) e)
    (tests (s.start n) (bit d n) (λ b. e n b (omega arith)))

pub start_region : (s : Sheet) → StartRegion s (starters s)
start_region s d = (starting_starts s s.latches d, starts_starting s s.latches d (omega arith))
