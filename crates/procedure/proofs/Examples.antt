-- Small checks that end. Assumes nothing.
use Rattle.std.proofs.Common.{◌≡◌, ℕ, zero, suc, ◌+◌, ◌<◌, ◌≤◌, Bool, true, false, not, [], ◌∷◌, sym, refl, ◌∙◌, inl, inr, arith}
use Rattle.std.proofs.lemmas.Bool.{both_ways, cases_Bool, and_parts, and_from, not-true, not_from_false}
use Rattle.machine.specs.Bits.{Bits, bit}
use Rattle.machine.specs.Runs.{State, Frame, value_in, Follows, BadState, Reaches}
use Rattle.machine.specs.Depth.{ReverseDepth}
use Rattle.procedure.specs.Procedure.{Region, Check, path, asks, opening, after, deeper, larger, ended, safe, run, undecided, spent, Series, opens, answers, start_no, path_run, path_ends, path_deeper, path_no, inclusion_yes, inclusion_no, Witness, Interpolant}
use Rattle.procedure.specs.Happens.{starters, quiet, flips, leaps, one_bit, Happens}
use Rattle.procedure.proofs.Starting.{start_region}
use Rattle.procedure.proofs.Sound.{bad_reaches, some_steps, never}

-- the only inputs of a machine that has none
abbrev no_inputs : Bits 0
no_inputs = record { bits = []; sized = refl }

abbrev two_bits : Bool → Bool → Bits 2
two_bits p q = record { bits = p ∷ q ∷ []; sized = refl }

-- what holds at the first place, or at the first two, holds at each below
below_one : (P : ℕ → Type 0) → P 0 → (i : ℕ) → i < 1 → P i
below_one P a zero h = a
below_one P a (suc i) h = absurd (omega arith)

below_two : (P : ℕ → Type 0) → P 0 → P 1 → (i : ℕ) → i < 2 → P i
below_two P a b zero h = a
below_two P a b (suc zero) h = b
below_two P a b (suc (suc i)) h = absurd (omega arith)

-- a bit that is clear is not set
clear_bit : (b : Bool) → not b ≡ true → b ≡ true → ⊥
clear_bit b e f = both_ways b (not-true b e) f

abbrev one_by_one : ℕ → ℕ
one_by_one k = k + 1

-- ---- nothing is bad in `quiet`
quiet_never : (d : State quiet) (j : ℕ) → Reaches quiet d j → ⊥
quiet_never d j w = both_ways false refl w.meets.ends_bad

quiet_fair : Interpolant quiet (starters quiet) 0 (starters quiet)
quiet_fair =
    record {
      follows = λ f d e st. not_from_false (bit d 0) (st 0 (omega arith));
      far = λ d j e w. absurd (quiet_never d j w);
    }

ends_safe : Series quiet (starters quiet) one_by_one 0 10 (ended safe 3)
ends_safe =
    answers _ _
    (answers _ _ (answers _ _ opens (start_no (opening (starters quiet)) (λ d e b. both_ways false refl b.1)))
    (path_no (after (opening (starters quiet))) (starters quiet) (λ d j w. quiet_never d j w.reaches) quiet_fair))
    (inclusion_no (after (after (opening (starters quiet)))) (starters quiet) (λ d e. e))

-- ---- the start state of `flips` is followed by a bad one
flip : Reaches flips (one_bit false) 1
flip =
    record {
      inputs = no_inputs;
      later = record { state = one_bit true; inputs = no_inputs } ∷ [];
      meets =
          record {
            path = (below_one (λ i. bit (one_bit true) i ≡ value_in flips (record { state = one_bit false; inputs = no_inputs }) (flips.next i)) refl, tt);
            ends_bad = refl;
          };
      steps = refl;
    }

ends_run : Series flips (starters flips) one_by_one 0 10 (ended (run (one_bit false) 1) 2)
ends_run =
    answers _ _ (answers _ _ opens (start_no (opening (starters flips)) (λ d e b. clear_bit (bit d 0) e b.1)))
    (path_run (after (opening (starters flips))) (one_bit false) 1 (record { inside = refl; reaches = flip; some = omega arith; few = omega arith }) refl)

-- ---- `leaps`: nothing bad is reached from its start states
started : (d : State leaps) → starters leaps d ≡ true → (not (bit d 0) ≡ true) × (not (bit d 1) ≡ true)
started d e = and_parts (not (bit d 0)) (not (bit d 1)) e

next_clear : (f : Frame leaps) (d : State leaps) (i : ℕ) → starters leaps f.state ≡ true → bit d i ≡ bit f.state 1 → not (bit d i) ≡ true
next_clear f d i e st = not_from_false (bit d i) (st ∙ not-true (bit f.state 1) (started f.state e).1)

stays : (f : Frame leaps) (d : State leaps) → starters leaps f.state ≡ true → Follows leaps f d → starters leaps d ≡ true
stays f d e st =
    and_from (not (bit d 0)) (not (bit d 1)) (next_clear f d 0 e (st 0 (omega arith))) (next_clear f d 1 e (st 1 (omega arith)))

not_at_start : (d : State leaps) → starters leaps d ≡ true → BadState leaps d → ⊥
not_at_start d e b = clear_bit (bit d 0) (started d e).0 b.1

leaps_never : (d : State leaps) (j : ℕ) → starters leaps d ≡ true → Reaches leaps d j → ⊥
leaps_never d j e w =
    never leaps (starters leaps) stays (λ f e b. not_at_start f.state e (f.inputs, b))
    (record { state = d; inputs = w.inputs }) w.later e w.meets

leap : (d : State leaps) → bit d 1 ≡ true → Reaches leaps d 1
leap d e =
    record {
      inputs = no_inputs;
      later = record { state = two_bits true true; inputs = no_inputs } ∷ [];
      meets =
          record {
            path = (
              below_two (λ i. bit (two_bits true true) i ≡ value_in leaps (record { state = d; inputs = no_inputs }) (leaps.next i)) (sym e) (sym e),
              tt,
            );
            ends_bad = refl;
          };
      steps = refl;
    }

-- the states with the first latch clear hold what follows the start states, and are not bad; and so do the start states
abbrev clear : Region leaps
clear d = not (bit d 0)

clear_fair : Interpolant leaps (starters leaps) 0 clear
clear_fair =
    record {
      follows = λ f d e st. next_clear f d 0 e (st 0 (omega arith));
      far = λ d j e w. some_steps d j (λ b. clear_bit (bit d 0) e b.1) w;
    }

start_fair : Interpolant leaps (starters leaps) 1 (starters leaps)
start_fair = record { follows = stays; far = λ d j e w. absurd (leaps_never d j e w) }

-- the checks of `leaps` after its first answer and those that follow; the fourth leads to the next bound
abbrev c₁ : Check leaps
c₁ = after (opening (starters leaps))

abbrev c₂ : Check leaps
c₂ = after c₁

abbrev c₃ : Check leaps
c₃ = larger clear c₂

abbrev c₄ : Check leaps
c₄ = deeper (starters leaps) 1 c₃

grows : (K : ℕ) → Series leaps (starters leaps) one_by_one K 10 (asks c₃ path)
grows K =
    answers _ _
    (answers _ _ (answers _ _ opens (start_no (opening (starters leaps)) not_at_start))
    (path_no c₁ clear (λ d j w. leaps_never d j w.inside w.reaches) clear_fair))
    (inclusion_yes c₂ clear (two_bits false true) refl refl)

strays : Witness leaps c₃.region 0 (two_bits false true) 1
strays = record { inside = refl; reaches = leap (two_bits false true) refl; some = omega arith; few = omega arith }

ends_undecided : Series leaps (starters leaps) one_by_one 0 10 (ended undecided 4)
ends_undecided = answers _ _ (grows 0) (path_ends c₃ (two_bits false true) 1 strays refl refl)

ends_safe_deeper : Series leaps (starters leaps) one_by_one 1 10 (ended safe 6)
ends_safe_deeper =
    answers _ _
    (answers _ _ (answers _ _ (grows 1) (path_deeper c₃ (two_bits false true) 1 strays refl (λ e. omega arith)))
    (path_no c₄ (starters leaps) (λ d j w. leaps_never d j w.inside w.reaches) start_fair))
    (inclusion_no (after c₄) (starters leaps) (λ d e. e))

ends_spent : Series leaps (starters leaps) one_by_one 0 2 (ended spent 2)
ends_spent =
    answers _ _ (answers _ _ opens (start_no (opening (starters leaps)) not_at_start))
    (path_no c₁ clear (λ d j w. leaps_never d j w.inside w.reaches) clear_fair)

-- a state of `leaps` is bad, or followed by a bad one, or a start state
near : (d : State leaps) (m : ℕ) → Reaches leaps d m → (q : ℕ) × (q ≤ 1) × Reaches leaps d q
near d m w =
    elim (cases_Bool (bit d 0)) [
      | inl p ↦ (0, omega arith, bad_reaches d (no_inputs, p))
      | inr not-p ↦
          (elim (cases_Bool (bit d 1)) [
            | inl q ↦ (1, omega arith, leap d q)
            | inr not-q ↦
                absurd (leaps_never d m (and_from (not (bit d 0)) (not (bit d 1)) (not_from_false (bit d 0) not-p) (not_from_false (bit d 1) not-q)) w)
          ])
    ]

depth_one : ReverseDepth leaps 1
depth_one =
    record {
      within = near;
      least = λ q h.
          let t = h (two_bits false true) 1 (leap (two_bits false true) refl) in
          omega (arith, t.1, some_steps (two_bits false true) t.0 (λ b. both_ways false refl b.1) t.2);
    }

pub happens : Happens
happens =
    record {
      has_start_region = start_region;
      ends_safe = ends_safe;
      ends_run = ends_run;
      depth_one = depth_one;
      ends_undecided = ends_undecided;
      ends_safe_deeper = ends_safe_deeper;
      ends_spent = ends_spent;
    }
