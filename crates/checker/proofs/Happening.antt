-- Small checks that end, call by call. Assumes nothing.
use Rattle.std.proofs.Common.{◌≡◌, ℕ, ◌+◌, true, false, List, [], ◌∷◌, ◌++◌, replicate, Ok, refl}
use Rattle.formula.specs.Built.{literal}
use Rattle.checker.specs.declared.Kind.{Kind}
use Rattle.checker.specs.declared.Kind.TheVariants.{Start, Path, Inclusion}
use Rattle.checker.specs.declared.Lack.TheVariants.{Formula, Question, LineValues}
use Rattle.checker.specs.declared.End.{End}
use Rattle.checker.specs.declared.End.TheVariants.{Safe, Run, Undecided, Spent, Short}
use Rattle.checker.specs.declared.Region.{Region}
use Rattle.checker.specs.declared.Asked.{Asked}
use Rattle.checker.specs.declared.Weighed.{Weighed}
use Rattle.checker.specs.declared.Ended.{Ended}
use Rattle.checker.specs.declared.Moved.{Moved}
use Rattle.checker.specs.declared.Moved.TheVariants.{Asked as goes_on, Ended as is-over}
use Rattle.checker.specs.Lists.{Lists, lists}
use Rattle.checker.specs.Opening.{opened}
use Rattle.checker.specs.Calls.{weighed, taken}
use Rattle.checker.specs.Series.{at_asked, at_ended, reached, Series, opens, shows, weighs, takes}
use Rattle.checker.specs.Happens.{stays_clear, turns_over, take_the_second, keeps_its_bit, takes_the_input, Happens}

abbrev zeros : ℕ → List ℕ
zeros n = replicate n 0

abbrev region : ℕ → ℕ → Region
region r gates = record { literal = literal r; gates = gates; grown = false }

abbrev grown : ℕ → ℕ → Region
grown r gates = record { literal = literal r; gates = gates; grown = true }

-- a check with the limits K and Q at a question of n numbers, with the bound k
abbrev asked : ℕ → ℕ → Kind → ℕ → ℕ → Region → Region → ℕ → Asked
asked K Q kind n k r opening turns =
    record { kind = kind; size = n; bound = k; region = r; opening = opening; limits = record { bound = K; turns = Q }; turns = turns }

abbrev over : End → ℕ → ℕ → Ended
over v k turns = record { end = v; bound = k; turns = turns }

abbrev on : Asked → Weighed
on a = record { asked = a }

-- the refutation t is weighed, with the working list w, and taken
refuted : {l : List ℕ} {K Q : ℕ} {a : Asked} {x : Lists} {n : ℕ} (t w w' : List ℕ) (m : Moved) (x' : Lists)
    → Series l K Q (at_asked a) x n → weighed a x.question t w ≡ (Ok (on a), w') → taken l (on a) t x ≡ (m, x')
    → Series l K Q (reached m []) x' (n + 1)
refuted {a = a} {x = x} {n = n} t w w' m x' s e e' = takes (on a) x n t m x' (weighs a x n t w (on a) w' s e) e'

-- ---- machines of one latch that begins clear, and no input: the start formula and the start question
abbrev clear : Region
clear = region 3 0

abbrev at_first : List ℕ
at_first = 2 ∷ 3 ∷ 0 ∷ 7 ∷ 8 ∷ 9 ∷ 10 ∷ 1 ∷ 3 ∷ 2 ∷ []

-- a latch is not both set and clear
abbrev not_both : List ℕ
not_both = 1 ∷ 2 ∷ 1 ∷ 1 ∷ []

-- ---- `stays_clear`: the interpolant is the start formula
abbrev safe_path : List ℕ
safe_path = 4 ∷ 6 ∷ 4 ∷ 10 ∷ 11 ∷ 13 ∷ 15 ∷ 16 ∷ 17 ∷ 18 ∷ 1 ∷ 0 ∷ 7 ∷ 1 ∷ 6 ∷ 3 ∷ 5 ∷ 6 ∷ []

abbrev safe_refutation : List ℕ
safe_refutation = 2 ∷ 5 ∷ 1 ∷ 3 ∷ 6 ∷ 0 ∷ 0 ∷ []

abbrev safe₀ : Asked
safe₀ = asked 0 10 Start 10 0 clear clear 0

abbrev safe₁ : Asked
safe₁ = asked 0 10 Path 18 0 clear clear 1

abbrev safe₂ : Asked
safe₂ = asked 0 10 (Inclusion (literal 3)) 10 0 clear clear 2

-- with a line value list of any length
clear_path : (vs : List ℕ) → Series stays_clear 0 10 (at_asked safe₁) (lists [] vs safe_path) 1
clear_path vs =
    refuted not_both (zeros 2) (2 ∷ 2 ∷ []) (goes_on safe₁) (lists [] vs safe_path)
    (opens [] vs (zeros 18) safe₀ [] (at_first ++ zeros 8) refl) refl refl

abbrev safe_lists : Lists
safe_lists = lists [] (0 ∷ 3 ∷ 2 ∷ 0 ∷ 1 ∷ 1 ∷ 3 ∷ 3 ∷ []) (at_first ++ zeros 8)

clear_inclusion : Series stays_clear 0 10 (at_asked safe₂) safe_lists 2
clear_inclusion =
    refuted safe_refutation (zeros 4) (3 ∷ 4 ∷ 4 ∷ 0 ∷ []) (goes_on safe₂) safe_lists (clear_path (zeros 8)) refl refl

ends_safe : Series stays_clear 0 10 (at_ended (over Safe 0 3) []) safe_lists 3
ends_safe = refuted not_both (zeros 2) (2 ∷ 2 ∷ []) (is-over (over Safe 0 3)) safe_lists clear_inclusion refl refl

-- with a place too few for the values of 6 clauses and 2 steps
ends_short_of_values : Series stays_clear 0 10 (at_ended (over (Short LineValues) 0 2) []) (lists [] (zeros 7) (zeros 18)) 2
ends_short_of_values =
    refuted safe_refutation (zeros 4) (3 ∷ 4 ∷ 4 ∷ 0 ∷ []) (is-over (over (Short LineValues) 0 2)) (lists [] (zeros 7) (zeros 18))
    (clear_path (zeros 7)) refl refl

-- ---- `turns_over`: set after one step
abbrev run_path : List ℕ
run_path = 4 ∷ 6 ∷ 4 ∷ 10 ∷ 11 ∷ 13 ∷ 15 ∷ 16 ∷ 17 ∷ 18 ∷ 1 ∷ 3 ∷ 7 ∷ 2 ∷ 6 ∷ 3 ∷ 5 ∷ 6 ∷ []

abbrev run_assignment : List ℕ
run_assignment = 0 ∷ 0 ∷ 0 ∷ 1 ∷ []

ends_run : Series turns_over 0 10 (at_ended (over (Run 1 4) 0 2) run_assignment) (lists [] [] run_path) 2
ends_run =
    shows safe₁ (lists [] [] run_path) 1 run_assignment (is-over (over (Run 1 4) 0 2)) (lists [] [] run_path)
    (refuted not_both (zeros 2) (2 ∷ 2 ∷ []) (goes_on safe₁) (lists [] [] run_path)
    (opens [] [] (zeros 18) safe₀ [] (at_first ++ zeros 8) refl) refl refl)
    refl

-- ---- `keeps_its_bit`: one answer is all
ends_spent : Series keeps_its_bit 0 1 (at_ended (over Spent 0 1) []) (lists [] [] at_first) 1
ends_spent =
    refuted not_both (zeros 2) (2 ∷ 2 ∷ []) (is-over (over Spent 0 1)) (lists [] [] at_first)
    (opens [] [] (zeros 10) (asked 0 1 Start 10 0 clear clear 0) [] at_first refl) refl refl

-- ---- `takes_the_input`: room for the start question alone
abbrev input_first : List ℕ
input_first = 3 ∷ 3 ∷ 0 ∷ 7 ∷ 8 ∷ 9 ∷ 10 ∷ 1 ∷ 5 ∷ 4 ∷ []

ends_short_of_question : Series takes_the_input 0 10 (at_ended (over (Short Question) 0 1) []) (lists [] [] (zeros 10)) 1
ends_short_of_question =
    refuted (1 ∷ 2 ∷ 1 ∷ 2 ∷ []) (zeros 2) (2 ∷ 2 ∷ []) (is-over (over (Short Question) 0 1)) (lists [] [] (zeros 10))
    (opens [] [] (zeros 10) (asked 0 10 Start 10 0 (region 5 0) (region 5 0) 0) [] input_first refl) refl refl

-- ---- `take_the_second`: the start formula has a gate, node 3, of both latches clear
abbrev both_clear : Region
both_clear = region 6 1

abbrev two_first : List ℕ
two_first = 4 ∷ 6 ∷ 0 ∷ 10 ∷ 11 ∷ 13 ∷ 15 ∷ 18 ∷ 19 ∷ 20 ∷ 1 ∷ 5 ∷ 7 ∷ 3 ∷ 7 ∷ 2 ∷ 4 ∷ 6 ∷ 6 ∷ 2 ∷ []

abbrev two_path : List ℕ
two_path =
    7 ∷ 11 ∷ 9 ∷ 15 ∷ 16 ∷ 18 ∷ 20 ∷ 22 ∷ 24 ∷ 26 ∷ 28 ∷ 31 ∷ 32 ∷ 33 ∷ 34 ∷ 1 ∷ 4 ∷ 9 ∷ 5 ∷ 8 ∷ 4 ∷ 11 ∷ 5 ∷ 10 ∷ 5 ∷ 13 ∷ 3 ∷ 13 ∷ 2 ∷ 4 ∷ 12 ∷ 12 ∷ 7 ∷ 8 ∷ []

-- the first latch is clear, and not both are
abbrev two_inclusion : List ℕ
two_inclusion = 4 ∷ 6 ∷ 0 ∷ 10 ∷ 11 ∷ 13 ∷ 15 ∷ 18 ∷ 19 ∷ 20 ∷ 1 ∷ 5 ∷ 7 ∷ 3 ∷ 7 ∷ 2 ∷ 4 ∷ 6 ∷ 3 ∷ 7 ∷ []

abbrev two₀ : ℕ → Asked
two₀ K = asked K 10 Start 20 0 both_clear both_clear 0

abbrev two₁ : ℕ → Asked
two₁ K = asked K 10 Path 34 0 both_clear both_clear 1

abbrev two₂ : ℕ → Asked
two₂ K = asked K 10 (Inclusion (literal 3)) 20 0 both_clear both_clear 2

-- the values of the lines of the path question's refutation: the last is that the first latch is clear
abbrev two_values : List ℕ
two_values = 0 ∷ 3 ∷ 2 ∷ 5 ∷ 4 ∷ 0 ∷ 0 ∷ 0 ∷ 0 ∷ 1 ∷ 1 ∷ 0 ∷ 3 ∷ 3 ∷ []

-- the second latch alone is set
abbrev astray : List ℕ
astray = 0 ∷ 0 ∷ 1 ∷ 0 ∷ []

abbrev first_refutation : List ℕ
first_refutation = 2 ∷ 4 ∷ 2 ∷ 3 ∷ 5 ∷ 6 ∷ 1 ∷ []

abbrev path_refutation : List ℕ
path_refutation = 3 ∷ 8 ∷ 5 ∷ 6 ∷ 1 ∷ 11 ∷ 2 ∷ 10 ∷ 12 ∷ 4 ∷ []

-- where f is the rest of the formula list
abbrev at_two₀ : List ℕ → Lists
at_two₀ f = lists (5 ∷ 3 ∷ f) (zeros 22) (two_first ++ zeros 29)

abbrev at_two₁ : List ℕ → Lists
at_two₁ f = lists (5 ∷ 3 ∷ f) (zeros 22) (two_path ++ zeros 15)

abbrev at_two₂ : List ℕ → Lists
at_two₂ f = lists (5 ∷ 3 ∷ f) (two_values ++ zeros 8) (two_inclusion ++ zeros 29)

-- a check is opened, and two refutations are taken
two_included : (K : ℕ) (g f : List ℕ) → opened take_the_second K 10 g (zeros 49) ≡ (Ok (two₀ K), 5 ∷ 3 ∷ f, two_first ++ zeros 29)
    → taken take_the_second (on (two₀ K)) first_refutation (at_two₀ f) ≡ (goes_on (two₁ K), at_two₁ f)
    → taken take_the_second (on (two₁ K)) path_refutation (at_two₁ f) ≡ (goes_on (two₂ K), at_two₂ f)
    → Series take_the_second K 10 (at_asked (two₂ K)) (at_two₂ f) 2
two_included K g f e₀ e₁ e₂ =
    refuted path_refutation (zeros 6) (4 ∷ 5 ∷ 6 ∷ 6 ∷ 5 ∷ 9 ∷ []) (goes_on (two₂ K)) (at_two₂ f)
    (refuted first_refutation (zeros 4) (3 ∷ 4 ∷ 4 ∷ 3 ∷ []) (goes_on (two₁ K)) (at_two₁ f)
    (opens g (zeros 22) (zeros 49) (two₀ K) (5 ∷ 3 ∷ f) (two_first ++ zeros 29) e₀) refl e₁)
    refl e₂

-- with no room for the gate of the larger region
ends_short_of_formula : Series take_the_second 0 10 (at_ended (over (Short Formula) 0 3) astray) (lists (zeros 2) (zeros 22) (zeros 49)) 3
ends_short_of_formula =
    shows (two₂ 0) (at_two₂ []) 2 astray (is-over (over (Short Formula) 0 3))
    (lists (zeros 2) (zeros 22) (zeros 49)) (two_included 0 (zeros 2) [] refl refl refl) refl

-- with room for it: the first latch is clear, or both are
abbrev two₃ : ℕ → Asked
two₃ K = asked K 10 Path 44 0 (grown 9 2) both_clear 3

abbrev later_path : List ℕ
later_path =
    8 ∷ 14 ∷ 12 ∷ 18 ∷ 19 ∷ 21 ∷ 23 ∷ 25 ∷ 27 ∷ 29 ∷ 31 ∷ 34 ∷ 36 ∷ 38 ∷ 41 ∷ 42 ∷ 43 ∷ 44 ∷ 1 ∷ 4 ∷ 9 ∷ 5 ∷ 8 ∷ 4 ∷ 11 ∷ 5 ∷ 10 ∷ 5 ∷ 13 ∷ 3 ∷ 13 ∷ 2 ∷ 4 ∷ 12 ∷ 13 ∷ 15 ∷ 2 ∷ 15 ∷ 3 ∷ 12 ∷ 14 ∷ 15 ∷ 7 ∷ 8 ∷ []

abbrev later_lists : Lists
later_lists = lists (5 ∷ 3 ∷ 7 ∷ 2 ∷ []) (two_values ++ zeros 8) (later_path ++ zeros 5)

-- the first latch is set after a step from there
abbrev strays : List ℕ
strays = 0 ∷ 0 ∷ 1 ∷ 0 ∷ 1 ∷ 1 ∷ 0 ∷ 0 ∷ []

two_grown : (K : ℕ) → opened take_the_second K 10 (zeros 4) (zeros 49) ≡ (Ok (two₀ K), 5 ∷ 3 ∷ zeros 2, two_first ++ zeros 29)
    → Series take_the_second K 10 (at_asked (two₃ K)) later_lists 3
two_grown K e =
    shows (two₂ K) (at_two₂ (zeros 2)) 2 astray (goes_on (two₃ K)) later_lists
    (two_included K (zeros 4) (zeros 2) e refl refl) refl

ends_undecided : Series take_the_second 0 10 (at_ended (over Undecided 0 4) strays) later_lists 4
ends_undecided = shows (two₃ 0) later_lists 3 strays (is-over (over Undecided 0 4)) later_lists (two_grown 0 refl) refl

-- the next bound, from the start formula: what is drawn is that both latches are clear
abbrev two₄ : Asked
two₄ = asked 1 10 Path 49 1 both_clear both_clear 4

abbrev two₅ : Asked
two₅ = asked 1 10 (Inclusion (literal 8)) 30 1 (region 6 2) both_clear 5

abbrev deeper_path : List ℕ
deeper_path =
    10 ∷ 16 ∷ 9 ∷ 20 ∷ 21 ∷ 23 ∷ 25 ∷ 27 ∷ 29 ∷ 31 ∷ 33 ∷ 36 ∷ 37 ∷ 38 ∷ 39 ∷ 41 ∷ 43 ∷ 45 ∷ 47 ∷ 49 ∷ 1 ∷ 4 ∷ 9 ∷ 5 ∷ 8 ∷ 4 ∷ 11 ∷ 5 ∷ 10 ∷ 5 ∷ 19 ∷ 3 ∷ 19 ∷ 2 ∷ 4 ∷ 18 ∷ 18 ∷ 7 ∷ 13 ∷ 10 ∷ 15 ∷ 11 ∷ 14 ∷ 10 ∷ 17 ∷ 11 ∷ 16 ∷ 8 ∷ 14 ∷ []

abbrev deeper_inclusion : List ℕ
deeper_inclusion =
    5 ∷ 9 ∷ 0 ∷ 13 ∷ 14 ∷ 16 ∷ 18 ∷ 21 ∷ 23 ∷ 25 ∷ 28 ∷ 29 ∷ 30 ∷ 1 ∷ 5 ∷ 7 ∷ 3 ∷ 7 ∷ 2 ∷ 4 ∷ 6 ∷ 5 ∷ 9 ∷ 3 ∷ 9 ∷ 2 ∷ 4 ∷ 8 ∷ 8 ∷ 7 ∷ []

abbrev deeper_lists : Lists
deeper_lists =
    lists (5 ∷ 3 ∷ 5 ∷ 3 ∷ []) (0 ∷ 3 ∷ 2 ∷ 5 ∷ 4 ∷ 0 ∷ 0 ∷ 0 ∷ 0 ∷ 1 ∷ 1 ∷ 1 ∷ 1 ∷ 1 ∷ 1 ∷ 1 ∷ 0 ∷ 3 ∷ 5 ∷ 3 ∷ 5 ∷ 8 ∷ [])
    (deeper_inclusion ++ zeros 19)

two_deeper : Series take_the_second 1 10 (at_asked two₄) (lists (5 ∷ 3 ∷ zeros 2) (two_values ++ zeros 8) deeper_path) 4
two_deeper =
    shows (two₃ 1) later_lists 3 strays (goes_on two₄) (lists (5 ∷ 3 ∷ zeros 2) (two_values ++ zeros 8) deeper_path) (two_grown 1 refl) refl

deeper_included : Series take_the_second 1 10 (at_asked two₅) deeper_lists 5
deeper_included =
    refuted
    (6 ∷ 8 ∷ 5 ∷ 9 ∷ 1 ∷ 16 ∷ 2 ∷ 3 ∷ 16 ∷ 2 ∷ 15 ∷ 17 ∷ 4 ∷ 11 ∷ 18 ∷ 5 ∷ 19 ∷ 20 ∷ 7 ∷ [])
    (zeros 12) (7 ∷ 8 ∷ 9 ∷ 10 ∷ 11 ∷ 12 ∷ 12 ∷ 5 ∷ 9 ∷ 11 ∷ 14 ∷ 15 ∷ []) (goes_on two₅) deeper_lists two_deeper refl refl

ends_safe_deeper : Series take_the_second 1 10 (at_ended (over Safe 1 6) []) deeper_lists 6
ends_safe_deeper =
    refuted (5 ∷ 7 ∷ 4 ∷ 4 ∷ 7 ∷ 5 ∷ 4 ∷ 3 ∷ 10 ∷ 1 ∷ 11 ∷ 9 ∷ 2 ∷ 12 ∷ 8 ∷ 3 ∷ []) (zeros 11)
    (6 ∷ 7 ∷ 8 ∷ 10 ∷ 11 ∷ 11 ∷ 5 ∷ 3 ∷ 4 ∷ 6 ∷ 6 ∷ []) (is-over (over Safe 1 6)) deeper_lists deeper_included refl refl

pub happens : Happens
happens =
    record {
      ends_safe = (_, _, _, ends_safe, refl);
      ends_run = (_, _, _, ends_run, refl);
      ends_undecided = (_, _, _, ends_undecided, refl);
      ends_safe_deeper = (_, _, _, ends_safe_deeper, refl);
      ends_spent = (_, _, _, ends_spent, refl);
      ends_short_of_question = (_, _, _, ends_short_of_question, refl);
      ends_short_of_values = (_, _, _, ends_short_of_values, refl);
      ends_short_of_formula = (_, _, _, ends_short_of_formula, refl);
    }
