-- A sheet, and the list of numbers that lays it out: how many inputs, latches and gates, the bad literal, then next and
-- start of each latch, then left and right of each gate. Assumes nothing.
use Rattle.std.specs.Prelude.{◌≡◌, ℕ, ◌+◌, ◌*◌, ◌/◌, ◌<◌, ◌≤◌, Bool, true, false, cond, List, length, take, drop, Some, None, Option, ◌==◌, slice_index}
use Rattle.std.specs.Coded.{Π_prop, →_prop, le_prop, Coded-set, coded_ℕ}

-- what the list says, by the places of its numbers
abbrev pub input_count : List ℕ → ℕ
input_count l = slice_index l 0

abbrev pub latch_count : List ℕ → ℕ
latch_count l = slice_index l 1

abbrev pub gate_count : List ℕ → ℕ
gate_count l = slice_index l 2

abbrev pub bad_of : List ℕ → ℕ
bad_of l = slice_index l 3

abbrev pub next_place : ℕ → ℕ
next_place i = 4 + 2 * i

abbrev pub start_place : ℕ → ℕ
start_place i = 5 + 2 * i

abbrev pub left_place : List ℕ → ℕ → ℕ
left_place l g = 4 + 2 * (latch_count l + g)

abbrev pub right_place : List ℕ → ℕ → ℕ
right_place l g = 5 + 2 * (latch_count l + g)

abbrev pub next_of : List ℕ → ℕ → ℕ
next_of l i = slice_index l (next_place i)

abbrev pub start_of : List ℕ → ℕ → ℕ
start_of l i = slice_index l (start_place i)

abbrev pub left_of : List ℕ → ℕ → ℕ
left_of l g = slice_index l (left_place l g)

abbrev pub right_of : List ℕ → ℕ → ℕ
right_of l g = slice_index l (right_place l g)

-- the operands of every gate, in pairs
abbrev pub gate_pairs : List ℕ → List ℕ
gate_pairs l = take (2 * gate_count l) (drop (left_place l 0) l)

-- how many numbers lay the sheet out
abbrev pub size_of : List ℕ → ℕ
size_of l = 4 + 2 * (latch_count l + gate_count l)

-- nodes: 0 is the constant false, then come inputs, latches and gates
abbrev pub latch_node : List ℕ → ℕ → ℕ
latch_node l i = 1 + input_count l + i

abbrev pub gate_node : List ℕ → ℕ → ℕ
gate_node l g = 1 + input_count l + latch_count l + g

abbrev pub node_count : List ℕ → ℕ
node_count l = 1 + input_count l + latch_count l + gate_count l

-- the largest literal of one of n nodes besides the constant
abbrev pub most_literal : ℕ → ℕ
most_literal n = 2 * n + 1

abbrev pub literal_limit : List ℕ → ℕ
literal_limit l = most_literal (input_count l + latch_count l + gate_count l)

-- A list as reading writes it: within the limits, each literal of a node of the sheet, each start 0, 1 or 2, each gate above
-- its left operand and that above its right one, and nothing but zeros behind.
pub record Legal (l : List ℕ) : Type 0 where
  pub few_inputs : input_count l ≤ 24
  pub some_latch : 1 ≤ latch_count l
  pub few_latches : latch_count l ≤ 24
  pub few_gates : gate_count l ≤ 200
  pub whole : size_of l ≤ length l
  pub bad_literal : bad_of l ≤ literal_limit l
  pub next_literals : (i : ℕ) → i < latch_count l → next_of l i ≤ literal_limit l
  pub starts : (i : ℕ) → i < latch_count l → start_of l i ≤ 2
  pub lefts : (g : ℕ) → g < gate_count l → left_of l g / 2 < gate_node l g
  pub rights : (g : ℕ) → g < gate_count l → right_of l g / 2 < left_of l g / 2
  pub zeros_behind : (k : ℕ) → size_of l ≤ k → slice_index l k ≡ 0

-- a list is legal in one way at most
pub Legal-prop : (l : List ℕ) → IsProp (Legal l)
Legal-prop l a b =
    λ i. record {
      few_inputs = le_prop a.few_inputs b.few_inputs i;
      some_latch = le_prop a.some_latch b.some_latch i;
      few_latches = le_prop a.few_latches b.few_latches i;
      few_gates = le_prop a.few_gates b.few_gates i;
      whole = le_prop a.whole b.whole i;
      bad_literal = le_prop a.bad_literal b.bad_literal i;
      next_literals = Π_prop (λ _. →_prop le_prop) a.next_literals b.next_literals i;
      starts = Π_prop (λ _. →_prop le_prop) a.starts b.starts i;
      lefts = Π_prop (λ _. →_prop le_prop) a.lefts b.lefts i;
      rights = Π_prop (λ _. →_prop le_prop) a.rights b.rights i;
      zeros_behind = Π_prop (λ k. →_prop (Coded-set coded_ℕ (slice_index l k) 0)) a.zeros_behind b.zeros_behind i;
    }

-- how a latch starts: with a bit, or with either
pub data Start : Type 0 where
  set : Bool → Start
  unset : Start

abbrev pub start_by : ℕ → Start
start_by n = cond (n == 0) (set false) (cond (n == 1) (set true) unset)

abbrev pub start_bit : Start → Option Bool
start_bit (set b) = Some b
start_bit unset = None

-- A sheet. Literals are numbers: twice a node, plus 1 if negated. Only latches and gates below their counts mean anything.
pub record Sheet : Type 0 where
  pub inputs : ℕ
  pub latches : ℕ
  pub gates : ℕ
  pub next : ℕ → ℕ
  pub start : ℕ → Start
  pub left : ℕ → ℕ
  pub right : ℕ → ℕ
  pub bad : ℕ

-- the sheet that a list lays out
abbrev pub sheet_of : List ℕ → Sheet
sheet_of l =
    record {
      inputs = input_count l;
      latches = latch_count l;
      gates = gate_count l;
      next = next_of l;
      start = λ i. start_by (start_of l i);
      left = left_of l;
      right = right_of l;
      bad = bad_of l;
    }
