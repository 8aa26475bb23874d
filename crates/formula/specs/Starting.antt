-- The start formula: true exactly in the start states. Assumes nothing.
use Rattle.std.specs.Prelude.{◌≡◌, ℕ, zero, suc, ◌+◌, ◌*◌, ◌<◌, Bool, cond, List, replicate, Some, None, Decides, Option}
use Rattle.sheet.specs.Sheets.{Sheet, Start, set, unset}
use Rattle.machine.specs.Bits.{bit}
use Rattle.machine.specs.Runs.{State, Starts as StartState}
use Rattle.formula.specs.Formulas.{width, value_at, Formula, Gates}
use Rattle.formula.specs.Conjunction.{Outcome, grown, short, conjoin}

-- the literal that is true where latch i has its start bit
abbrev pub start_literal : Sheet → ℕ → Bool → ℕ
start_literal s i b = 2 * (1 + s.inputs + i) + cond b 0 1

abbrev pub joined : Sheet → ℕ → Start → ℕ → ℕ → List ℕ → Outcome
joined s i (set b) x n f = conjoin (width s) n f x (start_literal s i b)
joined s i unset x n f = grown x n f

abbrev pub onward : Outcome → (ℕ → ℕ → List ℕ → Outcome) → Outcome
onward (grown x n f) more = more x n f
onward short more = short

-- m latches from latch i on, joined to x by AND in order
abbrev pub join_starts : Sheet → ℕ → ℕ → ℕ → ℕ → List ℕ → Outcome
join_starts s zero i x n f = grown x n f
join_starts s (suc m) i x n f = onward (joined s i (s.start i) x n f) (λ x n f. join_starts s m (i + 1) x n f)

-- the start formula, from literal 1 and no gates, in a list of so many places, all 0
abbrev pub start_in : Sheet → ℕ → Outcome
start_in s places = join_starts s s.latches 0 1 0 (replicate places 0)

-- a state, latch by latch, has every start bit that is set
abbrev pub StartBits : Sheet → (ℕ → Bool) → Type 0
StartBits s c = (i : ℕ) (b : Bool) → i < s.latches → s.start i ≡ set b → c i ≡ b

-- the literal of latch i that the start formula has, if the latch starts with a bit
abbrev pub start_mark : Sheet → ℕ → Start → Option ℕ
start_mark s i (set b) = Some (start_literal s i b)
start_mark s i unset = None

abbrev pub gates_in : Outcome → ℕ
gates_in (grown x n f) = n
gates_in short = 0

-- how many gates the start formula has: no more than one for each latch
abbrev pub start_size : Sheet → ℕ
start_size s = gates_in (start_in s (2 * s.latches))

-- n gates of f, and their literal x, which is true exactly where every set start bit is there
pub record Starts (s : Sheet) (f : List ℕ) (n x : ℕ) : Type 0 where
  pub gates : Gates s f n
  pub formula : Formula s n x
  pub value : (c : ℕ → Bool) → Decides (value_at s f n c x) (StartBits s c)

-- in the machine's own words: it is true exactly in the start states
abbrev pub TrueAtStarts : Sheet → List ℕ → ℕ → ℕ → Type 0
TrueAtStarts s f n x = (c : State s) → Decides (value_at s f n (bit c) x) (StartState s c)
