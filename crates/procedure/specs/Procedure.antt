-- The interpolation procedure over sets of states: every series of true answers that a check of a machine can come to, and what
-- is promised of each. Assumes nothing.
use Rattle.std.specs.Prelude.{◌≡◌, ℕ, ◌+◌, ◌*◌, ◌^◌, ◌<◌, ◌≤◌, Bool, true, false, cond, ◌||◌, Decides, ◌==◌, ◌≢◌}
use Rattle.sheet.specs.Sheets.{Sheet}
use Rattle.machine.specs.Runs.{State, Frame, Starts, Follows, BadRun, BadState, Reaches}
use Rattle.machine.specs.Depth.{ReverseDepth}

-- a set of states
abbrev pub Region : Sheet → Type 0
Region s = State s → Bool

abbrev pub StartRegion : (s : Sheet) → Region s → Type 0
StartRegion s R = (c : State s) → Decides (R c) (Starts s c)

-- the states of either
abbrev pub union : (s : Sheet) → Region s → Region s → Region s
union s R P = λ c. R c || P c

-- a check that goes on: the bound k, the region R, whether it has grown at this bound, and the answers taken so far
pub record Check (s : Sheet) : Type 0 where
  pub bound : ℕ
  pub region : Region s
  pub grown : Bool
  pub turns : ℕ

-- start: is a state in R bad? path: from a state in R, is a bad one reached in 1 to k + 1 steps? inclusion: is a state in P outside R?
pub data Question (s : Sheet) : Type 0 where
  start : Question s
  path : Question s
  inclusion : Region s → Question s

-- run: from this start state a bad one is reached in so many steps
pub data Verdict (s : Sheet) : Type 0 where
  safe : Verdict s
  run : State s → ℕ → Verdict s
  undecided : Verdict s
  spent : Verdict s

-- where a check stands: at a question, or at its end after so many answers
pub data Point (s : Sheet) : Type 0 where
  asks : Check s → Question s → Point s
  ended : Verdict s → ℕ → Point s

abbrev pub turns_of : {s : Sheet} → Point s → ℕ
turns_of (asks c q) = c.turns
turns_of (ended v turns) = turns

-- the check at its opening, and after one more answer: as it was, at another bound, and with a larger region
abbrev pub opening : {s : Sheet} → Region s → Check s
opening initial = record { bound = 0; region = initial; grown = false; turns = 0 }

abbrev pub after : {s : Sheet} → Check s → Check s
after c = record { bound = c.bound; region = c.region; grown = c.grown; turns = c.turns + 1 }

abbrev pub deeper : {s : Sheet} → Region s → ℕ → Check s → Check s
deeper initial bound c = record { bound = bound; region = initial; grown = false; turns = c.turns + 1 }

abbrev pub larger : {s : Sheet} → Region s → Check s → Check s
larger {s} P c = record { bound = c.bound; region = union s c.region P; grown = true; turns = c.turns + 1 }

-- a check that goes on has turns left, out of Q
abbrev pub limited : {s : Sheet} → ℕ → Point s → Point s
limited Q (asks c q) = cond (c.turns == Q) (ended spent c.turns) (asks c q)
limited Q (ended v turns) = ended v turns

-- the witness of a path question's yes; its no is that there is none
pub record Witness (s : Sheet) (R : Region s) (k : ℕ) (d : State s) (j : ℕ) : Type 0 where
  pub inside : R d ≡ true
  pub reaches : Reaches s d j
  pub some : 1 ≤ j
  pub few : j ≤ k + 1

-- P holds what follows R, and is more than k steps away from what is bad
pub record Interpolant (s : Sheet) (R : Region s) (k : ℕ) (P : Region s) : Type 0 where
  pub follows : (f : Frame s) (d : State s) → R f.state ≡ true → Follows s f d → P d ≡ true
  pub far : (d : State s) (j : ℕ) → P d ≡ true → Reaches s d j → k < j

-- One true answer leads from a question to what comes next, where the check begins with the region `initial`, tries the bound
-- `next k` after k, and stops at the bound K.
pub data Answer (s : Sheet) (initial : Region s) (next : ℕ → ℕ) (K : ℕ) : Point s → Point s → Type 0 where
  start_yes : (c : Check s) (d : State s) → c.region d ≡ true → BadState s d
      → Answer s initial next K (asks c start) (ended (run d 0) (c.turns + 1))
  start_no : (c : Check s) → ((d : State s) → c.region d ≡ true → BadState s d → ⊥)
      → Answer s initial next K (asks c start) (asks (after c) path)
  path_run : (c : Check s) (d : State s) (j : ℕ) → Witness s c.region c.bound d j → c.grown ≡ false
      → Answer s initial next K (asks c path) (ended (run d j) (c.turns + 1))
  path_ends : (c : Check s) (d : State s) (j : ℕ) → Witness s c.region c.bound d j → c.grown ≡ true → c.bound ≡ K
      → Answer s initial next K (asks c path) (ended undecided (c.turns + 1))
  path_deeper : (c : Check s) (d : State s) (j : ℕ) → Witness s c.region c.bound d j → c.grown ≡ true → (c.bound ≢ K)
      → Answer s initial next K (asks c path) (asks (deeper initial (next c.bound) c) path)
  path_no : (c : Check s) (P : Region s) → ((d : State s) (j : ℕ) → Witness s c.region c.bound d j → ⊥)
      → Interpolant s c.region c.bound P → Answer s initial next K (asks c path) (asks (after c) (inclusion P))
  inclusion_yes : (c : Check s) (P : Region s) (d : State s) → P d ≡ true → c.region d ≡ false
      → Answer s initial next K (asks c (inclusion P)) (asks (larger P c) path)
  inclusion_no : (c : Check s) (P : Region s) → ((d : State s) → P d ≡ true → c.region d ≡ true)
      → Answer s initial next K (asks c (inclusion P)) (ended safe (c.turns + 1))

-- the points that a check comes to with true answers, under the step limit K and the turn limit Q
pub data Series (s : Sheet) (initial : Region s) (next : ℕ → ℕ) (K Q : ℕ) : Point s → Type 0 where
  opens : Series s initial next K Q (asks (opening initial) start)
  answers : (p q : Point s) → Series s initial next K Q p → Answer s initial next K p q → Series s initial next K Q (limited Q q)

-- how many steps are known to be too few for a bad run: one more than the last bound whose path question was answered no,
-- and 0 before any was
abbrev pub cleared_by : {s : Sheet} {initial : Region s} {next : ℕ → ℕ} {K : ℕ} {p q : Point s} → Answer s initial next K p q → ℕ → ℕ
cleared_by (start_yes c d inside bad) n = n
cleared_by (start_no c none) n = n
cleared_by (path_run c d j w fresh) n = n
cleared_by (path_ends c d j w grown last) n = n
cleared_by (path_deeper c d j w grown more) n = n
cleared_by (path_no c P none i) n = c.bound + 1
cleared_by (inclusion_yes c P d has out) n = n
cleared_by (inclusion_no c P within) n = n

abbrev pub cleared : {s : Sheet} {initial : Region s} {next : ℕ → ℕ} {K Q : ℕ} {p : Point s} → Series s initial next K Q p → ℕ
cleared opens = 0
cleared (answers p q u a) = cleared_by a (cleared u)

-- the bounds are tried one by one
abbrev pub OneByOne : (ℕ → ℕ) → Type 0
OneByOne next = (k : ℕ) → next k ≡ k + 1

-- the bounds rise, and do not pass K
abbrev pub RisesTo : ℕ → (ℕ → ℕ) → Type 0
RisesTo K next = (k : ℕ) → k < K → (k < next k) × (next k ≤ K)

-- the most turns that a machine of n latches and reverse depth r needs
abbrev pub most : ℕ → ℕ → ℕ
most n r = 1 + (r + 1) * 2 ^ (n + 1)

-- A safe end is right. A run is a bad run, and bad runs have more steps than were cleared; where bounds are tried one by one, none
-- is shorter, nor within the bound of a path question. Where bounds rise to K and r is the reverse depth, turns are few; with K at
-- least r no check ends undecided, and with Q at least the most turns none ends spent.
pub record Guarantee (s : Sheet) (initial : Region s) (next : ℕ → ℕ) (K Q : ℕ) : Type 0 where
  pub safe_is_safe : (turns : ℕ) → Series s initial next K Q (ended safe turns) → (m : ℕ) → BadRun s m → ⊥
  pub run_is_bad : (d : State s) (j turns : ℕ) → Series s initial next K Q (ended (run d j) turns) → Starts s d × Reaches s d j
  pub none_within_cleared : (d : State s) (j turns : ℕ) (u : Series s initial next K Q (ended (run d j) turns)) → 0 < j
      → (m : ℕ) → BadRun s m → cleared u < m
  pub run_is_shortest : OneByOne next → (d : State s) (j turns : ℕ) → Series s initial next K Q (ended (run d j) turns)
      → (m : ℕ) → BadRun s m → j ≤ m
  pub none_within_bound : OneByOne next → (c : Check s) → Series s initial next K Q (asks c path) → (m : ℕ) → BadRun s m → c.bound < m
  pub few_turns : RisesTo K next → (r : ℕ) → ReverseDepth s r → (p : Point s) → Series s initial next K Q p → turns_of p ≤ most s.latches r
  pub fewer_before_end : RisesTo K next → (r : ℕ) → ReverseDepth s r
      → (c : Check s) (q : Question s) → Series s initial next K Q (asks c q) → c.turns < most s.latches r
  pub never_undecided : RisesTo K next → (r : ℕ) → ReverseDepth s r → r ≤ K
      → (turns : ℕ) → Series s initial next K Q (ended undecided turns) → ⊥
  pub never_spent : RisesTo K next → (r : ℕ) → ReverseDepth s r → most s.latches r ≤ Q
      → (turns : ℕ) → Series s initial next K Q (ended spent turns) → ⊥

-- every check of every machine, by any policy for the bound and under any limits
abbrev pub ProcedureIsRight : Type 0
ProcedureIsRight =
    (s : Sheet) (initial : Region s) → StartRegion s initial → (next : ℕ → ℕ) (K Q : ℕ) → Guarantee s initial next K Q
