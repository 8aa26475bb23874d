-- The machine that a sheet describes: its states, steps, paths, runs and bad runs. Assumes nothing.
use Rattle.std.specs.Prelude.{◌≡◌, ℕ, ◌<◌, Bool, true, List, [], ◌∷◌, length}
use Rattle.sheet.specs.Sheets.{Sheet, set}
use Rattle.signal.specs.Truth.{lit}
use Rattle.machine.specs.Bits.{Bits, bit}
use Rattle.machine.specs.Values.{values}

-- a state gives each latch a bit
abbrev pub State : Sheet → Type 0
State s = Bits s.latches

abbrev pub Inputs : Sheet → Type 0
Inputs s = Bits s.inputs

-- a state, with the input bits at it
pub record Frame (s : Sheet) : Type 0 where
  pub state : State s
  pub inputs : Inputs s

-- what a literal comes to in a frame
abbrev pub value_in : (s : Sheet) → Frame s → ℕ → Bool
value_in s f = lit (values s (bit f.state) (bit f.inputs))

-- a start state has every set start bit
abbrev pub Starts : (s : Sheet) → State s → Type 0
Starts s c = (i : ℕ) (b : Bool) → i < s.latches → s.start i ≡ set b → bit c i ≡ b

-- a state follows a frame: each latch has the value that its `next` had there
abbrev pub Follows : (s : Sheet) → Frame s → State s → Type 0
Follows s f c = (i : ℕ) → i < s.latches → bit c i ≡ value_in s f (s.next i)

abbrev pub BadIn : (s : Sheet) → Frame s → Type 0
BadIn s f = value_in s f s.bad ≡ true

-- a path: from a frame, the frames that follow, one step each
abbrev pub Path : (s : Sheet) → Frame s → List (Frame s) → Type 0
Path s f [] = Unit {0}
Path s f (g ∷ gs) = Follows s f g.state × Path s g gs

abbrev pub last_frame : {s : Sheet} → Frame s → List (Frame s) → Frame s
last_frame f [] = f
last_frame f (g ∷ gs) = last_frame g gs

-- a path whose last frame is bad
pub record BadPath (s : Sheet) (f : Frame s) (fs : List (Frame s)) : Type 0 where
  pub path : Path s f fs
  pub ends_bad : BadIn s (last_frame f fs)

-- a run of m steps is a path from a start state, with m frames after its first
pub record Run (s : Sheet) (m : ℕ) : Type 0 where
  pub first : Frame s
  pub later : List (Frame s)
  pub starts : Starts s first.state
  pub path : Path s first later
  pub steps : length later ≡ m

-- it is bad if `bad` is 1 in its last frame
pub record BadRun (s : Sheet) (m : ℕ) : Type 0 where
  pub first : Frame s
  pub later : List (Frame s)
  pub starts : Starts s first.state
  pub meets : BadPath s first later
  pub steps : length later ≡ m

-- a state is bad if some input bits make `bad` 1
abbrev pub BadState : (s : Sheet) → State s → Type 0
BadState s c = (x : Inputs s) × BadIn s (record { state = c; inputs = x })

-- from a state a bad one can be reached in m steps
pub record Reaches (s : Sheet) (c : State s) (m : ℕ) : Type 0 where
  pub inputs : Inputs s
  pub later : List (Frame s)
  pub meets : BadPath s (record { state = c; inputs = inputs }) later
  pub steps : length later ≡ m
