-- One step of the machine that a list lays out, at any kind of signal. Assumes nothing.
use Rattle.std.specs.Prelude.{◌≡◌, ℕ, ◌<◌, Bool, true, false, cond, List, ◌∷◌, ◌++◌, map, length, replicate, Ok, Err, Result, ◌==◌, slice_index_or}
use Rattle.std.specs.List.{range_with_len}
use Rattle.sheet.specs.Render.{well_formed}
use Rattle.sheet.specs.Sheets.{Sheet, input_count, latch_count, gate_count, bad_of, next_of, gate_node, gate_pairs}
use Rattle.sheet.specs.declared.fault.Cause.TheVariants.{NotLegal, WrongCount}
use Rattle.sheet.specs.declared.fault.Fault.{Fault}
use Rattle.signal.specs.Circuit.{Ops, node_of, gates_of}
use Rattle.signal.specs.Truth.{lit}
use Rattle.machine.specs.Faults.{refusal}
use Rattle.machine.specs.Runs.{State, Frame, Follows, value_in}
use Rattle.machine.specs.Values.{values}

module _ {S : Type 0} (o : Ops S) where
  -- the signals of the nodes before the gates: the constant, the inputs, the latches, and a place for each gate
  abbrev pub fed_signals : List ℕ → List S → List S → List S
  fed_signals l inputs state = o.known false ∷ (inputs ++ (state ++ replicate (gate_count l) (o.known false)))

  -- and after them
  abbrev pub node_signals : List ℕ → List S → List S → List S
  node_signals l inputs state = gates_of o (gate_pairs l) (gate_node l 0) (fed_signals l inputs state)

  -- the signals that the latches have next
  abbrev pub next_signals : List ℕ → List S → List S
  next_signals l nodes = map (λ i. node_of o nodes (next_of l i)) (range_with_len 0 (latch_count l))

  -- the bad literal's signal, and the next state
  abbrev pub step_signals : List ℕ → List S → List S → S × List S
  step_signals l inputs state =
      (node_of o (node_signals l inputs state) (bad_of l), next_signals l (node_signals l inputs state))

  -- a step, or the refusal that comes first
  abbrev pub simulated : List ℕ → List S → List S → Result S Fault × List S
  simulated l inputs state =
      cond (well_formed l)
      (cond (length state == latch_count l)
      (cond (length inputs == input_count l)
      (Ok (step_signals l inputs state).0, (step_signals l inputs state).1)
      (Err (refusal WrongCount 1), state))
      (Err (refusal WrongCount 0), state))
      (Err (refusal NotLegal 0), state)

-- in lane i, each signal may be its bit
abbrev pub MayBe : {S : Type 0} → (S → ℕ → Bool → Bool) → ℕ → List S → (ℕ → Bool) → Type 0
MayBe {S} may i xs bits = (k : ℕ) (d : S) → k < length xs → may (slice_index_or xs k d) i (bits k) ≡ true

-- in lane i, a signal and a next state may be what latch bits c and input bits x make the bad literal and the latches
pub record CoversStep {S : Type 0} (may : S → ℕ → Bool → Bool) (i : ℕ) (s : Sheet) (c x : ℕ → Bool) (r : S) (next : List S) : Type 0 where
  pub bad : may r i (lit (values s c x) s.bad) ≡ true
  pub sized : length next ≡ s.latches
  pub latches : MayBe may i next (λ k. lit (values s c x) (s.next k))

-- bits are those of a frame, a bit is the bad literal's there, and further bits are those of the state that follows
pub record IsStep (s : Sheet) (before given : List Bool) (r : Bool) (next : List Bool) : Type 0 where
  pub frame : Frame s
  pub state : State s
  pub from_state : frame.state.bits ≡ before
  pub at_inputs : frame.inputs.bits ≡ given
  pub to_state : state.bits ≡ next
  pub follows : Follows s frame state
  pub tells_bad : r ≡ value_in s frame s.bad
