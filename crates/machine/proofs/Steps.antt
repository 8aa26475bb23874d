-- From each frame the machine has exactly one step. Assumes nothing.
use Rattle.std.proofs.Common.{◌≡◌, false, map, sym, ◌∙◌, arith}
use Rattle.std.specs.List.{range_with_len}
use Rattle.std.proofs.lemmas.List.FromFn.{length-map-range_with_len, get_or-map-range_with_len}
use Rattle.std.proofs.lemmas.List.{ext_get_or}
use Rattle.sheet.specs.Sheets.{Sheet}
use Rattle.machine.specs.Runs.{State, Frame, Follows, value_in}
use Rattle.machine.proofs.Count.{same_bits}

-- the state after a frame
abbrev pub stepped : (s : Sheet) → Frame s → State s
stepped s f =
    record {
      bits = map (λ i. value_in s f (s.next i)) (range_with_len 0 s.latches);
      sized = length-map-range_with_len (λ i. value_in s f (s.next i)) 0 s.latches;
    }

pub stepped_follows : (s : Sheet) (f : Frame s) → Follows s f (stepped s f)
stepped_follows s f i h = get_or-map-range_with_len (λ k. value_in s f (s.next k)) 0 s.latches i i false h (omega arith)

pub only_stepped : (s : Sheet) (f : Frame s) (c : State s) → Follows s f c → c ≡ stepped s f
only_stepped s f c h =
    same_bits c (stepped s f)
    (ext_get_or false c.bits (stepped s f).bits (c.sized ∙ sym (stepped s f).sized) (λ i lt.
    h i (omega (arith, c.sized)) ∙ sym (stepped_follows s f i (omega (arith, c.sized)))))
