use Rattle.std.proofs.Common.{◌≡◌, ◌+◌, ◌-◌, ◌*◌, ◌≤◌, ◌++◌, drop}
use Rattle.arrayvec.specs.ArrayVec.{array_vec_len}
use Rattle.sheet.specs.Render.{pairs_text}
use Rattle.sheet.proofs.write.put_pairs.Given as goal

-- what is written, and then what is left, is the whole
abbrev pub invariant-loop-pair : goal.invariant-loop-pair
invariant-loop-pair l =
    (l.out.items ++ pairs_text (l.count - l.pair-index) l.letter (drop (l.from + 2 * l.pair-index) l.list)
    ≡ l.initial.out.items ++ pairs_text l.count l.letter (drop l.from l.list))
    × (array_vec_len l.out ≤ array_vec_len l.initial.out + 10 * l.pair-index)
