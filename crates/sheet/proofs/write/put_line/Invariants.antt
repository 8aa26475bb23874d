use Rattle.std.proofs.Common.{◌≡◌, ◌+◌, ◌*◌, ◌≤◌, ◌++◌, drop}
use Rattle.arrayvec.specs.ArrayVec.{array_vec_len}
use Rattle.sheet.specs.Render.{numbers_text}
use Rattle.sheet.proofs.write.put_line.Given as goal

-- what is written, and then what is left, is the whole
abbrev pub invariant-loop-n : goal.invariant-loop-n
invariant-loop-n l =
    (l.out.items ++ numbers_text (drop l.n-index l.numbers) ≡ l.initial.out.items ++ numbers_text l.numbers)
    × (array_vec_len l.out ≤ array_vec_len l.initial.out + 4 * l.n-index)
