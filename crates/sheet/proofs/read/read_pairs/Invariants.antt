use Rattle.std.proofs.Common.{◌≡◌, ◌+◌, ◌-◌, ◌*◌}
use Rattle.arrayvec.specs.ArrayVec.{array_vec_len}
use Rattle.sheet.specs.Parse.{read_pairs}
use Rattle.sheet.proofs.read.read_pairs.Given as goal

-- what is left to read, behind what was read, gives the answer
abbrev pub invariant-loop-i : goal.invariant-loop-i
invariant-loop-i l =
    (read_pairs (l.count - l.i) l.rule.due l.rule.most (l.rule.own + l.i) l.pairs.items (l.rule.place + l.i) l.rest
    ≡ read_pairs l.count l.rule.due l.rule.most l.rule.own l.initial.pairs.items l.rule.place l.text)
    × (array_vec_len l.pairs ≡ array_vec_len l.initial.pairs + 2 * l.i)
