use Rattle.std.proofs.Common.{◌≡◌, ◌+◌, ◌-◌, ◌*◌}
use Rattle.lists.specs.Stretch.{stretch}
use Rattle.sheet.specs.Sheets.{sheet_of, gate_count}
use Rattle.question.specs.Clauses.{frame_clauses}
use Rattle.question.specs.Writing.{held, puts, Moved}
use Rattle.question.proofs.unroll.put_frames.Given as goal

abbrev pub invariant-loop-t : goal.invariant-loop-t
invariant-loop-t l =
    (puts (held l.page) (stretch (frame_clauses (sheet_of l.sheet.numbers.now)) l.t (l.k + 2 - l.t))
    ≡ puts (held l.initial.page) (stretch (frame_clauses (sheet_of l.sheet.numbers.now)) 1 (l.k + 1)))
    × Moved l.initial.page l.page ((l.t - 1) * (1 + 3 * gate_count l.sheet.numbers.now)) ((l.t - 1) * (1 + 7 * gate_count l.sheet.numbers.now))
