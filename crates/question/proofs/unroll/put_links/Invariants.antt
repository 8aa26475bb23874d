use Rattle.std.proofs.Common.{◌≡◌, ◌+◌, ◌-◌, ◌*◌}
use Rattle.lists.specs.Stretch.{stretch}
use Rattle.sheet.specs.Sheets.{sheet_of, latch_count}
use Rattle.question.specs.Clauses.{link_clauses}
use Rattle.question.specs.Writing.{held, puts, Moved}
use Rattle.question.proofs.unroll.put_links.Given as goal

abbrev pub invariant-loop-t : goal.invariant-loop-t
invariant-loop-t l =
    (puts (held l.page) (stretch (link_clauses (sheet_of l.sheet.numbers.now)) l.t (l.k + 1 - l.t))
    ≡ puts (held l.initial.page) (stretch (link_clauses (sheet_of l.sheet.numbers.now)) 1 l.k))
    × Moved l.initial.page l.page ((l.t - 1) * (2 * latch_count l.sheet.numbers.now)) ((l.t - 1) * (4 * latch_count l.sheet.numbers.now))
