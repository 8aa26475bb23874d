use Rattle.std.proofs.Common.{◌≡◌, ◌*◌, take}
use Rattle.lists.specs.Stretch.{stretch}
use Rattle.sheet.specs.Sheets.{sheet_of}
use Rattle.checker.specs.Reports.{frame_numbers}
use Rattle.checker.proofs.runs.write_run.Given as goal

abbrev pub invariant-loop-frame : goal.invariant-loop-frame
invariant-loop-frame l = take (l.frame * l.size) l.run ≡ stretch (frame_numbers (sheet_of l.sheet.numbers.now) l.assignment) 0 l.frame
