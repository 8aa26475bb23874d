use Rattle.std.proofs.Common.{◌≡◌, ◌-◌, ◌++◌, string_bytes}
use Rattle.checker.specs.Reports.{numbers_from}
use Rattle.driver.specs.Texts.{numbers_text}
use Rattle.driver.proofs.text.write_line.Given as goal

-- what is written, and then what is left, is the whole
abbrev pub invariant-loop-i : goal.invariant-loop-i
invariant-loop-i l =
    string_bytes l.text ++ numbers_text (numbers_from l.numbers l.i (l.count - l.i))
    ≡ string_bytes l.initial.text ++ numbers_text (numbers_from l.numbers 0 l.count)
