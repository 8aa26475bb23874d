use Rattle.std.proofs.Common.{◌≡◌, suc, ◌-◌, ◌++◌, string_bytes}
use Rattle.driver.specs.Texts.{frames_text}
use Rattle.driver.proofs.text.write_frames.Given as goal

-- what is written, and then what is left, is the whole
abbrev pub invariant-loop : goal.invariant-loop
invariant-loop l =
    string_bytes l.text ++ frames_text (suc l.last - l.counter) l.latches l.inputs l.rest
    ≡ string_bytes l.initial.text ++ frames_text (suc l.last) l.latches l.inputs l.frames
