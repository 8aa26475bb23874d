-- What a whole refutation does to the working list. Assumes nothing.
use Rattle.std.specs.Prelude.{◌≡◌, ℕ, zero, suc, ◌+◌, ◌-◌, ◌*◌, Bool, ◌&&◌, List, length, replicate, Ok, Err, Result, ◌==◌, nat_le, nat_lt, slice_set}
use Rattle.sheet.specs.Faults.{and_then, demand, map_ok}
use Rattle.sheet.specs.declared.fault.Cause.TheVariants.{NotWhole, NotEmpty}
use Rattle.sheet.specs.declared.fault.Fault.{Fault}
use Rattle.question.specs.Questions.{span}
use Rattle.answer.specs.Steps.{step_count, step_of, refused, advanced, noted}
use Rattle.answer.specs.declared.steps.Progress.{Progress}

-- whether there are from 1 to 16777216 steps, and all their numbers are there
abbrev pub is_whole : List ℕ → Bool
is_whole t = nat_lt 0 (step_count t) && (nat_le (step_count t) 16777216 && nat_le (1 + 3 * step_count t) (length t))

-- before the first of s steps: behind the s + 1 places there is nothing yet
abbrev pub start : ℕ → Progress
start s = record { step = 0; end = s + 1 }

-- a working list of n places before the first of s steps
abbrev pub opened : ℕ → ℕ → List ℕ
opened n s = slice_set (replicate n 0) 0 (s + 1)

-- the last clause has to be empty
abbrev pub finished : List ℕ → Progress → Result (List ℕ) Fault
finished w at = demand (length (span w (at.step - 1)) == 0) (refused NotEmpty (at.step - 1)) (Ok w)

-- n steps more: the working list after them
abbrev pub run : List ℕ → List ℕ → ℕ → List ℕ → Progress → Result (List ℕ) Fault
run q t zero w at = finished w at
run q t (suc n) w at =
    let s = step_of t at.step in
    and_then (advanced q w s at) (λ more. run q t n (noted q w s at) more)

-- all steps, with a working list of n places
abbrev pub outcome : List ℕ → List ℕ → ℕ → Result (List ℕ) Fault
outcome q t n = demand (is_whole t) (refused NotWhole 0) (run q t (step_count t) (opened n (step_count t)) (start (step_count t)))

abbrev pub verdict : Result (List ℕ) Fault → Result (Unit {0}) Fault
verdict o = map_ok (λ _. tt) o

-- the working list of n places at the end: all zero if the refutation is refused
abbrev pub left : ℕ → Result (List ℕ) Fault → List ℕ
left n (Ok w) = w
left n (Err f) = replicate n 0

-- what is answered, and what the working list holds then
abbrev pub checked : List ℕ → List ℕ → List ℕ → Result (Unit {0}) Fault × List ℕ
checked q t w = (verdict (outcome q t (length w)), left (length w) (outcome q t (length w)))

-- the working list after all steps, if none is refused
abbrev pub Held : Result (List ℕ) Fault → List ℕ → Type 0
Held (Ok w) v = v ≡ w
Held (Err f) v = Unit {0}
