-- What the calls of a check answer. Assumes nothing.
use Rattle.std.proofs.Common.{◌≡◌, ℕ, List, Result, ap, ◌∙◌}
use Rattle.lists.specs.Counted.{counted, on_counted}
use Rattle.sheet.specs.declared.fault.Fault.{Fault}
use Rattle.answer.specs.Runs.{checked}
use Rattle.checker.specs.declared.Asked.{Asked}
use Rattle.checker.specs.declared.Weighed.{Weighed}
use Rattle.checker.specs.declared.Refused.{Refused}
use Rattle.checker.specs.Calls.{fetched, weighing, weighed}

abbrev Judged : Type 0
Judged = Result (Unit {0}) Fault × List ℕ

pub weighed_by : (a : Asked) (q t w q' w' : List ℕ) (r : Result (Unit {0}) Fault) → q' ≡ fetched a q
    → ◌≡◌ {A = Judged} (r, w') (on_counted (checked (counted q') (counted t)) w)
    → ◌≡◌ {A = Result Weighed Refused × List ℕ} (weighing r a, w') (weighed a q t w)
weighed_by a q t w q' w' r is e =
    let told : ◌≡◌ {A = Judged} (r, w') (on_counted (checked (counted (fetched a q)) (counted t)) w) =
    e ∙ ap (λ (ys : List ℕ). on_counted (checked (counted ys) (counted t)) w) is in
    ap (λ (p : Judged). let v : Result Weighed Refused × List ℕ = (weighing p.0 a, p.1) in v) told
