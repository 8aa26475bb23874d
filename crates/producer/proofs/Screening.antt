-- A reply that is judged, over plain lists. Assumes nothing.
use Rattle.std.proofs.Common.{◌≡◌, ℕ, ◌^◌, ◌≤◌, true, false, List, length, take, Result, ap, ◌∙◌, arith, length-take}
use Rattle.std.proofs.lemmas.List.{take_all}
use Rattle.lists.specs.Counted.{counted}
use Rattle.sheet.specs.declared.fault.Fault.{Fault}
use Rattle.question.specs.Questions.{variable_count}
use Rattle.answer.specs.Assignments.{judged}
use Rattle.producer.specs.Replying.{KeepsWord}
use Rattle.producer.specs.declared.interface.Reply.{Reply}

-- the front of a cut list is cut already
pub front_judged : (q a b f : List ℕ) (v : ℕ) (r : Result (Unit {0}) Fault) → b ≡ counted a → length b ≤ 2 ^ 28 → v ≡ variable_count (counted q) → f ≡ take v b →
    r ≡ judged (counted q) (counted f) → r ≡ judged (counted q) (take (variable_count (counted q)) (counted a))
front_judged q a b f v r cut few is front told =
    let short : length f ≤ 2 ^ 28 = omega (arith, ap length front, length-take v b) in
    told
    ∙ ap (judged (counted q)) (take_all (2 ^ 28) f short ∙ front)
    ∙ ap (λ u. judged (counted q) (take u b)) is
    ∙ ap (λ u. judged (counted q) (take (variable_count (counted q)) u)) cut

-- who promises nothing keeps it
pub no_word : (q a w : List ℕ) (r : Reply) → KeepsWord false q a w r
no_word q a w r = record { word = λ (e : false ≡ true) is. let z : ◌≡◌ {A = ℕ} 0 1 = cc in absurd (omega arith) }
