-- A clause, cut out of a question. Assumes nothing.
use Rattle.std.proofs.Common.{◌≡◌, ℕ, ◌+◌, ◌-◌, ◌<◌, ◌≤◌, min, List, length, get_or, take, drop, sym, ap, ◌∙◌, ⊎_elim, arith, length-drop}
use Rattle.std.proofs.lemmas.Bool.{cases_lt}
use Rattle.std.proofs.lemmas.List.{take_all}
use Rattle.question.specs.Questions.{clause_of}

-- where the list ends before
cut_short : (q : List ℕ) (start end to : ℕ) → to ≡ min end (length q) → take (to - start) (drop start q) ≡ take (end - start) (drop start q)
cut_short q start end to is =
    ⊎_elim
    (λ (long : end < length q). let same : to - start ≡ end - start = omega arith in ap (λ (n : ℕ). take n (drop start q)) same)
    (λ (short : length q ≤ end).
    take_all (to - start) (drop start q) (omega (arith, length-drop start q)) ∙ sym (take_all (end - start) (drop start q) (omega (arith, length-drop start q))))
    (cases_lt end (length q))

-- and where the places are in descending order
cut_empty : (q : List ℕ) (start from to : ℕ) → from ≡ min start to → take (to - from) (drop from q) ≡ take (to - start) (drop start q)
cut_empty q start from to is =
    ⊎_elim
    (λ (less : to < start).
    let none : to - from ≡ 0 = omega arith in
    let none' : 0 ≡ to - start = omega arith in
    ap (λ (n : ℕ). take n (drop from q)) none ∙ ap (λ (n : ℕ). take n (drop start q)) none')
    (λ (more : start ≤ to). let same : from ≡ start = omega arith in ap (λ (n : ℕ). take (to - n) (drop n q)) same)
    (cases_lt to start)

-- from the numbers at its two places
pub clause_cut : (q : List ℕ) (k start end from to : ℕ) → start ≡ get_or q (3 + k) 0 → end ≡ get_or q (4 + k) 0 → to ≡ min end (length q) → from ≡ min start to →
    take (to - from) (drop from q) ≡ clause_of q k
clause_cut q k start end from to at at' is is' =
    let place : 4 + k ≡ 3 + k + 1 = omega arith in
    let ends : end ≡ get_or q (3 + k + 1) 0 = at' ∙ ap (λ (i : ℕ). get_or q i 0) place in
    cut_empty q start from to is' ∙ cut_short q start end to is ∙ (λ i. take (ends i - at i) (drop (at i) q))
