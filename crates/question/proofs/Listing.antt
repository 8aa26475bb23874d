-- What a list that lays out the clauses of a question says of them by their numbers. Assumes nothing.
use Rattle.std.proofs.Common.{◌≡◌, ℕ, zero, suc, ◌+◌, ◌-◌, ◌*◌, ◌/◌, ◌<◌, ◌≤◌, true, false, ◌||◌, List, [], length, get_or, refl, ap, ◌∙◌, subst, ⊎_elim, arith}
use Rattle.std.proofs.ByRecursion.{All-get_or}
use Rattle.std.proofs.lemmas.List.{length-append, get_or_append_left, get_or-append_right, get_or_past}
use Rattle.std.proofs.lemmas.Bool.{cases_lt}
use Rattle.sheet.specs.Sheets.{Sheet}
use Rattle.question.specs.Clauses.{and_clauses, latch_clauses, first_clauses, second_clauses, path_clauses}
use Rattle.question.specs.Laid.{Lays, Parted}
use Rattle.question.specs.Meaning.{is_local, is_shared, Sides}
use Rattle.question.specs.Offsets.{frame_size, frame_start, gate_number, latch_number, formula_number, bad_number, PathNumbers, NumbersPath, StateNumbers, StateNumbered}
use Rattle.question.specs.Questions.{clause_count, clause_of, Mem}

-- ---- which clauses have a literal
and_some : (x p q e : ℕ) → e < 3 → 0 < length (get_or (and_clauses x p q) e [])
and_some x p q zero h = omega arith
and_some x p q (suc zero) h = omega arith
and_some x p q (suc (suc zero)) h = omega arith
and_some x p q (suc (suc (suc e))) h = absurd (omega arith)

latch_some : (s : Sheet) (t i e : ℕ) → e < 2 → 0 < length (get_or (latch_clauses s t i) e [])
latch_some s t i zero h = omega arith
latch_some s t i (suc zero) h = omega arith
latch_some s t i (suc (suc e)) h = absurd (omega arith)

-- ---- a clause that has one is found by its number
module _ (q : List ℕ) (v a : ℕ) (cs : List (List ℕ)) (laid : Lays q v a cs) where
  found : (i : ℕ) (c : List ℕ) → 0 < length c → get_or cs i [] ≡ c → clause_of q i ≡ c
  found i c some is =
      ⊎_elim
      (λ (there : i < length cs). laid.clauses i there ∙ is)
      (λ (past : length cs ≤ i). absurd (omega (arith, ap length (get_or_past cs i [] past), ap length is)))
      (cases_lt i (length cs))

  pub lays_state_numbers : (s : Sheet) (f : List ℕ) (n x y : ℕ) → StateNumbers s f n x y cs → StateNumbered s f n x y (clause_count q) (clause_of q)
  lays_state_numbers s f n x y are =
      record {
        size = laid.count ∙ are.size;
        constant = found 0 _ (omega arith) are.constant;
        gates = λ g e h l. found (1 + 3 * g + e) _ (and_some _ _ _ e l) (are.gates g e h l);
        formula_gates = λ g e h l. found (frame_size s + 3 * g + e) _ (and_some _ _ _ e l) (are.formula_gates g e h l);
        first = found (frame_size s + 3 * n) _ (omega arith) are.first;
        second = found (frame_size s + 3 * n + 1) _ (omega arith) are.second;
      }

-- ---- a path question
module _ (s : Sheet) (f : List ℕ) (n r k : ℕ) (q : List ℕ) (v : ℕ)
    (laid : Lays q v (length (first_clauses s f n r k)) (path_clauses s f n r k)) where
  abbrev firsts : List (List ℕ)
  firsts = first_clauses s f n r k

  abbrev seconds : List (List ℕ)
  seconds = second_clauses s k

  at : (i : ℕ) (c : List ℕ) → 0 < length c → get_or (path_clauses s f n r k) i [] ≡ c → clause_of q i ≡ c
  at = found q v (length firsts) (path_clauses s f n r k) laid

  pub lays_path_numbers : PathNumbers s f n r k → NumbersPath s f n r k q
  lays_path_numbers are =
      let last : bad_number s n k < length (path_clauses s f n r k) = omega (arith, are.size) in
      record {
        first_size = laid.first ∙ are.first_size;
        size = laid.count ∙ are.size;
        constants = λ t h. at (frame_start s n t) _ (omega arith) (are.constants t h);
        gates = λ t g e h l m. at (gate_number s n t g + e) _ (and_some _ _ _ e m) (are.gates t g e h l m);
        latches = λ t i e h l m. at (latch_number s n k t i + e) _ (latch_some s t i e m) (are.latches t i e h l m);
        formula_gates = λ g e h l. at (formula_number s g + e) _ (and_some _ _ _ e l) (are.formula_gates g e h l);
        formula = at (formula_number s n) _ (omega arith) are.formula;
        bad = laid.clauses (bad_number s n k) last ∙ are.bad;
      }

  pub lays_parted : Sides s f n r k → Parted s k q
  lays_parted sides =
      record {
        first = λ i x h m.
            let low : i < length firsts = omega (arith, laid.first) in
            let there : i < length (path_clauses s f n r k) = omega (arith, length-append firsts seconds) in
            let is : clause_of q i ≡ get_or firsts i [] = laid.clauses i there ∙ get_or_append_left firsts seconds [] i low in
            All-get_or (λ c. (x : ℕ) → Mem x c → (is_local s k (x / 2) || is_shared s (x / 2)) ≡ true) firsts i [] low sides.first x (subst (Mem x) is m);
        second = λ i x h l m.
            let past : length firsts ≤ i = omega (arith, laid.first) in
            let there : i < length (path_clauses s f n r k) = omega (arith, laid.count) in
            let low : i - length firsts < length seconds = omega (arith, length-append firsts seconds) in
            let is : clause_of q i ≡ get_or seconds (i - length firsts) [] = laid.clauses i there ∙ get_or-append_right firsts seconds (length firsts) i [] refl past in
            All-get_or (λ c. (x : ℕ) → Mem x c → is_local s k (x / 2) ≡ false) seconds (i - length firsts) [] low sides.second x (subst (Mem x) is m);
      }
