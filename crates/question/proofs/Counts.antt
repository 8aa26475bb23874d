-- How many clauses and literals the questions have. Assumes nothing.
use Rattle.std.proofs.Common.{◌≡◌, ℕ, zero, suc, ◌+◌, ◌*◌, List, [], ◌∷◌, ◌++◌, length, sym, refl, ap, ◌∙◌, suc-mul, zero-mul, arith}
use Rattle.std.proofs.lemmas.List.{append_assoc, length-append}
use Rattle.lists.specs.Stretch.{stretch}
use Rattle.sheet.specs.Sheets.{Sheet}
use Rattle.formula.specs.Formulas.{width}
use Rattle.formula.specs.Framing.{in_frame, in_question}
use Rattle.question.specs.Clauses.{gate_clauses, frame_clauses, latch_clauses, link_clauses, formula_gate, formula_clauses, bad_clauses, state_clauses, first_clauses, second_clauses, path_clauses}
use Rattle.question.specs.Layout.{flat}
use Rattle.question.specs.Writing.{both_clauses, begin_clauses}
use Rattle.question.specs.Sizes.{state_clause_count, state_literal_count, first_clause_count, first_literal_count, second_clause_count, second_literal_count}

pub flat_append : (xs ys : List (List ℕ)) → flat (xs ++ ys) ≡ flat xs ++ flat ys
flat_append [] ys = refl
flat_append (x ∷ xs) ys = ap (λ l. x ++ l) (flat_append xs ys) ∙ sym (append_assoc x (flat xs) (flat ys))

abbrev pub literals : List (List ℕ) → ℕ
literals cs = length (flat cs)

pub literals_append : (xs ys : List (List ℕ)) → literals (xs ++ ys) ≡ literals xs + literals ys
literals_append xs ys = ap length (flat_append xs ys) ∙ length-append (flat xs) (flat ys)

-- a count that adds up, over a stretch of equal parts
summed : {X : Type 0} (count : List X → ℕ) → count [] ≡ 0 → ((xs ys : List X) → count (xs ++ ys) ≡ count xs + count ys) →
    (f : ℕ → List X) (c : ℕ) → ((i : ℕ) → count (f i) ≡ c) → (n i : ℕ) → count (stretch f i n) ≡ n * c
summed count none more f c each zero i = none ∙ sym (zero-mul c)
summed count none more f c each (suc n) i =
    let a = more (f i) (stretch f (i + 1) n) in
    let b = each i in
    let d = summed count none more f c each n (i + 1) in
    omega (arith, suc-mul n c)

pub stretch_length : {X : Type 0} (f : ℕ → List X) (c : ℕ) → ((i : ℕ) → length (f i) ≡ c) → (n i : ℕ) → length (stretch f i n) ≡ n * c
stretch_length = summed length refl length-append

pub stretch_literals : (f : ℕ → List (List ℕ)) (c : ℕ) → ((i : ℕ) → literals (f i) ≡ c) → (n i : ℕ) → literals (stretch f i n) ≡ n * c
stretch_literals = summed literals refl literals_append

module _ (s : Sheet) where
  pub frame_length : (t : ℕ) → length (frame_clauses s t) ≡ 1 + 3 * s.gates
  frame_length t = omega (arith, stretch_length (gate_clauses s t) 3 (λ i. refl) s.gates 0)

  pub frame_literals : (t : ℕ) → literals (frame_clauses s t) ≡ 1 + 7 * s.gates
  frame_literals t = omega (arith, stretch_literals (gate_clauses s t) 7 (λ i. refl) s.gates 0)

  pub link_length : (t : ℕ) → length (link_clauses s t) ≡ 2 * s.latches
  link_length t = omega (arith, stretch_length (latch_clauses s t) 2 (λ i. refl) s.latches 0)

  pub link_literals : (t : ℕ) → literals (link_clauses s t) ≡ 4 * s.latches
  link_literals t = omega (arith, stretch_literals (latch_clauses s t) 4 (λ i. refl) s.latches 0)

  pub formula_length : (m : ℕ) (f : List ℕ) (n : ℕ) → length (formula_clauses s m f n) ≡ 3 * n
  formula_length m f n = omega (arith, stretch_length (formula_gate s m f) 3 (λ i. refl) n 0)

  pub formula_literals : (m : ℕ) (f : List ℕ) (n : ℕ) → literals (formula_clauses s m f n) ≡ 7 * n
  formula_literals m f n = omega (arith, stretch_literals (formula_gate s m f) 7 (λ i. refl) n 0)

  module _ (f : List ℕ) (n : ℕ) where
    pub both_length : (x y : ℕ) → length (both_clauses s f n x y) ≡ state_clause_count s n
    both_length x y =
        let end : List (List ℕ) = (x ∷ []) ∷ (y ∷ []) ∷ [] in
        omega (arith, length-append (frame_clauses s 0) (formula_clauses s 1 f n ++ end), length-append (formula_clauses s 1 f n) end, frame_length 0, formula_length 1 f n)

    pub both_literals : (x y : ℕ) → literals (both_clauses s f n x y) ≡ state_literal_count s n
    both_literals x y =
        let end : List (List ℕ) = (x ∷ []) ∷ (y ∷ []) ∷ [] in
        omega (arith, literals_append (frame_clauses s 0) (formula_clauses s 1 f n ++ end), literals_append (formula_clauses s 1 f n) end, frame_literals 0, formula_literals 1 f n)

    pub state_length : (x y : ℕ) → length (state_clauses s f n x y) ≡ state_clause_count s n
    state_length x y = both_length (in_question (width s) 1 x) y

    pub state_literals : (x y : ℕ) → literals (state_clauses s f n x y) ≡ state_literal_count s n
    state_literals x y = both_literals (in_question (width s) 1 x) y

    pub begin_length : (x k : ℕ) → length (begin_clauses s f n x k) ≡ first_clause_count s n
    begin_length x k =
        let gates : List (List ℕ) = formula_clauses s (k + 2) f n in
        let end : List (List ℕ) = (x ∷ []) ∷ [] in
        omega (
          arith,
          length-append (frame_clauses s 0) (link_clauses s 0 ++ (gates ++ end)),
          length-append (link_clauses s 0) (gates ++ end),
          length-append gates end,
          frame_length 0,
          link_length 0,
          formula_length (k + 2) f n,
        )

    pub begin_literals : (x k : ℕ) → literals (begin_clauses s f n x k) ≡ first_literal_count s n
    begin_literals x k =
        let gates : List (List ℕ) = formula_clauses s (k + 2) f n in
        let end : List (List ℕ) = (x ∷ []) ∷ [] in
        omega (
          arith,
          literals_append (frame_clauses s 0) (link_clauses s 0 ++ (gates ++ end)),
          literals_append (link_clauses s 0) (gates ++ end),
          literals_append gates end,
          frame_literals 0,
          link_literals 0,
          formula_literals (k + 2) f n,
        )

    pub first_length : (r k : ℕ) → length (first_clauses s f n r k) ≡ first_clause_count s n
    first_length r k = begin_length (in_question (width s) (k + 2) r) k

  module _ (k : ℕ) where
    bad_literals : literals (bad_clauses s k) ≡ k + 1
    bad_literals =
        let bads : List ℕ = stretch (λ t. in_frame (width s) t s.bad ∷ []) 1 (k + 1) in
        omega (arith, length-append bads [], stretch_length (λ t. in_frame (width s) t s.bad ∷ []) 1 (λ i. refl) (k + 1) 1)

    pub second_length : length (second_clauses s k) ≡ second_clause_count s k
    second_length =
        let frames : List (List ℕ) = stretch (frame_clauses s) 1 (k + 1) in
        let links : List (List ℕ) = stretch (link_clauses s) 1 k in
        omega (
          arith,
          length-append frames (links ++ bad_clauses s k),
          length-append links (bad_clauses s k),
          stretch_length (frame_clauses s) (1 + 3 * s.gates) frame_length (k + 1) 1,
          stretch_length (link_clauses s) (2 * s.latches) link_length k 1,
        )

    pub second_literals : literals (second_clauses s k) ≡ second_literal_count s k
    second_literals =
        let frames : List (List ℕ) = stretch (frame_clauses s) 1 (k + 1) in
        let links : List (List ℕ) = stretch (link_clauses s) 1 k in
        omega (
          arith,
          literals_append frames (links ++ bad_clauses s k),
          literals_append links (bad_clauses s k),
          bad_literals,
          stretch_literals (frame_clauses s) (1 + 7 * s.gates) frame_literals (k + 1) 1,
          stretch_literals (link_clauses s) (4 * s.latches) link_literals k 1,
        )

    pub begun_length : (f : List ℕ) (n x : ℕ) → length (begin_clauses s f n x k ++ second_clauses s k) ≡ first_clause_count s n + second_clause_count s k
    begun_length f n x = length-append (begin_clauses s f n x k) (second_clauses s k) ∙ (λ i. begin_length f n x k i + second_length i)

    pub begun_literals : (f : List ℕ) (n x : ℕ) → literals (begin_clauses s f n x k ++ second_clauses s k) ≡ first_literal_count s n + second_literal_count s k
    begun_literals f n x = literals_append (begin_clauses s f n x k) (second_clauses s k) ∙ (λ i. begin_literals f n x k i + second_literals i)

    pub path_length : (f : List ℕ) (n r : ℕ) → length (path_clauses s f n r k) ≡ first_clause_count s n + second_clause_count s k
    path_length f n r = begun_length f n (in_question (width s) (k + 2) r)

    pub path_literals : (f : List ℕ) (n r : ℕ) → literals (path_clauses s f n r k) ≡ first_literal_count s n + second_literal_count s k
    path_literals f n r = begun_literals f n (in_question (width s) (k + 2) r)
