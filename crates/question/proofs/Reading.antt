-- The layout of clauses tells them again. Assumes nothing.
use Rattle.std.proofs.Common.{◌≡◌, ℕ, zero, suc, ◌+◌, ◌-◌, ◌<◌, ◌≤◌, true, List, [], ◌∷◌, ◌++◌, length, get_or, take, drop, sym, refl, ap, ◌∙◌, subst, arith}
use Rattle.std.specs.List.{AllByRecursion}
use Rattle.std.proofs.ByRecursion.{All-get_or, All-from_get_or}
use Rattle.std.proofs.lemmas.List.{append_assoc, length-append, drop-drop, drop_at, drop_more, take_at, take_all, take_more, append-nil, take-append-drop}
use Rattle.signal.specs.Truth.{holds}
use Rattle.question.specs.Layout.{flat, starts, encode}
use Rattle.question.specs.Questions.{clause_of, IsQuestion}
use Rattle.question.specs.Meaning.{Proper}
use Rattle.question.specs.Laid.{Lays}
use Rattle.question.proofs.Counts.{flat_append, literals, literals_append}
use Rattle.question.proofs.Laying.{length_starts, length_encode}

-- place i, with anything behind the places
place_at : (cs : List (List ℕ)) (t i : ℕ) (ws : List ℕ) → i ≤ length cs →
    get_or (starts t cs ++ ((t + length (flat cs)) ∷ ws)) i 0 ≡ t + length (flat (take i cs))
place_at [] t zero ws h = refl
place_at [] t (suc i) ws h = absurd (omega arith)
place_at (c ∷ cs) t zero ws h = omega arith
place_at (c ∷ cs) t (suc i) ws h =
    let e : t + length (c ++ flat cs) ≡ t + length c + length (flat cs) = omega (arith, length-append c (flat cs)) in
    ap (λ x. get_or (starts (t + length c) cs ++ (x ∷ ws)) i 0) e ∙ place_at cs (t + length c) i ws (omega arith)
    ∙ omega (arith, length-append c (flat (take i cs)))

-- clause i among the literals
flat_split : (cs : List (List ℕ)) (i : ℕ) → i < length cs → flat cs ≡ flat (take i cs) ++ (get_or cs i [] ++ flat (drop (i + 1) cs))
flat_split cs i h =
    ap flat (sym (take-append-drop i cs)) ∙ flat_append (take i cs) (drop i cs)
    ∙ ap (λ x. flat (take i cs) ++ flat x) (drop_more cs i [] h)

-- ---- clauses laid out, with anything behind them
module _ (v a : ℕ) (cs : List (List ℕ)) (zs : List ℕ) where
  abbrev q : List ℕ
  q = encode v a cs ++ zs

  abbrev t : ℕ
  t = 4 + length cs

  abbrev front : List ℕ
  front = v ∷ length cs ∷ a ∷ (starts t cs ++ ((t + length (flat cs)) ∷ []))

  q_is : q ≡ front ++ (flat cs ++ zs)
  q_is =
      ap (λ x. v ∷ length cs ∷ a ∷ x)
      (append_assoc (starts t cs) ((t + length (flat cs)) ∷ flat cs) zs ∙ sym (append_assoc (starts t cs) ((t + length (flat cs)) ∷ []) (flat cs ++ zs)))

  front_length : length front ≡ t
  front_length = omega (arith, length-append (starts t cs) ((t + length (flat cs)) ∷ []), length_starts cs t)

  pub place_is : (i : ℕ) → i ≤ length cs → get_or q (3 + i) 0 ≡ t + length (flat (take i cs))
  place_is i h =
      let e : 3 + i ≡ suc (suc (suc i)) = omega arith in
      ap (λ j. get_or q j 0) e ∙ ap (λ x. get_or x i 0) (append_assoc (starts t cs) ((t + length (flat cs)) ∷ flat cs) zs)
      ∙ place_at cs t i (flat cs ++ zs) h

  taken_more : (i : ℕ) → i < length cs → length (flat (take (i + 1) cs)) ≡ length (flat (take i cs)) + length (get_or cs i [])
  taken_more i h =
      ap literals (take_more cs i [] h) ∙ literals_append (take i cs) (get_or cs i [] ∷ [])
      ∙ ap (λ x. length (flat (take i cs)) + length x) (append-nil (get_or cs i []))

  pub clause_is : (i : ℕ) → i < length cs → clause_of q i ≡ get_or cs i []
  clause_is i h =
      let c : List ℕ = get_or cs i [] in
      let n : ℕ = length (flat (take i cs)) in
      let here : get_or q (3 + i) 0 ≡ t + n = place_is i (omega arith) in
      let next : get_or q (3 + i + 1) 0 ≡ t + length (flat (take (i + 1) cs)) = let e : 3 + i + 1 ≡ 3 + (i + 1) = omega arith in ap (λ j. get_or q j 0) e ∙ place_is (i + 1) (omega arith) in
      let size : get_or q (3 + i + 1) 0 - get_or q (3 + i) 0 ≡ length c = omega (arith, taken_more i h) in
      let rest : List ℕ = flat (drop (i + 1) cs) ++ zs in
      let tail : flat cs ++ zs ≡ flat (take i cs) ++ (c ++ rest) =
      ap (λ x. x ++ zs) (flat_split cs i h) ∙ append_assoc (flat (take i cs)) (c ++ flat (drop (i + 1) cs)) zs
      ∙ ap (λ x. flat (take i cs) ++ x) (append_assoc c (flat (drop (i + 1) cs)) zs) in
      ap (λ m. take m (drop (get_or q (3 + i) 0) q)) size ∙ ap (λ m. take (length c) (drop m q)) here
      ∙ ap (λ x. take (length c) (drop (t + n) x)) q_is
      ∙ ap (take (length c)) (sym (drop-drop n t (front ++ (flat cs ++ zs))) ∙ ap (drop n) (drop_at front (flat cs ++ zs) t front_length ∙ tail) ∙ drop_at (flat (take i cs)) (c ++ rest) n refl)
      ∙ take_at c rest (length c) refl

  pub laid_before : Lays q v a cs
  laid_before =
      record {
        variables = refl;
        count = refl;
        first = refl;
        clauses = clause_is;
        satisfied = λ α. (
          λ h. All-from_get_or (λ c. holds α c ≡ true) cs [] (λ i l. sym (ap (holds α) (clause_is i l)) ∙ h i l),
          λ h i l. ap (holds α) (clause_is i l) ∙ All-get_or (λ c. holds α c ≡ true) cs i [] l h,
        );
      }

-- ---- clauses laid out
module _ (v a : ℕ) (cs : List (List ℕ)) where
  abbrev list : List ℕ
  list = encode v a cs

  pub encode_lays : Lays list v a cs
  encode_lays = subst (λ (xs : List ℕ). Lays xs v a cs) (append-nil list) (laid_before v a cs [])

  encode_place : (i : ℕ) → i ≤ length cs → get_or list (3 + i) 0 ≡ 4 + length cs + length (flat (take i cs))
  encode_place i h = sym (ap (λ (xs : List ℕ). get_or xs (3 + i) 0) (append-nil list)) ∙ place_is v a cs [] i h

  -- a question, if each clause is one over its variables
  pub encode_question : a ≤ length cs → AllByRecursion (Proper v) cs → IsQuestion list
  encode_question firsts proper =
      let clause : (k : ℕ) → k < length cs → Proper v (clause_of list k) = λ k h. subst (Proper v) (sym (encode_lays.clauses k h)) (All-get_or (Proper v) cs k [] h proper) in
      record {
        parts = firsts;
        begins = encode_place 0 (omega arith) ∙ omega arith;
        none_empty = λ k h.
            let some : 0 < length (get_or cs k []) = (All-get_or (Proper v) cs k [] h proper).some_literal in
            let e : 4 + k ≡ 3 + (k + 1) = omega arith in
            let next : get_or list (4 + k) 0 ≡ 4 + length cs + length (flat (take (k + 1) cs)) = ap (λ (j : ℕ). get_or list j 0) e ∙ encode_place (k + 1) (omega arith) in
            omega (arith, encode_place k (omega arith), next, taken_more v a cs [] k h);
        ends = encode_place (length cs) (omega arith) ∙ ap (λ x. 4 + length cs + length (flat x)) (take_all (length cs) cs (omega arith)) ∙ sym (length_encode v a cs);
        clauses = λ k h. (clause k h).ascends;
        variables = λ k x h m. (clause k h).below x m;
      }
