-- The literals of every clause ascend. Assumes nothing.
use Rattle.std.proofs.Common.{◌≡◌, ℕ, zero, suc, ◌+◌, ◌*◌, ◌/◌, ◌%◌, ◌<◌, List, [], ◌∷◌, length, add-one, arith}
use Rattle.std.proofs.lemmas.Nat.{mul-le}
use Rattle.std.specs.List.{AllByRecursion}
use Rattle.lists.specs.Stretch.{stretch}
use Rattle.sheet.specs.Sheets.{Sheet}
use Rattle.machine.specs.Values.{gate_at}
use Rattle.formula.specs.Conjunction.{opposite}
use Rattle.formula.specs.Formulas.{width, left_of, right_of, Gates}
use Rattle.formula.specs.Framing.{in_frame, in_question}
use Rattle.question.specs.Clauses.{and_clauses, gate_literal, latch_literal, state_clauses, path_clauses}
use Rattle.question.specs.Questions.{Clause}
use Rattle.question.proofs.Formulae.{named_low}
use Rattle.question.proofs.Literals.{row_more, opposite_half, placed_above, posed_half, posed_sign}
use Rattle.question.proofs.Parts.{stretch_all, FrameParts, LinkParts, FormulaParts, state_whole, path_whole}
use Rattle.question.proofs.Variables.{Lawful, over_mem}

-- not empty, and literals ascend
abbrev pub Rising : List ℕ → Type 0
Rising c = (0 < length c) × Clause c

pair_rises : (x y : ℕ) → x / 2 < y / 2 → Rising (x ∷ y ∷ [])
pair_rises x y h = (omega arith, (over_mem (λ j. x / 2 < j) (y ∷ []) (h, tt), (over_mem (λ j. y / 2 < j) [] tt, tt)))

one_rises : (x : ℕ) → Rising (x ∷ [])
one_rises x = (omega arith, (over_mem (λ j. x / 2 < j) [] tt, tt))

and_rises : (x p q : ℕ) → x / 2 ≡ (x + 1) / 2 → q / 2 < p / 2 → p / 2 < x / 2 → AllByRecursion Rising (and_clauses x p q)
and_rises x p q same a b =
    let e = opposite_half q in
    let d = opposite_half p in
    let lowest = over_mem (λ j. opposite q / 2 < j) (opposite p ∷ x ∷ []) (omega arith, (omega arith, tt)) in
    (pair_rises p (x + 1) (omega arith), (pair_rises q (x + 1) (omega arith), ((omega arith, (lowest, (pair_rises (opposite p) x (omega arith)).1)), tt)))

-- one literal in each of n frames
framed_rise : (w x n t : ℕ) → 0 < w → Clause (stretch (λ i. in_frame w i x ∷ []) t n)
framed_rise w x zero t some = tt
framed_rise w x (suc n) t some = (
  over_mem (λ j. in_frame w t x / 2 < j) (stretch (λ i. in_frame w i x ∷ []) (t + 1) n)
      (stretch_all (λ y. in_frame w t x / 2 < y / 2) (λ i. in_frame w i x ∷ []) n (t + 1) (λ i a b.
      (omega (arith, mul-le (t + 1) w i w a (omega arith), row_more t w), tt))),
  framed_rise w x n (t + 1) some,
)

module _ (s : Sheet) (lawful : Lawful s) where
  abbrev w : ℕ
  w = width s

  frame_rises : (t : ℕ) → FrameParts Rising s t
  frame_rises t =
      record {
        constant = one_rises (in_frame w t 1);
        gates = λ g h.
            let a : s.left g / 2 < gate_at s g = lawful.ascends.lefts g h in
            let b : s.right g / 2 < s.left g / 2 = lawful.ascends.rights g h in
            and_rises (in_frame w t (gate_literal s g)) (in_frame w t (s.left g)) (in_frame w t (s.right g)) (omega arith) (omega arith) (omega arith);
      }

  link_rises : (t : ℕ) → LinkParts Rising s t
  link_rises t i h =
      let a : s.next i / 2 < w = lawful.nexts i h in
      let b = opposite_half (s.next i) in
      let c = row_more t w in (
        pair_rises (in_frame w t (s.next i)) (in_frame w (t + 1) (latch_literal s i + 1)) (omega arith),
        (pair_rises (in_frame w t (opposite (s.next i))) (in_frame w (t + 1) (latch_literal s i)) (omega arith), tt),
      )

  end_rises : (k : ℕ) → Rising (stretch (λ t. in_frame w t s.bad ∷ []) 1 (k + 1))
  end_rises k = (rw add-one (omega arith), framed_rise w s.bad (k + 1) 1 (omega arith))

  module _ (f : List ℕ) (n : ℕ) (gates : Gates s f n) where
    gates_rise : (m : ℕ) → FormulaParts Rising s m f n
    gates_rise m g h =
        let own : ℕ = 2 * (w + g) in
        let even : in_question w m own % 2 ≡ own % 2 = posed_sign w m own in
        let half : own / 2 ≡ w + g = omega arith in
        let above : (x y : ℕ) → x / 2 < y / 2 → in_question w m x / 2 < in_question w m y / 2 =
        λ x y l. omega (arith, posed_half w m x, posed_half w m y, placed_above w m (x / 2) (y / 2) l) in
        and_rises (in_question w m own) (in_question w m (left_of f g)) (in_question w m (right_of f g)) (omega arith)
        (above (right_of f g) (left_of f g) (gates.order g h))
        (above (left_of f g) own (omega (arith, named_low s g (left_of f g / 2) (gates.lefts g h))))

    pub path_rises : (r k : ℕ) → AllByRecursion Rising (path_clauses s f n r k)
    path_rises r k =
        path_whole Rising s f n r k
        (record { frame = frame_rises 0; link = link_rises 0; formulas = gates_rise (k + 2); begin = one_rises (in_question w (k + 2) r) })
        (record { frames = λ t _ _. frame_rises t; links = λ t _ _. link_rises t; end = end_rises k })

    pub state_rises : (x y : ℕ) → AllByRecursion Rising (state_clauses s f n x y)
    state_rises x y =
        state_whole Rising s f n x y (record { frame = frame_rises 0; formulas = gates_rise 1; first = one_rises (in_question w 1 x); second = one_rises y })
