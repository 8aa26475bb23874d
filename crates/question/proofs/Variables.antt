-- Which variables stand in the clauses of a question. Assumes nothing.
use Rattle.std.proofs.Common.{◌≡◌, ℕ, ◌+◌, ◌-◌, ◌*◌, ◌/◌, ◌%◌, ◌<◌, ◌≤◌, List, [], ◌∷◌, sym, ◌∙◌, subst, inr, ⊎_elim, zero-mul, arith}
use Rattle.std.specs.List.{AllByRecursion}
use Rattle.lists.specs.Stretch.{stretch}
use Rattle.sheet.specs.Sheets.{Sheet, Legal, sheet_of}
use Rattle.machine.specs.Values.{gate_at}
use Rattle.machine.proofs.Values.{Ascends, legal_ascends}
use Rattle.formula.specs.Conjunction.{opposite}
use Rattle.formula.specs.Formulas.{width, left_of, right_of, Named, Formula, Gates}
use Rattle.formula.specs.Framing.{in_frame, in_question}
use Rattle.question.specs.Clauses.{and_clauses, gate_literal, latch_literal, state_clauses, first_clauses, second_clauses}
use Rattle.question.specs.Questions.{Mem}
use Rattle.question.proofs.Formulae.{named_more}
use Rattle.question.proofs.Literals.{row_less, opposite_half, framed_half, placed, placed_low, placed_high, posed_half, posed_sign}
use Rattle.question.proofs.Parts.{stretch_all, FrameParts, LinkParts, FormulaParts, state_whole, first_whole, second_whole}

-- what a legal sheet is: literals are of nodes, and gates are above their operands
pub record Lawful (s : Sheet) : Type 0 where
  pub ascends : Ascends s
  pub nexts : (i : ℕ) → i < s.latches → s.next i / 2 < width s
  pub bads : s.bad / 2 < width s

pub legal_lawful : (l : List ℕ) → Legal l → Lawful (sheet_of l)
legal_lawful l legal =
    record { ascends = legal_ascends l legal; nexts = λ i h. omega (arith, legal.next_literals i h); bads = omega (arith, legal.bad_literal) }

-- every variable of a clause is such a one
abbrev pub Over : (ℕ → Type 0) → List ℕ → Type 0
Over Q c = AllByRecursion (λ x. Q (x / 2)) c

pub over_mem : (Q : ℕ → Type 0) (c : List ℕ) → Over Q c → (x : ℕ) → Mem x c → Q (x / 2)
over_mem Q [] h x m = absurd m
over_mem Q (y ∷ ys) h x m =
    ⊎_elim (λ (e : x ≡ y). subst (λ (z : ℕ). Q (z / 2)) (sym e) h.0) (λ (r : Mem x ys). over_mem Q ys h.1 x r) m

module _ (Q : ℕ → Type 0) where
  and_over : (x p q : ℕ) → x / 2 ≡ (x + 1) / 2 → Q (x / 2) → Q (p / 2) → Q (q / 2) → AllByRecursion (Over Q) (and_clauses x p q)
  and_over x p q same a b c =
      let own : Q ((x + 1) / 2) = subst Q same a in
      let not_q : Q (opposite q / 2) = subst Q (sym (opposite_half q)) c in
      let not_p : Q (opposite p / 2) = subst Q (sym (opposite_half p)) b in
      ((b, (own, tt)), ((c, (own, tt)), ((not_q, (not_p, (a, tt))), tt)))

  framed_over : (w t x : ℕ) → Q (t * w + x / 2) → Q (in_frame w t x / 2)
  framed_over w t x h = subst Q (sym (framed_half w t x)) h

  module _ (s : Sheet) (lawful : Lawful s) where
    abbrev w : ℕ
    w = width s

    -- the nodes of frame t
    abbrev pub NodesOf : ℕ → Type 0
    NodesOf t = (j : ℕ) → j < w → Q (t * w + j)

    -- the latches of frame t
    abbrev pub LatchesOf : ℕ → Type 0
    LatchesOf t = (i : ℕ) → i < s.latches → Q (t * w + (1 + s.inputs + i))

    pub frame_over : (t : ℕ) → NodesOf t → FrameParts (Over Q) s t
    frame_over t each =
        record {
          constant = (framed_over w t 1 (each 0 (omega arith)), tt);
          gates = λ g h.
              let a : s.left g / 2 < gate_at s g = lawful.ascends.lefts g h in
              let b : s.right g / 2 < s.left g / 2 = lawful.ascends.rights g h in
              let half : gate_literal s g / 2 ≡ gate_at s g = omega arith in
              let same : in_frame w t (gate_literal s g) / 2 ≡ (in_frame w t (gate_literal s g) + 1) / 2 = omega arith in
              and_over (in_frame w t (gate_literal s g)) (in_frame w t (s.left g)) (in_frame w t (s.right g)) same
              (framed_over w t (gate_literal s g) (each (gate_literal s g / 2) (omega arith)))
              (framed_over w t (s.left g) (each (s.left g / 2) (omega arith)))
              (framed_over w t (s.right g) (each (s.right g / 2) (omega arith)));
        }

    pub link_over : (t : ℕ) → NodesOf t → LatchesOf (t + 1) → LinkParts (Over Q) s t
    link_over t each latches i h =
        let a : s.next i / 2 < w = lawful.nexts i h in
        let plain : latch_literal s i / 2 ≡ 1 + s.inputs + i = omega arith in
        let negated : (latch_literal s i + 1) / 2 ≡ 1 + s.inputs + i = omega arith in
        let own = latches i h in
        let next = framed_over w t (s.next i) (each (s.next i / 2) a) in
        let other = framed_over w t (opposite (s.next i)) (each (opposite (s.next i) / 2) (omega (arith, opposite_half (s.next i)))) in
        let row : ℕ = (t + 1) * w in (
          (next, (framed_over w (t + 1) (latch_literal s i + 1) (subst (λ (j : ℕ). Q (row + j)) (sym negated) own), tt)),
          ((other, (framed_over w (t + 1) (latch_literal s i) (subst (λ (j : ℕ). Q (row + j)) (sym plain) own), tt)), tt),
        )

    pub end_over : (k : ℕ) → ((t : ℕ) → 1 ≤ t → t ≤ k + 1 → NodesOf t) → Over Q (stretch (λ t. in_frame w t s.bad ∷ []) 1 (k + 1))
    end_over k each =
        stretch_all (λ x. Q (x / 2)) (λ t. in_frame w t s.bad ∷ []) (k + 1) 1 (λ t a b.
        (framed_over w t s.bad (each t a (omega arith) (s.bad / 2) lawful.bads), tt))

    -- the nodes that n formula gates may name, where there are m frames
    pub record FormulaNodes (m n : ℕ) : Type 0 where
      pub latches : (i : ℕ) → i < s.latches → Q (1 + s.inputs + i)
      pub gates : (g : ℕ) → g < n → Q (m * w + g)

    named_over : (m n : ℕ) → 1 ≤ m → FormulaNodes m n → (j : ℕ) → Named s n j → Q (placed w m j)
    named_over m n some each j =
        ⊎_elim
        (λ (a : (s.inputs < j) × (j ≤ s.inputs + s.latches)).
        let is : 1 + s.inputs + (j - 1 - s.inputs) ≡ placed w m j = omega (arith, placed_low w m j (omega arith)) in
        subst Q is (each.latches (j - 1 - s.inputs) (omega arith)))
        (λ (a : (w ≤ j) × (j < w + n)).
        let is : m * w + (j - w) ≡ placed w m j = omega (arith, placed_high w m j a.0, row_less m w some) in
        subst Q is (each.gates (j - w) (omega arith)))

    pub posed_over : (m n : ℕ) → 1 ≤ m → FormulaNodes m n → (x : ℕ) → Named s n (x / 2) → Q (in_question w m x / 2)
    posed_over m n some each x h = subst Q (sym (posed_half w m x)) (named_over m n some each (x / 2) h)

    pub formula_over : (m n x : ℕ) → 1 ≤ m → Q 0 → FormulaNodes m n → Formula s n x → Q (in_question w m x / 2)
    formula_over m n x some zero each =
        ⊎_elim
        (λ (z : x / 2 ≡ 0). subst Q (sym (posed_half w m x ∙ placed_low w m (x / 2) (omega arith) ∙ z)) zero)
        (posed_over m n some each x)

    pub gates_over : (m n : ℕ) (f : List ℕ) → 1 ≤ m → Gates s f n → FormulaNodes m n → FormulaParts (Over Q) s m f n
    gates_over m n f some gates each g h =
        let x : ℕ = in_question w m (2 * (w + g)) in
        let half : 2 * (w + g) / 2 ≡ w + g = omega arith in
        let same : x / 2 ≡ (x + 1) / 2 = let even : x % 2 ≡ 2 * (w + g) % 2 = posed_sign w m (2 * (w + g)) in omega arith in
        and_over x (in_question w m (left_of f g)) (in_question w m (right_of f g)) same
        (posed_over m n some each (2 * (w + g)) (inr (omega arith, omega arith)))
        (posed_over m n some each (left_of f g) (named_more s g n (left_of f g / 2) (omega arith) (gates.lefts g h)))
        (posed_over m n some each (right_of f g) (named_more s g n (right_of f g / 2) (omega arith) (gates.rights g h)))

    -- ---- whole questions
    module _ (f : List ℕ) (n : ℕ) (gates : Gates s f n) where
      pub first_over : (r k : ℕ) → Formula s n r → NodesOf 0 → LatchesOf 1 → FormulaNodes (k + 2) n → AllByRecursion (Over Q) (first_clauses s f n r k)
      first_over r k formula nodes latches named =
          let zero : Q 0 = subst Q (omega (arith, zero-mul w)) (nodes 0 (omega arith)) in
          first_whole (Over Q) s f n r k
          (record {
            frame = frame_over 0 nodes;
            link = link_over 0 nodes latches;
            formulas = gates_over (k + 2) n f (omega arith) gates named;
            begin = (formula_over (k + 2) n r (omega arith) zero named formula, tt);
          })

      pub second_over : (k : ℕ) → ((t : ℕ) → 1 ≤ t → t ≤ k + 1 → NodesOf t) → AllByRecursion (Over Q) (second_clauses s k)
      second_over k nodes =
          second_whole (Over Q) s k
          (record {
            frames = λ t a b. frame_over t (nodes t a b);
            links = λ t a b. link_over t (nodes t a (omega arith)) (λ i h. nodes (t + 1) (omega arith) (omega arith) (1 + s.inputs + i) (omega arith));
            end = end_over k nodes;
          })

      pub state_over : (x y : ℕ) → NodesOf 0 → FormulaNodes 1 n → Q (in_question w 1 x / 2) → Q (y / 2) → AllByRecursion (Over Q) (state_clauses s f n x y)
      state_over x y nodes named a b =
          state_whole (Over Q) s f n x y
          (record { frame = frame_over 0 nodes; formulas = gates_over 1 n f (omega arith) gates named; first = (a, tt); second = (b, tt) })
