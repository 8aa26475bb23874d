-- The clauses of the three questions, as lists. Assumes nothing.
use Rattle.std.specs.Prelude.{ℕ, ◌+◌, ◌*◌, List, [], ◌∷◌, ◌++◌}
use Rattle.lists.specs.Stretch.{stretch}
use Rattle.sheet.specs.Sheets.{Sheet}
use Rattle.formula.specs.Formulas.{width, left_of, right_of}
use Rattle.formula.specs.Conjunction.{opposite}
use Rattle.formula.specs.Framing.{in_frame, in_question}

-- a gate with the plain literal x is the AND of p and q; literals ascend, q's node being below p's and that below x's
abbrev pub and_clauses : ℕ → ℕ → ℕ → List (List ℕ)
and_clauses x p q = (p ∷ (x + 1) ∷ []) ∷ (q ∷ (x + 1) ∷ []) ∷ (opposite q ∷ opposite p ∷ x ∷ []) ∷ []

-- the plain literals of gate g and of latch i of a sheet
abbrev pub gate_literal : Sheet → ℕ → ℕ
gate_literal s g = 2 * (1 + s.inputs + s.latches + g)

abbrev pub latch_literal : Sheet → ℕ → ℕ
latch_literal s i = 2 * (1 + s.inputs + i)

-- frame t: node 0 is false, and each gate is an AND
abbrev pub gate_clauses : Sheet → ℕ → ℕ → List (List ℕ)
gate_clauses s t g =
    and_clauses (in_frame (width s) t (gate_literal s g)) (in_frame (width s) t (s.left g)) (in_frame (width s) t (s.right g))

abbrev pub frame_clauses : Sheet → ℕ → List (List ℕ)
frame_clauses s t = (in_frame (width s) t 1 ∷ []) ∷ stretch (gate_clauses s t) 0 s.gates

-- link t: each latch has in frame t + 1 the value of its `next` in frame t
abbrev pub latch_clauses : Sheet → ℕ → ℕ → List (List ℕ)
latch_clauses s t i =
    (in_frame (width s) t (s.next i) ∷ in_frame (width s) (t + 1) (latch_literal s i + 1) ∷ [])
    ∷ (in_frame (width s) t (opposite (s.next i)) ∷ in_frame (width s) (t + 1) (latch_literal s i) ∷ [])
    ∷ []

abbrev pub link_clauses : Sheet → ℕ → List (List ℕ)
link_clauses s t = stretch (latch_clauses s t) 0 s.latches

-- formula gates, where there are m frames
abbrev pub formula_gate : Sheet → ℕ → List ℕ → ℕ → List (List ℕ)
formula_gate s m f g =
    and_clauses (in_question (width s) m (2 * (width s + g))) (in_question (width s) m (left_of f g)) (in_question (width s) m (right_of f g))

abbrev pub formula_clauses : Sheet → ℕ → List ℕ → ℕ → List (List ℕ)
formula_clauses s m f n = stretch (formula_gate s m f) 0 n

-- one clause of a single formula literal
abbrev pub unit : Sheet → ℕ → ℕ → List (List ℕ)
unit s m x = (in_question (width s) m x ∷ []) ∷ []

-- the end of the path question: `bad` in one of the frames 1 to k + 1
abbrev pub bad_clauses : Sheet → ℕ → List (List ℕ)
bad_clauses s k = stretch (λ t. in_frame (width s) t s.bad ∷ []) 1 (k + 1) ∷ []

-- a frame and formulas, where a formula literal x and a literal y of the question have to be true
abbrev pub state_clauses : Sheet → List ℕ → ℕ → ℕ → ℕ → List (List ℕ)
state_clauses s f n x y = frame_clauses s 0 ++ (formula_clauses s 1 f n ++ (unit s 1 x ++ ((y ∷ []) ∷ [])))

-- is a state in r bad?
abbrev pub start_clauses : Sheet → List ℕ → ℕ → ℕ → List (List ℕ)
start_clauses s f n r = frame_clauses s 0 ++ (formula_clauses s 1 f n ++ (unit s 1 r ++ ((in_frame (width s) 0 s.bad ∷ []) ∷ [])))

-- is a bad state reached from a state in r in 1 to k + 1 steps?
abbrev pub first_clauses : Sheet → List ℕ → ℕ → ℕ → ℕ → List (List ℕ)
first_clauses s f n r k = frame_clauses s 0 ++ (link_clauses s 0 ++ (formula_clauses s (k + 2) f n ++ unit s (k + 2) r))

abbrev pub second_clauses : Sheet → ℕ → List (List ℕ)
second_clauses s k = stretch (frame_clauses s) 1 (k + 1) ++ (stretch (link_clauses s) 1 k ++ bad_clauses s k)

abbrev pub path_clauses : Sheet → List ℕ → ℕ → ℕ → ℕ → List (List ℕ)
path_clauses s f n r k = first_clauses s f n r k ++ second_clauses s k

-- is a state in p outside r?
abbrev pub inclusion_clauses : Sheet → List ℕ → ℕ → ℕ → ℕ → List (List ℕ)
inclusion_clauses s f n p r = frame_clauses s 0 ++ (formula_clauses s 1 f n ++ (unit s 1 p ++ unit s 1 (opposite r)))
