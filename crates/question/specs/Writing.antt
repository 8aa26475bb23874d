-- What is written into a list of clauses. Assumes nothing.
use Rattle.std.specs.Prelude.{◌≡◌, ℕ, ◌+◌, ◌*◌, ◌^◌, ◌<◌, ◌≤◌, List, [], ◌∷◌, ◌++◌, length, replicate, slice_set}
use Rattle.sheet.specs.Sheets.{Sheet}
use Rattle.formula.specs.Formulas.{width, left_of, right_of}
use Rattle.formula.specs.Framing.{in_question}
use Rattle.formula.specs.declared.question_literal.QuestionLiteral.{QuestionLiteral}
use Rattle.question.specs.Clauses.{frame_clauses, link_clauses, formula_clauses, second_clauses}
use Rattle.question.specs.Layout.{encode}
use Rattle.question.specs.declared.page.Page.{Page}

-- where the place of the next clause goes, and where the next literal
pub record Pen : Type 0 where
  pub at : ℕ
  pub to : ℕ

abbrev pub pen : ℕ → ℕ → Pen
pen a t = record { at = a; to = t }

-- what a page holds, and where its pen stands
abbrev pub held : Page → List ℕ × Pen
held x = (x.question.now, pen x.at x.to)

abbrev pub number : QuestionLiteral → ℕ
number x = x.0

-- n places with the counts in front, and a pen before the first of c clauses
abbrev pub begun : ℕ → ℕ → ℕ → ℕ → List ℕ × Pen
begun n v c a = (slice_set (slice_set (slice_set (replicate n 0) 0 v) 1 c) 2 a, pen 3 (4 + c))

-- the next clause starts
abbrev pub opened : List ℕ × Pen → List ℕ × Pen
opened p = (slice_set p.0 p.1.at p.1.to, pen (p.1.at + 1) p.1.to)

-- one literal more
abbrev pub pushed : List ℕ × Pen → ℕ → List ℕ × Pen
pushed p x = (slice_set p.0 p.1.to x, pen p.1.at (p.1.to + 1))

abbrev pub pushes : List ℕ × Pen → List ℕ → List ℕ × Pen
pushes p [] = p
pushes p (x ∷ xs) = pushes (pushed p x) xs

-- a clause, and clauses
abbrev pub put : List ℕ × Pen → List ℕ → List ℕ × Pen
put p c = pushes (opened p) c

abbrev pub puts : List ℕ × Pen → List (List ℕ) → List ℕ × Pen
puts p [] = p
puts p (c ∷ cs) = puts (put p c) cs

-- after the last clause: how long the question is, and the list
abbrev pub closed : List ℕ × Pen → ℕ × List ℕ
closed p = (p.1.to, slice_set p.0 p.1.at p.1.to)

-- there is room for n clauses of m literals in all
abbrev pub Room : Page → ℕ → ℕ → Type 0
Room x n m = (x.at + n ≤ x.to) × (x.to + m ≤ length x.question.now) × (x.to + m < 2 ^ 32)

-- y is the page x, with n clauses of m literals in all behind what it held
pub record Moved (x y : Page) (n m : ℕ) : Type 0 where
  pub at : y.at ≡ x.at + n
  pub to : y.to ≡ x.to + m
  pub size : length y.question.now ≡ length x.question.now
  pub same_list : y.question.ghost_name ≡ x.question.ghost_name

-- each operand of the first n gates of a formula list has 32 bits in a question of m frames
abbrev pub OperandsFit : ℕ → ℕ → List ℕ → ℕ → Type 0
OperandsFit w m f n = (g : ℕ) → g < n → (in_question w m (left_of f g) < 2 ^ 32) × (in_question w m (right_of f g) < 2 ^ 32)

-- the clauses of a question of one frame, where literals x and y of the question have to be true
abbrev pub both_clauses : Sheet → List ℕ → ℕ → ℕ → ℕ → List (List ℕ)
both_clauses s f n x y = frame_clauses s 0 ++ (formula_clauses s 1 f n ++ ((x ∷ []) ∷ (y ∷ []) ∷ []))

-- the first part of a path question, where a literal x of the question has to be true, and the whole question
abbrev pub begin_clauses : Sheet → List ℕ → ℕ → ℕ → ℕ → List (List ℕ)
begin_clauses s f n x k = frame_clauses s 0 ++ (link_clauses s 0 ++ (formula_clauses s (k + 2) f n ++ ((x ∷ []) ∷ [])))

abbrev pub begun_list : Sheet → List ℕ → ℕ → ℕ → ℕ → List ℕ
begun_list s f n x k =
    encode ((k + 2) * width s + n) (length (begin_clauses s f n x k)) (begin_clauses s f n x k ++ second_clauses s k)
