-- A refutation of a path question, for which all that is supposed of drawing is so. Assumes nothing.
use Rattle.std.specs.Prelude.{◌≡◌, ℕ, List, [], ◌∷◌, replicate, Ok}
use Rattle.sheet.specs.Sheets.{Legal, sheet_of}
use Rattle.formula.specs.Built.{literal}
use Rattle.formula.specs.Formulas.{Formula, Gates}
use Rattle.question.specs.Questions.{IsQuestion}
use Rattle.answer.specs.Derivations.{Refutes}
use Rattle.interpolant.specs.Drawing.{Found, interpolation}
use Rattle.interpolant.specs.Meaning.{IsPath}

-- one latch, which starts at 0 and is 0 ever after; a state is bad where it is 1
abbrev pub sheet_list : List ℕ
sheet_list = 0 ∷ 1 ∷ 0 ∷ 2 ∷ 0 ∷ 0 ∷ []

-- its path question at bound 0, from the states where the latch is 0: literal 3
abbrev pub question_list : List ℕ
question_list = 4 ∷ 6 ∷ 4 ∷ 10 ∷ 11 ∷ 13 ∷ 15 ∷ 16 ∷ 17 ∷ 18 ∷ 1 ∷ 0 ∷ 7 ∷ 1 ∷ 6 ∷ 3 ∷ 5 ∷ 6 ∷ []

abbrev pub refutation_list : List ℕ
refutation_list = 2 ∷ 5 ∷ 1 ∷ 3 ∷ 6 ∷ 0 ∷ 0 ∷ []

-- the values of its eight lines, the last of which is the interpolant: the latch is 0
abbrev pub line_values : List ℕ
line_values = 0 ∷ 3 ∷ 2 ∷ 0 ∷ 1 ∷ 1 ∷ 3 ∷ 3 ∷ []

pub record Example : Type 0 where
  pub legal : Legal sheet_list
  pub gates : Gates (sheet_of sheet_list) [] 0
  pub formula : Formula (sheet_of sheet_list) 0 3
  pub path : IsPath question_list (sheet_of sheet_list) [] 0 3 0
  pub is_question : IsQuestion question_list
  pub refutes : Refutes question_list refutation_list 4
  pub drawn :
      ◌≡◌ {A = Found} (interpolation sheet_list question_list refutation_list [] 0 (replicate 8 0))
      (Ok (record { literal = literal 3; gates = 0 }), [], line_values)
