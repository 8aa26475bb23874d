-- The example. Assumes nothing.
use Rattle.std.proofs.Common.{◌+◌, ◌*◌, [], length, replicate, refl, inl, inr, arith}
use Rattle.sheet.specs.Sheets.{Sheet, Legal, sheet_of}
use Rattle.sheet.proofs.Legality.{well_formed_legal}
use Rattle.formula.specs.Formulas.{width, Formula, Gates}
use Rattle.question.specs.Clauses.{first_clauses, path_clauses}
use Rattle.question.proofs.Propriety.{path_proper}
use Rattle.question.proofs.Reading.{encode_lays, encode_question}
use Rattle.question.specs.Questions.{IsQuestion}
use Rattle.answer.proofs.Verdicts.{accepted_refutes}
use Rattle.interpolant.specs.Example.{sheet_list, question_list, refutation_list, Example}
use Rattle.interpolant.specs.Meaning.{IsPath}

abbrev s : Sheet
s = sheet_of sheet_list

legal : Legal sheet_list
legal = well_formed_legal sheet_list refl

gates : Gates s [] 0
gates = record { lefts = λ g h. absurd (omega arith); rights = λ g h. absurd (omega arith); order = λ g h. absurd (omega arith) }

formula : Formula s 0 3
formula = inr (inl (omega arith, omega arith))

path : IsPath question_list s [] 0 3 0
path = encode_lays ((0 + 2) * width s + 0) (length (first_clauses s [] 0 3 0)) (path_clauses s [] 0 3 0)

is_question : IsQuestion question_list
is_question =
    encode_question ((0 + 2) * width s + 0) (length (first_clauses s [] 0 3 0)) (path_clauses s [] 0 3 0) (omega arith)
    (path_proper sheet_list [] 0 3 0 legal gates formula)

pub example : Example
example =
    record {
      legal = legal;
      gates = gates;
      formula = formula;
      path = path;
      is_question = is_question;
      refutes = accepted_refutes question_list refutation_list (replicate 4 0) refl is_question;
      drawn = refl;
    }
