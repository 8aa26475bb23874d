use Rattle.std.proofs.Common.{rules, ◌+◌, ◌*◌, ◌++◌, length, sym, ◌∙◌, arith}
use Rattle.sheet.specs.Sheets.{Sheet, sheet_of}
use Rattle.formula.specs.Formulas.{width}
use Rattle.question.specs.Clauses.{second_clauses}
use Rattle.question.specs.Writing.{held, begin_clauses}
use Rattle.question.proofs.Counts.{begin_length, begun_length, begun_literals}
use Rattle.question.proofs.Laying.{written_is}
use Rattle.question.proofs.Turns.{two_parts}
use Rattle.question.proofs.path.write_path.Goals as goal

pub returns : goal.returns
returns c =
    let s : Sheet = sheet_of c.args.formulas.sheet.numbers.now in
    let f = c.args.formulas.gates.list.now in
    let n = c.args.formulas.gates.count in
    let r = c.args.r.0 in
    let k = c.args.k in
    let first = c.first_size-first.ensures.clauses in
    let clauses = (λ i. first i + c.second_size.ensures.clauses i) ∙ sym (begun_length s k f n r) in
    let page = two_parts (begin_clauses s f n r k) (second_clauses s k) (held c.begin-page.result) _ _ c.put_first.ensures.page c.put_second.ensures.page in
    let whole = written_is ((k + 2) * width s + n) (length (begin_clauses s f n r k)) (begin_clauses s f n r k ++ second_clauses s k) (length c.args.question.now) _ _ _ (λ i. c.requires.frames i * c.width.ensures i + n) clauses (first ∙ sym (begin_length s f n r k))
    (omega (arith, begun_length s k f n r, begun_literals s k f n r)) _ _ c.begin-page.ensures.page page _ c.finish.ensures in
    search (rules, whole)
