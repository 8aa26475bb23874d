use Rattle.std.proofs.Common.{◌≡◌, true, false, rules, tests, ◌∙◌}
use Rattle.std.proofs.lemmas.Iterator.{first_from_Range}
use Rattle.sheet.specs.Sheets.{sheet_of}
use Rattle.checker.proofs.Tracing.{bad_at, first_found}
use Rattle.checker.proofs.runs.first_bad.Goals as goal

pub returns : goal.returns
returns c =
    let bad = bad_at (sheet_of c.args.sheet.numbers.now) c.args.assignment.now in
    c.unwrap_or.ensures
    ∙ first_found (sheet_of c.args.sheet.numbers.now) c.args.assignment.now c.args.last c.find.result
    (first_from_Range _ _ _ _ (λ i. bad i ≡ true) (λ i. bad i ≡ false) c.find.ensures.ran (λ x q k. search (rules, tests)) (λ x q k. search (rules, tests)))
