use Rattle.std.proofs.Common.{rules, ◌≡◌, ◌-◌, refl, sym, ap, ◌∙◌, arith}
use Rattle.std.proofs.lemmas.Iterator.{YieldsList-from_range}
use Rattle.std.proofs.lemmas.Iterator.Adapters.{option_map_id}
use Rattle.std.proofs.lemmas.Iterator.Search.{find_from_yields_List}
use Rattle.question.specs.Questions.{clause_of}
use Rattle.producer.specs.Procedure.{closes, lowest}
use Rattle.producer.proofs.Scans.{whole_counts, finds_lowest}
use Rattle.producer.proofs.reading.find_false.Goals as goal

pub returns : goal.returns
returns c =
    let q = c.args.question.now in
    let a = c.args.numbers.now in
    let d = c.args.depth in
    let n = c.clause_count.result in
    let same : n - 0 ≡ n = omega arith in
    sym (option_map_id c.find.result)
    ∙ find_from_yields_List (λ k. closes a d (clause_of q k)) _ _ c.find.result c.find.ensures.ran (YieldsList-from_range 0 n n refl same) (λ x b f k. search rules)
    ∙ finds_lowest q a d n 0
    ∙ ap (λ m. lowest q a d m 0) (c.clause_count.ensures.is_the_second_number ∙ (whole_counts q c.requires.size).1)
