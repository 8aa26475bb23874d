use Rattle.std.proofs.Common.{◌≡◌, true, length, sym, ap, ◌∙◌, arith}
use Rattle.std.proofs.lemmas.List.{length-take-le}
use Rattle.producer.specs.Procedure.{roomy}
use Rattle.producer.proofs.Ending.{refilled, values_fit, begun}
use Rattle.producer.proofs.split.attempt.Goals as goal

pub slice_bounds-fill-end : goal.slice_bounds-fill-end
slice_bounds-fill-end c =
    (values_fit c.args.question.now (length c.args.answer.now) _ c.variable_count-v.result c.requires.size c.variable_count-v.ensures.is_the_first_number
    (sym c.is_roomy.ensures ∙ c.if-not-is_roomy.false)).1

pub slice_bounds-fill-end-2 : goal.slice_bounds-fill-end-2
slice_bounds-fill-end-2 c =
    let fit = values_fit c.args.question.now (length c.args.answer.now) (length c.args.work.now) c.variable_count-v.result c.requires.size c.variable_count-v.ensures.is_the_first_number
    (sym c.is_roomy.ensures ∙ c.if-not-is_roomy.false) in
    sym (length-take-le c.variable_count-v.result c.args.work.now fit.1)

pub run-requires : goal.run-requires
run-requires c =
    let q = c.args.question.now in
    let n = length c.args.answer.now in
    let w = c.args.work.now in
    let v = c.variable_count-v.result in
    let room : roomy q n (length w) ≡ true = sym c.is_roomy.ensures ∙ c.if-not-is_roomy.false in
    let fit = values_fit q n (length w) v c.requires.size c.variable_count-v.ensures.is_the_first_number room in
    let k = refilled w c.fill.new.self v fit.1 (c.fill.ensures.after (λ y e. e)) in
    record {
      all = fit.0;
      room = ap (roomy q n) k.0 ∙ room;
      space = omega (arith, c.requires.space, k.0);
      size = c.requires.size;
      blank = c.requires.blank;
      unset = k.1;
    }

pub returns : goal.returns
returns c =
    let q = c.args.question.now in
    let n = length c.args.answer.now in
    let m = length c.args.work.now in
    let room = sym c.is_roomy.ensures ∙ c.if-not-is_roomy.false in
    let fit = values_fit q n m c.variable_count-v.result c.requires.size c.variable_count-v.ensures.is_the_first_number room in
    let k = begun q n m c.run.result c.run.new.answer c.variable_count-v.result fit.0 room c.run.ensures.replies c.run.ensures.answers in
    record { replies = k.0; answers = k.1 }
