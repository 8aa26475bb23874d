use Rattle.std.proofs.Common.{◌≡◌, ◌+◌, ◌*◌, ◌<◌, length, get_or, set, Some, sym, ap, ◌∙◌, subst, arith}
use Rattle.std.proofs.lemmas.List.{get_or-set_same, get_or-set_other}
use Rattle.std.specs.declared.ops.ControlFlow.TheVariants.{Continue}
use Rattle.producer.specs.Machine.{Moved}
use Rattle.producer.specs.Procedure.{put}
use Rattle.producer.proofs.Stacks.{rows_fit, row_low}
use Rattle.producer.proofs.Scans.{whole_counts}
use Rattle.producer.proofs.Telling.{fits_true}
use Rattle.producer.proofs.Moving.{move_lacks, move_retry, move_long, move_step}
use Rattle.producer.proofs.split.ascend.Goals as goal

pub returns-then-work-marks-eq0 : goal.returns-then-work-marks-eq0
returns-then-work-marks-eq0 c = λ all some st.
    let w = c.args.work.now in
    let v = c.args.v in
    let s = c.args.at in
    let d = c.in-Some.d in
    let next : d + 1 ≡ s.depth = omega (arith, c.in-Some.ensures) in
    let fit = rows_fit v in
    let low = row_low v v in
    let long : d < length w = omega (arith, c.requires.room, c.requires.under, next) in
    let under : d < v = omega (arith, c.requires.under, next) in
    subst (λ o. Moved c.args.question.now (length c.args.answer.now) v w (set w d 2) c.args.answer.now s all (Continue (record { depth = d; steps = s.steps; line = o }))) (sym some)
    (move_lacks c.args.question.now (length c.args.answer.now) v w c.args.answer.now s all c.args.line some c.requires.under c.requires.short st d next
    (set w d 2)
    (record {
      value_is = get_or-set_same w d 2 0 long;
      others = λ i l ne. get_or-set_other w d i 2 0 ne;
    })
    (λ i l. get_or-set_other w d ((v + 2) * v + i) 2 0 (λ (e : (v + 2) * v + i ≡ d). omega arith))
    (subst (λ r. get_or w (r + d) 0 ≡ 0) c.row-marks.ensures c.if-work-marks-eq0.true))

pub returns-then-work-d-eq0 : goal.returns-then-work-d-eq0
returns-then-work-d-eq0 c = λ all some st.
    let w = c.args.work.now in
    let s = c.args.at in
    let d = c.in-Some.d in
    let next : d + 1 ≡ s.depth = omega (arith, c.in-Some.ensures) in
    move_retry c.args.question.now (length c.args.answer.now) c.args.v w c.args.answer.now s all c.args.line some c.requires.under c.requires.short st d next
    (subst (λ r. get_or w (r + d) 0 ≡ 0 → ⊥) c.row-marks.ensures c.if-work-marks-eq0.false)
    c.if-work-d-eq0.true c.push.new.work c.push.ensures

pub returns-then-not-has_room : goal.returns-then-not-has_room
returns-then-not-has_room c = λ all some st.
    let w = c.args.work.now in
    let s = c.args.at in
    let d = c.in-Some.d in
    let next : d + 1 ≡ s.depth = omega (arith, c.in-Some.ensures) in
    move_long c.args.question.now (length c.args.answer.now) c.args.v w c.args.answer.now s all c.args.line some c.requires.under c.requires.short st d next
    (subst (λ r. get_or w (r + d) 0 ≡ 0 → ⊥) c.row-marks.ensures c.if-work-marks-eq0.false)
    c.if-work-d-eq0.false (sym c.has_room.ensures ∙ c.if-not-has_room.true)

pub returns : goal.returns
returns c = λ all some st.
    let q = c.args.question.now in
    let n = length c.args.answer.now in
    let w = c.args.work.now in
    let s = c.args.at in
    let d = c.in-Some.d in
    let next : d + 1 ≡ s.depth = omega (arith, c.in-Some.ensures) in
    let f = sym c.has_room.ensures ∙ c.if-not-has_room.false in
    subst (λ u. Moved q n c.args.v w c.pop-first.new.work c.put_step.new.answer s all (Continue (record { depth = d; steps = s.steps + 1; line = Some (u + s.steps) }))) (sym (c.clause_count.ensures.is_the_second_number ∙ (whole_counts q c.requires.size).1))
    (move_step q n c.args.v w c.args.answer.now s all c.args.line some c.requires.under c.requires.short st d next
    (subst (λ r. get_or w (r + d) 0 ≡ 0 → ⊥) c.row-marks.ensures c.if-work-marks-eq0.false)
    c.if-work-d-eq0.false f c.pop-first.new.work c.pop-first.ensures.unset c.pop-first.ensures.joined c.put_step.new.answer
    (c.put_step.ensures ∙ ap (λ u. put c.args.answer.now s.steps (record { first = u; second = c.args.line; pivot = d })) c.pop-first.ensures.line)
    (fits_true n s.steps f).0)

pub overflow_add-result-2 : goal.overflow_add-result-2
overflow_add-result-2 c = omega (arith, (whole_counts c.args.question.now c.requires.size).1)
