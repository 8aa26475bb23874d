use Rattle.std.proofs.Common.{Some, None, sym, ap, ◌∙◌}
use Rattle.interpolant.specs.Parting.{latch_in}
use Rattle.interpolant.proofs.Going.{stays_trans, or_keeps, or_end, or_skip, or_more, or_short}
use Rattle.interpolant.proofs.lines.draw_clause.Goals as goal
use Rattle.interpolant.proofs.lines.draw_clause.Goals.{in-Some+in_ok-literal, in_default}

pub returns-in_err-literal : goal.returns-in_err-literal
returns-in_err-literal c =
    let u = c.args.parts in
    let g = c.loop-x.builder in
    let f = c.loop-x.formula in
    let x = c.loop-x.literal in
    let y = c.in-Some.latch in
    let told = c.in_err-literal.ensures.disjoins in
    let latch = c.in-Some.ensures ∙ ap (latch_in u) c.from_number.ensures.has_the_number in
    let is = or_short u c.args.clause.now c.loop-x.x-index c.loop-x-test.true g f c.loop-x.invariant.0 x y latch c.or.new.self c.or.new.list told in
    rw c.from_residual.ensures
    (record {
      gives = sym c.loop-x.invariant.1 ∙ is;
      keeps = stays_trans c.args.formula.now f c.or.new.list c.loop-x.invariant.2 (or_keeps g f g.width g.count x.0 y.0 None c.or.new.self c.or.new.list told);
    })

pub loop-x-preserved : goal.loop-x-preserved
loop-x-preserved c =
    let u = c.args.parts in
    let g = c.loop-x.builder in
    let f = c.loop-x.formula in
    let x = c.loop-x.literal in
    let ys = c.args.clause.now in
    let i = c.loop-x.x-index in
    let number = ap (latch_in u) c.from_number.ensures.has_the_number in
    elim c.match-latch_in.branch [
      | in-Some+in_ok-literal w ↦
          let y = w.in-Some.latch in
          let told = w.in_ok-literal.ensures.disjoins in
          let more = or_more u ys i c.loop-x-test.true g f c.loop-x.invariant.0 x y (w.in-Some.ensures ∙ number) w.or.new.self w.or.new.list w.in_ok-literal.literal told in
          let kept = or_keeps g f g.width g.count x.0 y.0 (Some w.in_ok-literal.literal) w.or.new.self w.or.new.list told in
          rw (w.formula-is, w.builder-is, w.literal-is) (more.0, sym more.1 ∙ c.loop-x.invariant.1, stays_trans c.args.formula.now f w.or.new.list c.loop-x.invariant.2 kept)
      | in_default w ↦
          let skip = or_skip u ys i c.loop-x-test.true x.0 g.count f (w.in_default.ensures ∙ number) in
          rw (w.formula-is, w.builder-is, w.literal-is) (c.loop-x.invariant.0, sym skip ∙ c.loop-x.invariant.1, c.loop-x.invariant.2)
    ]

pub returns : goal.returns
returns c =
    let end = or_end c.args.parts c.args.clause.now c.loop-x.x-index c.loop-x.literal.0 c.loop-x.builder.count c.loop-x.formula c.loop-x-test.false in
    record { gives = sym c.loop-x.invariant.1 ∙ end; keeps = c.loop-x.invariant.2 }
