use Rattle.std.proofs.Common.{ℕ, ◌+◌, ◌-◌, set, sym, ap, ◌∙◌}
use Rattle.formula.specs.Conjunction.{grown, short}
use Rattle.interpolant.specs.Drawing.{draw_lines}
use Rattle.interpolant.specs.Parting.{cut_by}
use Rattle.interpolant.proofs.Going.{stays_trans, lines_more, lines_end}
use Rattle.interpolant.proofs.lines.Drawing.lines.Goals as goal

pub returns-in_err-drawn : goal.returns-in_err-drawn
returns-in_err-drawn c =
    let told = c.in_err-drawn.ensures in
    let is = lines_more c.args.self.now.parts.width (cut_by c.args.self.now.parts) c.args.self.now.question.now c.args.self.now.refutation.now c.args.lines c.loop-line.line c.loop-line.values c.loop-line.count c.loop-line.formula c.loop-line-test.true short told.gives in
    rw c.from_residual.ensures
    (record {
      gives = sym c.loop-line.invariant.0 ∙ is;
      keeps = stays_trans c.args.formula.now c.loop-line.formula c.line.new.formula c.loop-line.invariant.1 told.keeps;
    })

pub loop-line-preserved : goal.loop-line-preserved
loop-line-preserved c =
    let w = c.args.self.now.parts.width in
    let u = cut_by c.args.self.now.parts in
    let q = c.args.self.now.question.now in
    let t = c.args.self.now.refutation.now in
    let m = c.args.lines in
    let k = c.loop-line.line in
    let vs = c.loop-line.values in
    let d = c.in_ok-drawn.drawn in
    let f = c.line.new.formula in
    let told = c.in_ok-drawn.ensures in
    let is = lines_more w u q t m k vs c.loop-line.count c.loop-line.formula c.loop-line-test.true (grown d.literal.0 d.gates f) told.gives in
    let number = ap (λ (x : ℕ). draw_lines w u q t (m - (k + 1)) (k + 1) (set vs k x) d.gates f) c.number.ensures in
    (number ∙ sym is ∙ c.loop-line.invariant.0, stays_trans c.args.formula.now c.loop-line.formula f c.loop-line.invariant.1 told.keeps)

pub returns : goal.returns
returns c =
    let end = lines_end c.args.self.now.parts.width (cut_by c.args.self.now.parts) c.args.self.now.question.now c.args.self.now.refutation.now c.args.lines c.loop-line.line c.loop-line.values c.loop-line.count c.loop-line.formula c.loop-line-test.false in
    record { gives = sym c.loop-line.invariant.0 ∙ end; keeps = c.loop-line.invariant.1 }
