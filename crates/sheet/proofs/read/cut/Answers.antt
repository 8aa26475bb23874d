use Rattle.std.proofs.Common.{◌<◌, length, sym, ◌∙◌, rules}
use Rattle.sheet.proofs.ReadParts.{shape_at}
use Rattle.sheet.proofs.read.cut.Goals as goal

pub returns-in-c : goal.returns-in-c
returns-in-c c =
    let h : 0 < length c.args.line.now = search rules in
    let s = shape_at c.args.line.now 99 h (sym c.from.ensures ∙ c.in-c.is) in
    cc

pub returns-in-l : goal.returns-in-l
returns-in-l c =
    let h : 0 < length c.args.line.now = search rules in
    let s = shape_at c.args.line.now 108 h (sym c.from.ensures ∙ c.in-l.is) in
    cc

pub returns-in-g : goal.returns-in-g
returns-in-g c =
    let h : 0 < length c.args.line.now = search rules in
    let s = shape_at c.args.line.now 103 h (sym c.from.ensures ∙ c.in-g.is) in
    cc

pub returns-in-b : goal.returns-in-b
returns-in-b c =
    let h : 0 < length c.args.line.now = search rules in
    let s = shape_at c.args.line.now 98 h (sym c.from.ensures ∙ c.in-b.is) in
    cc
