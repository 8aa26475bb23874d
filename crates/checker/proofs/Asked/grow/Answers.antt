use Rattle.checker.specs.Lent.{held}
use Rattle.checker.specs.Turns.{told}
use Rattle.checker.proofs.Turning.{grown_by_lem, ungrown_by}
use Rattle.checker.proofs.Asked.grow.Goals as goal

pub returns-clause-asks : goal.returns-clause-asks
returns-clause-asks c =
    grown_by_lem c.args.sheet.now c.args.self.now c.args.lists.now.formula.now c.args.lists.now.values.now c.args.lists.now.question.now c.args.drawn
    c.width.result c.width.ensures c.or.new.self c.or.new.list c.in-Some.literal c.in-Some.ensures.disjoins
    (told c.ask_path.result c.ask_path.new.self (held c.ask_path.new.lists)) c.ask_path.ensures.asks

pub returns-in_default-clause-asks : goal.returns-in_default-clause-asks
returns-in_default-clause-asks c =
    ungrown_by c.args.sheet.now c.args.self.now c.args.lists.now.formula.now c.args.lists.now.values.now c.args.lists.now.question.now c.args.drawn
    c.width.result c.width.ensures c.or.new.self c.or.new.list c.in_default.ensures.disjoins
