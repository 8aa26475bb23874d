use Rattle.std.proofs.Common.{◌^◌, sym}
use Rattle.sheet.specs.Sheets.{sheet_of}
use Rattle.formula.specs.Formulas.{width}
use Rattle.formula.specs.Framing.{in_question}
use Rattle.question.proofs.Fitting.{operands_tell}
use Rattle.question.proofs.gates.Formulas.new.Goals as goal

pub invariant_of-result : goal.invariant_of-result
invariant_of-result c =
    record {
      bound = c.requires;
      bits = operands_tell (in_question (width (sheet_of c.args.sheet.numbers.now)) c.args.frames) (2 ^ 32) c.args.gates.list.now c.args.gates.count c.args.gates.whole (sym c.if-not-fits.ensures);
    }
