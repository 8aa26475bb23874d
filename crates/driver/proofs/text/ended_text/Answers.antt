use Rattle.std.proofs.Common.{◌≡◌, string_bytes, rules}
use Rattle.driver.specs.Texts.{ended_text}
use Rattle.driver.proofs.Showing.{shows_run}
use Rattle.driver.proofs.Telling.{tells_report}
use Rattle.driver.proofs.text.ended_text.Goals as goal

pub returns : goal.returns
returns c =
    let said : string_bytes c.write_run.new.text ≡ ended_text c.args.report c.args.sheet.now c.args.run.now = search rules in
    record {
      says_exactly_this = said;
      tells_the_report = tells_report c.args.report c.args.sheet.now c.args.run.now _ (search rules) (search rules) said;
      shows_each_frame = shows_run c.args.report c.args.sheet.now c.args.run.now _ said;
    }
