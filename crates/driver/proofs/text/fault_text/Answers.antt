use Rattle.std.proofs.Common.{◌≡◌, IfOk, string_bytes, rules, append_assoc, sym, ◌∙◌}
use Rattle.std.proofs.lemmas.Result.{IfOk-weaker}
use Rattle.sheet.specs.Faults.{cause_number}
use Rattle.driver.specs.Texts.{fault_text, refusal_line}
use Rattle.driver.proofs.Telling.{as_line, tells_fault}
use Rattle.driver.proofs.text.fault_text.Goals as goal

pub returns : goal.returns
returns c =
    let f = c.args.fault in
    let line : IfOk c.format.result (λ s. string_bytes s ≡ refusal_line (cause_number f.cause) f.place) = search (rules, append_assoc) in
    let said : IfOk c.format.result (λ s. string_bytes s ≡ fault_text f) = IfOk-weaker c.format.result _ _ (λ s is. is ∙ sym (as_line f)) line in
    record {
      says_exactly_this = said;
      tells_the_fault = IfOk-weaker c.format.result _ _ (λ s is. tells_fault f (string_bytes s) (search rules) is) said;
    }
