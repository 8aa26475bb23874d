use Rattle.std.proofs.Common.{ℕ, List, ap, ◌∙◌}
use Rattle.signal.specs.Circuit.{literal_of}
use Rattle.signal.specs.Truth.{lit}
use Rattle.lists.specs.Counted.{counted}
use Rattle.signal.proofs.Cover.{may_literal}
use Rattle.signal.proofs.Exactly.{literal_set_lem}
use Rattle.signal.proofs.literal_value.Goals as goal

pub returns : goal.returns
returns g c =
    let is = c.literal_of.ensures ∙ ap (λ (ns : List ℕ). literal_of g.S.Signal.ops ns c.args.literal) c.counted.ensures.value in
    record {
      is_the_literal = is;
      may_be_exactly_its_bits = λ i b h.
          ap (λ x. g.S.Signal.may x i b) is
          ∙ literal_set_lem g.S.Signal.may i (g.met.S.Signal.sound i h) (counted c.args.numbers.now) c.args.literal b;
      covers_each_assignment = λ i α h agrees.
          ap (λ x. g.S.Signal.may x i (lit α c.args.literal)) is
          ∙ may_literal g.S.Signal.may i (g.met.S.Signal.sound i h) _ α c.args.literal agrees;
    }
