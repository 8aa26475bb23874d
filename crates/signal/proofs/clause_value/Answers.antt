use Rattle.std.proofs.Common.{ℕ, List, ap, ◌∙◌, rules}
use Rattle.signal.specs.Circuit.{clause_of}
use Rattle.signal.specs.Truth.{holds}
use Rattle.lists.specs.Counted.{counted}
use Rattle.signal.proofs.Cover.{may_clause}
use Rattle.signal.proofs.Exactly.{clause_set_lem}
use Rattle.signal.proofs.clause_value.Goals as goal

pub returns : goal.returns
returns g c =
    let is =
    c.clause_of.ensures
    ∙ ap (λ (ns : List ℕ). clause_of g.S.Signal.ops ns c.counted-2.result.now) c.counted.ensures.value
    ∙ ap (λ (ls : List ℕ). clause_of g.S.Signal.ops (counted c.args.numbers.now) ls) c.counted-2.ensures.value in
    record {
      is_the_clause = is;
      may_be_exactly_the_ors = λ i b h.
          ap (λ x. g.S.Signal.may x i b) is
          ∙ clause_set_lem g.S.Signal.may i (g.met.S.Signal.sound i h) (counted c.args.numbers.now) (counted c.args.literals.now) b;
      each_set_is_as_named = search rules;
      covers_each_assignment = λ i α h agrees.
          ap (λ x. g.S.Signal.may x i (holds α (counted c.args.literals.now))) is
          ∙ may_clause g.S.Signal.may i (g.met.S.Signal.sound i h) (counted c.args.numbers.now) α (counted c.args.literals.now) agrees;
    }
