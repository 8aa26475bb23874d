use Rattle.std.proofs.Common.{Ok, rules, ◌∙◌}
use Rattle.checker.proofs.Tracing.{used_few, read_run}
use Rattle.checker.proofs.Ended.read_off.Goals as goal
use Rattle.checker.proofs.Ended.read_off.Goals.{in-Safe, in-Run+in_ok-steps-in-Run, in-Undecided, in-Spent, in-Short}

pub run_off-requires : goal.run_off-requires
run_off-requires c = used_few c.args.assignment.now c.used_part-assignment.result.now c.in-Run.variables c.used_part-assignment.ensures

pub returns : goal.returns
returns c =
    record {
      reads_off_by_the_rules =
          elim c.match-self.branch [
            | in-Safe w ↦ search rules
            | in-Run+in_ok-steps-in-Run w ↦
                (λ i. (Ok (record { verdict = w.verdict-is i; bound = c.args.self.now.bound; turns = c.args.self.now.turns }), w.run-is i))
                ∙ read_run c.args.sheet.now c.args.assignment.now c.args.run.now w.used_part-assignment.result.now w.run_off.new.run c.args.self.now
                w.in-Run.last w.in-Run.variables w.in-Run.is w.used_part-assignment.ensures (Ok w.in_ok-steps-in-Run.steps) w.in_ok-steps-in-Run.ensures
            | in-Undecided w ↦ search rules
            | in-Spent w ↦ search rules
            | in-Short w ↦ search rules
          ];
    }
