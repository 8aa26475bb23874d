use Rattle.std.proofs.Common.{◌≡◌, ◌+◌, ◌-◌, ◌≤◌}
use Rattle.answer.specs.Runs.{start, run}
use Rattle.answer.proofs.refutations.take_steps.Given as goal

abbrev pub invariant-loop-step : goal.invariant-loop-step
invariant-loop-step l = record {
  behind : l.steps + 1 ≤ l.end;
  same : run l.question l.refutation (l.steps - l.step) l.work (record { step = l.step; end = l.end })
      ≡ run l.question l.refutation l.steps l.initial.work (start l.steps);
}
