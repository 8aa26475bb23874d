use Rattle.lists.specs.Counted.{counted}
use Rattle.machine.proofs.Plain.{lent_step}
use Rattle.machine.proofs.simulate.simulate_bits.Goals as goal

pub returns-clause-is_a_step_of_the_machine : goal.returns-clause-is_a_step_of_the_machine
returns-clause-is_a_step_of_the_machine c =
    lent_step (counted c.args.sheet.now) c.args.inputs.now c.args.state.now c.simulate.result c.simulate.new.state
    c.simulate.ensures.steps_by_the_gate_values
