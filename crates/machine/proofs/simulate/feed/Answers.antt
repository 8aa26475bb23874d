use Rattle.machine.proofs.Feeding.{put_both}
use Rattle.machine.proofs.simulate.feed.Goals as goal

pub returns : goal.returns
returns g c =
    simp (c.copy_from_slice.ensures.after, c.copy_from_slice-2.ensures.after)
    (put_both c.args.nodes.now c.args.inputs.now c.args.state.now c.requires)
