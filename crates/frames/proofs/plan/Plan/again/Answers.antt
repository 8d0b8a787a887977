use Rattle.frames.proofs.Ring.{same_plan}
use Rattle.frames.proofs.plan.Plan.again.Goals as goal

pub returns : goal.returns
returns c = same_plan _ c.args.self.now c.boxes.ensures c.tolerance.ensures
