use Rattle.agreement.proofs.Smooth.{runs_are_smooth}
use Rattle.agreement.proofs.runs_are_smooth.Goals as goal

pub returns : goal.returns
returns g c = runs_are_smooth _
