use Rattle.agreement.proofs.Going.{runs_go_on}
use Rattle.agreement.proofs.runs_go_on.Goals as goal

pub returns : goal.returns
returns g c = runs_go_on _
