use Rattle.boxes.proofs.Refusing.{refusals_stay}
use Rattle.boxes.proofs.refusals_stay.Goals as goal

pub returns : goal.returns
returns c = refusals_stay
