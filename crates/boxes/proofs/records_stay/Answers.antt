use Rattle.boxes.proofs.Staying.{records-stay}
use Rattle.boxes.proofs.records_stay.Goals as goal

pub returns : goal.returns
returns c = records-stay
