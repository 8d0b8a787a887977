use Rattle.boxes.proofs.Leaving.{unordered_stay}
use Rattle.boxes.proofs.unordered_stay.Goals as goal

pub returns : goal.returns
returns c = unordered_stay
