use Rattle.boxes.proofs.Answering.{answers_fit}
use Rattle.boxes.proofs.answers_fit.Goals as goal

pub returns : goal.returns
returns c = answers_fit
