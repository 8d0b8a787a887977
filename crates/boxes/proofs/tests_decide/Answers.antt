use Rattle.boxes.proofs.Parts.{tests_decide}
use Rattle.boxes.proofs.tests_decide.Goals as goal

pub returns : goal.returns
returns c = tests_decide
