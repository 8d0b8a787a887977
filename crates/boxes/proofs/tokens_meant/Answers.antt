use Rattle.boxes.proofs.Meaning.{meant_for}
use Rattle.boxes.proofs.tokens_meant.Goals as goal

pub returns : goal.returns
returns c = meant_for
