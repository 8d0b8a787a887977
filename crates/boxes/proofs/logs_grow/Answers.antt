use Rattle.boxes.proofs.Growing.{logs_grow}
use Rattle.boxes.proofs.logs_grow.Goals as goal

pub returns : goal.returns
returns c = logs_grow
