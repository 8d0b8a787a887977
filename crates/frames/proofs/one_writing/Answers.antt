use Rattle.frames.proofs.Back.{one}
use Rattle.frames.proofs.one_writing.Goals as goal

pub returns : goal.returns
returns c = one
