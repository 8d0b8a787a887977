use Rattle.frames.proofs.Marks.{none_marked}
use Rattle.frames.proofs.ids.IdSet.new.Goals as goal

pub returns : goal.returns
returns c = none_marked 256
