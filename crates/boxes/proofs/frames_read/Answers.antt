use Rattle.boxes.proofs.Sending.{frames_read}
use Rattle.boxes.proofs.frames_read.Goals as goal

pub returns : goal.returns
returns c = frames_read
