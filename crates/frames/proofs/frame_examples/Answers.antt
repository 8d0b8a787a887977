use Rattle.std.proofs.Common.{refl}
use Rattle.frames.proofs.frame_examples.Goals as goal

pub returns : goal.returns
returns c = record { dummy_written = refl; dummy_read = refl; round_one_written = refl; round_one_read = refl; two_votes = refl }
