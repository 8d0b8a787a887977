use Rattle.std.proofs.Common.{arith}
use Rattle.frames.proofs.Room.{fits}
use Rattle.frames.proofs.written_fits.Goals as goal

pub returns : goal.returns
returns c = λ p c' l. fits p c' (omega (arith, p.most)) (omega (arith, p.few)) l
