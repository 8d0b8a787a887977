use Rattle.std.proofs.Common.{Ok, subst}
use Rattle.records.specs.Records.{box_of}
use Rattle.turns.specs.Frames.{FrameLaws}
use Rattle.turns.proofs.taking.take_frame.Goals as goal

pub returns-in-Opened-clause-laws : goal.returns-in-Opened-clause-laws
returns-in-Opened-clause-laws c k on =
    subst (λ z. FrameLaws c.args.started.now.plan (box_of c.args.row.now) c.args.bytes.now (Ok z) (box_of c.take_bytes.new.row)) c.in-Opened.is (c.in_ok-take_bytes.ensures.laws k on)
