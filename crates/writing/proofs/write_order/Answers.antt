use Rattle.std.proofs.Common.{◌∷◌, ◌++◌, drop, ap, ◌∙◌, arith}
use Rattle.frames.specs.Contents.{entry_bytes}
use Rattle.frames.specs.Contents.Content.{order}
use Rattle.writing.specs.Written.{fault_of}
use Rattle.writing.proofs.Endings.{done}
use Rattle.writing.proofs.Fits.{order_front}
use Rattle.writing.proofs.write_order.Goals as goal

pub returns : goal.returns
returns c =
    let out = c.args.out.now in
    let E = entry_bytes c.args.entry.now in
    let reads = c.in_ok-check_order.ensures in
    let front = c.write_entry.ensures.bytes ∙ order_front out c.byte.result E (omega arith) c.write_entry.ensures.long ∙ ap (λ z. (1 ∷ z ∷ E) ++ drop 11 out) c.byte.ensures in
    done c.args.plan.now (order c.args.entry.now) _ out 11 _ c.if-out-lt-FRAME_MAX.false (ap fault_of reads) (omega (arith, c.write_entry.ensures.long)) front reads
