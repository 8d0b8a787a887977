use Rattle.std.proofs.Common.{ap, ◌∙◌}
use Rattle.frames.specs.Reading.{read_as}
use Rattle.lines.specs.Calls.{frame_fault}
use Rattle.lines.proofs.Faults.{frame_readable}
use Rattle.lines.proofs.check_read.Goals as goal

pub returns-clause-tested : goal.returns-clause-tested
returns-clause-tested c =
    let p = c.args.plan.now in
    let found = c.check_frame.ensures.fault ∙ ap (λ z. frame_fault (read_as p z)) c.put_bytes.ensures.front in
    frame_readable p c.args.line.now c.args.room c.check_frame.result c.in_ok-check_bytes.ensures.tested found
