use Rattle.std.proofs.Common.{sym, ap}
use Rattle.std.proofs.lemmas.Result.{err_from_is_err_and}
use Rattle.frames.specs.Reading.{read_as}
use Rattle.lines.specs.Calls.{frame_fault}
use Rattle.lines.proofs.Faults.{shown_read, fault_met, framed}
use Rattle.lines.proofs.check_frame.Goals as goal

pub returns : goal.returns
returns c =
    let frame = shown_read (read_as c.args.plan.now c.args.bytes.now) _ c.in_ok-read.ensures.answer in
    record { fault = ap frame_fault (sym frame.1); tested = framed c.args.plan.now c.args.bytes.now _ c.in_ok-read.ensures.lawful }

pub returns-in_err-read : goal.returns-in_err-read
returns-in_err-read c =
    let met = fault_met (read_as c.args.plan.now c.args.bytes.now) c.in_err-read.field-0.0 c.in_err-read.ensures.answer in
    let e = err_from_is_err_and c.from_residual.result c.from_residual.ensures.1 in
    rw (e.1, e.2) (record { fault = ap frame_fault (sym met); tested = tt })
