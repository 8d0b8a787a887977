use Rattle.std.proofs.Common.{arith}
use Rattle.std.proofs.lemmas.Result.{err_from_is_err_and}
use Rattle.inspect.proofs.Asked.{no_plan, bad-line, bad_frame, good_frame}
use Rattle.inspect.proofs.texts.read_text.Goals as goal

pub returns-in_err-plan : goal.returns-in_err-plan
returns-in_err-plan c =
    let e = err_from_is_err_and c.from_residual-in_err-plan.result c.from_residual-in_err-plan.ensures.1 in
    let split = c.in_ok-split.split in
    rw (e.1, e.2) (no_plan c.args.text.now split.line.now split.byte _ c.in_ok-split.ensures c.in_err-plan.ensures)

pub returns-in_err-n : goal.returns-in_err-n
returns-in_err-n c =
    let e = err_from_is_err_and c.from_residual-in_err-n.result c.from_residual-in_err-n.ensures.1 in
    let split = c.in_ok-split.split in
    rw (e.1, e.2)
    (bad-line c.args.text.now split.line.now split.byte c.in_ok-plan.plan c.in_ok-split.ensures c.in_ok-plan.ensures _ _ _ (omega arith) c.in_err-n.ensures.answer)

pub returns-in_err-read : goal.returns-in_err-read
returns-in_err-read c =
    let e = err_from_is_err_and c.from_residual-in_err-read.result c.from_residual-in_err-read.ensures.1 in
    let split = c.in_ok-split.split in
    rw (e.1, e.2)
    (bad_frame c.args.text.now split.line.now split.byte c.in_ok-plan.plan c.in_ok-split.ensures c.in_ok-plan.ensures _ c.in_ok-n.ensures.bytes.1 _ c.in_err-read.ensures.answer)

pub returns : goal.returns
returns c =
    let split = c.in_ok-split.split in
    good_frame c.args.text.now split.line.now split.byte c.in_ok-plan.plan c.in_ok-split.ensures c.in_ok-plan.ensures _ c.in_ok-n.ensures.bytes.1 _ c.in_ok-read.ensures.lawful
