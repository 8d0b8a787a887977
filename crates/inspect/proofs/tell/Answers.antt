use Rattle.std.proofs.lemmas.Result.{IfOk-weaker}
use Rattle.inspect.specs.Means.Outcome.{frame, refused}
use Rattle.inspect.proofs.tell.Goals as goal

pub returns-in-Ok : goal.returns-in-Ok
returns-in-Ok c =
    let text = c.in-Ok.ensures in
    IfOk-weaker c.frame_words.result _ _
    (λ s words. record { outcome = frame text.0; meant = text.1; told = words text.1.plan text.0 text.1.lawful text.2; tallied = c.count_frame.ensures })
    c.frame_words.ensures

pub returns-in-Err : goal.returns-in-Err
returns-in-Err c =
    IfOk-weaker c.fault_words.result _ _
    (λ s words. record { outcome = refused c.in-Err.fault; meant = c.in-Err.ensures; told = words; tallied = c.count_fault.ensures })
    c.fault_words.ensures
