use Rattle.std.proofs.Common.{sym, ap, ◌∙◌}
use Rattle.std.proofs.lemmas.Result.{IfOk-weaker}
use Rattle.frames.specs.Views.{view_of}
use Rattle.inspect.proofs.Known.{token_told}
use Rattle.inspect.proofs.words.frame_words.Goals as goal

pub returns-in-Token : goal.returns-in-Token
returns-in-Token c =
    let t = c.in-Token in
    IfOk-weaker c.format-in-Token.result _ _
    (λ s e p content lawful v. e ∙ token_told p content t.sender t.stamp t.votes t.decided t.proposal.now t.decisions.now lawful (sym (ap view_of t.is) ∙ v))
    c.format-in-Token.ensures.ok
