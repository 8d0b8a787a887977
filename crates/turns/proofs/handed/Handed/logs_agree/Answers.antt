use Rattle.std.proofs.Common.{rules}
use Rattle.turns.proofs.Judges.{begins_same}
use Rattle.turns.proofs.handed.Handed.logs_agree.Goals as goal

pub returns-then-begins_log : goal.returns-then-begins_log
returns-then-begins_log c =
    let first = begins_same _ _ _ (c.begins_log.ensures.meaning (search rules) (search rules)) in
    search rules

pub returns-else-begins_log : goal.returns-else-begins_log
returns-else-begins_log c =
    let first = begins_same _ _ _ (c.begins_log.ensures.meaning (search rules) (search rules)) in
    let second = begins_same _ _ _ (c.begins_log-else-begins_log.ensures.meaning (search rules) (search rules)) in
    search rules
