use Rattle.std.proofs.Common.{rules}
use Rattle.turns.proofs.Judges.{log_has}
use Rattle.turns.proofs.judging.is_known.Goals as goal

pub returns-else-has_id : goal.returns-else-has_id
returns-else-has_id c =
    let logged = log_has c.args.id c.args.row.now.log c.requires in
    search rules
