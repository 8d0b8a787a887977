use Rattle.std.proofs.Common.{rules}
use Rattle.records.specs.Records.{box_of}
use Rattle.turns.proofs.Judges.{token_used}
use Rattle.turns.proofs.handed.Handed.ids_used.Goals as goal

pub returns-then-part_used : goal.returns-then-part_used
returns-then-part_used c =
    let whole = token_used (box_of c.args.self.now.row.now) c.args.self.now.token.now c.args.self.now.other in
    search rules
