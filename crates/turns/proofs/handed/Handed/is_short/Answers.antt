use Rattle.lists.specs.Tables.{held}
use Rattle.logs.specs.Logs.{lengths_of}
use Rattle.logs.proofs.Parted.{length_parted}
use Rattle.turns.proofs.handed.Handed.is_short.Goals as goal

pub returns : goal.returns
returns c =
    let own = length_parted (lengths_of c.args.self.now.row.now.log) (held c.args.self.now.row.now.log.entries) in
    let theirs = length_parted (lengths_of c.args.self.now.token.now.log) (held c.args.self.now.token.now.log.entries) in
    let a = c.decision_lengths.ensures.meaning in
    let b = c.decision_lengths-2.ensures.meaning in
    cc
