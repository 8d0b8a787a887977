use Rattle.std.proofs.Common.{rules}
use Rattle.logs.proofs.Sound.{begins_logs}
use Rattle.logs.proofs.Log.begins_log.Goals as goal

pub returns-then-begins-clause-meaning : goal.returns-then-begins-clause-meaning
returns-then-begins-clause-meaning c = begins_logs c.args.self.now c.args.other.now c.begins-then-begins.result (search rules)

pub returns-else-begins-clause-meaning : goal.returns-else-begins-clause-meaning
returns-else-begins-clause-meaning c = begins_logs c.args.self.now c.args.other.now c.begins.result (search rules)
