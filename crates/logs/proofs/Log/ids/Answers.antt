use Rattle.logs.proofs.Sound.{log-ids}
use Rattle.logs.proofs.Log.ids.Goals as goal

pub returns-clause-meaning : goal.returns-clause-meaning
returns-clause-meaning c = λ q. rw (log-ids c.args.self.now q) c.ids.ensures
