use Rattle.std.proofs.Common.{arith}
use Rattle.std.proofs.lemmas.Grind.{common_steps}
use Rattle.lists.specs.Tables.{held}
use Rattle.lists.proofs.Inserts.{ascends_with, ids_with}
use Rattle.lists.proofs.Entries.insert.Goals as goal

pub returns-clause-ascends : goal.returns-clause-ascends
returns-clause-ascends c = ascends_with c.args.e (held c.args.self.now) _ (grind (arith, common_steps))

pub returns-clause-ids : goal.returns-clause-ids
returns-clause-ids c = ids_with c.args.e (held c.args.self.now) _ (grind (arith, common_steps))
