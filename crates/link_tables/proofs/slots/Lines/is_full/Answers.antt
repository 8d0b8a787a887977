use Rattle.std.proofs.Common.{arith}
use Rattle.std.proofs.lemmas.Bool.Decides.{nat_tests}
use Rattle.std.proofs.lemmas.Grind.{common_steps}
use Rattle.std.proofs.lemmas.List.{length-map}
use Rattle.link_tables.proofs.slots.Lines.is_full.Goals as goal

pub returns-clause-at : goal.returns-clause-at
returns-clause-at c = grind (arith, nat_tests, common_steps, length-map)
