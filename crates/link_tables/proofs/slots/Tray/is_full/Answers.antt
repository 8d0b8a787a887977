use Rattle.std.proofs.Common.{arith}
use Rattle.std.proofs.lemmas.Bool.Decides.{nat_tests}
use Rattle.link_tables.proofs.Boxes.{in-all}
use Rattle.link_tables.proofs.slots.Tray.is_full.Goals as goal

pub returns-clause-at : goal.returns-clause-at
returns-clause-at c =
    let all = in-all c.args.self.now in
    grind (arith, nat_tests)
