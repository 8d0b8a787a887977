use Rattle.std.proofs.Common.{◌≡◌, length, nat_le, arith, rules}
use Rattle.std.proofs.lemmas.Bool.Decides.{nat_tests}
use Rattle.link_tables.specs.Sizes.{tray_limit}
use Rattle.link_tables.proofs.Boxes.{tray_posted}
use Rattle.link_tables.proofs.tray.TrayLink.post.Goals as goal

pub returns : goal.returns
returns c =
    let full : c.is_full.result ≡ nat_le tray_limit (length c.args.self.now.slots.items) = grind (arith, nat_tests) in
    search (rules, tray_posted)
