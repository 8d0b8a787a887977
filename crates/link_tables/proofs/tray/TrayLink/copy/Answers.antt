use Rattle.std.proofs.Common.{arith}
use Rattle.std.proofs.lemmas.Grind.{common_steps}
use Rattle.link_tables.proofs.Boxes.{stands_frame}
use Rattle.link_tables.proofs.tray.TrayLink.copy.Goals as goal

pub returns : goal.returns
returns c =
    let t = c.args.self.now in
    let frame = stands_frame t.slots.items c.args.to c.args.place c.in_ok-slot.field-0-0 c.in_ok-slot.slot.now c.in_ok-slot.ensures.1 in
    grind (arith, common_steps)
