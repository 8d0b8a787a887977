use Rattle.std.proofs.Common.{◌≡◌, refl, rules}
use Rattle.std.specs.List.{remove}
use Rattle.link_tables.proofs.Boxes.{slot_taken}
use Rattle.link_tables.proofs.tray.TrayLink.remove.Goals as goal

pub returns : goal.returns
returns c =
    let t = c.args.self.now in
    let less : c.remove.new.self.items ≡ remove t.slots.items c.in_ok-k.k = search rules in
    record { removed = rw c.in_ok-k.ensures.0 (refl, slot_taken t.slots.items c.remove.new.self.items c.args.to c.args.place c.in_ok-k.k c.in_ok-k.field-0-1.now c.in_ok-k.ensures.1 t.few less c.remove.ensures.len) }
