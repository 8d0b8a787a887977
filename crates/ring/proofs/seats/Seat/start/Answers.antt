use Rattle.std.proofs.Common.{◌≡◌, true, false, None, sym, refl, ap, subst}
use Rattle.records.specs.Records.{box_of, KeepsRules}
use Rattle.boxes.proofs.Staying.{records-stay}
use Rattle.ring.specs.Seats.{started_row}
use Rattle.ring.proofs.seats.Seat.start.Goals as goal

pub returns : goal.returns
returns c =
    let p = c.args.self.plan in
    let at = c.args.self.at in
    let row : started_row p at ≡ _ = λ i. record {
      n = sym c.boxes.ensures i;
      f = sym c.tolerance.ensures i;
      seat = at;
      awaited = sym c.first_awaited-awaited.ensures i;
      log = sym c.new.ensures.log i;
      unordered = sym c.new-2.ensures.table i;
      last = 0;
      doubt = false;
      on = true;
      turn = None;
    } in
    record {
      started = record { plan = refl; at = refl };
      row = sym row;
      meaning = sym (ap box_of row);
      rules = subst (KeepsRules p at) row (record { tables = refl; rules = records-stay.start p at c.args.self.seated });
    }
