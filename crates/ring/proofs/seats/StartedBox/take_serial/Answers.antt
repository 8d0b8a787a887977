use Rattle.std.proofs.Common.{◌≡◌, ◌+◌, ◌*◌, ◌<◌, sym, ap, ◌∙◌, subst, arith}
use Rattle.std.proofs.ByRecursion.{All-from_get_or}
use Rattle.frames.specs.declared.Entry.{Entry}
use Rattle.frames.specs.Contents.{LawfulEntry}
use Rattle.std.proofs.lemmas.Bool.{cond-true}
use Rattle.lists.specs.Tables.{with_entry}
use Rattle.boxes.specs.Turns.{next_entry}
use Rattle.records.specs.Records.{box_of, KeepsRules}
use Rattle.ring.specs.Calls.{sent_row}
use Rattle.ring.proofs.Sending as next
use Rattle.ring.proofs.seats.StartedBox.take_serial.Goals as goal

pub unwrap-requires : goal.unwrap-requires
unwrap-requires c =
    let bytes = All-from_get_or (λ b. b < 256) c.args.body.now 0 (λ i _. c.fits-body i) in
    c.insert.ensures.room (next.roomy _ _ _ c.requires.rules c.requires.left _ c.told-body bytes)

pub returns : goal.returns
returns c =
    let p = c.args.self.now.plan in
    let at = c.args.self.now.at in
    let r = c.args.row.now in
    let body = c.args.body.now in
    let k = c.requires.rules in
    let left = c.requires.left in
    let bytes = All-from_get_or (λ b. b < 256) body 0 (λ i _. c.fits-body i) in
    let id : 16 * at + r.last + 1 ≡ 16 * r.seat + (r.last + 1) = omega (arith, k.rules.seated) in
    let entry : ◌≡◌ {A = Entry} (record { id = 16 * at + r.last + 1; body = body }) (next_entry (box_of r) body) = λ j. record { id = id j; body = body } in
    let room = c.insert.ensures.room (next.roomy p at r k left body c.told-body bytes) in
    let table = c.insert.ensures.table ∙ cond-true _ _ _ room ∙ ap (λ z. with_entry z r.unordered) entry in
    let row : _ ≡ sent_row body r = λ j. record {
      n = r.n;
      f = r.f;
      seat = r.seat;
      awaited = r.awaited;
      log = r.log;
      unordered = table j;
      last = r.last + 1;
      doubt = r.doubt;
      on = r.on;
      turn = r.turn;
    } in
    record {
      entry = entry;
      lawful = subst (LawfulEntry p) (sym entry) (next.lawful p at r k left body c.told-body bytes);
      row = row;
      meaning = ap box_of row ∙ next.meaning p at r k left body c.told-body bytes;
      rules = subst (KeepsRules p at) (sym row) (next.by_send p at r k left body c.told-body bytes);
    }
