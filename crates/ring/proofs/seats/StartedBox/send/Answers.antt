use Rattle.std.proofs.Common.{◌≡◌, ℕ, true, length, None, Ok, Result, sym, ap, ◌∙◌}
use Rattle.frames.specs.Contents.{bytes_of}
use Rattle.frames.specs.Contents.Content.{order}
use Rattle.boxes.specs.declared.BoxFault.{BoxFault}
use Rattle.boxes.specs.Turns.{next_id, next_entry, sending}
use Rattle.boxes.specs.Calls.{refused_or, stayed_or, at_front, written_or}
use Rattle.records.specs.Records.{box_of}
use Rattle.ring.specs.Calls.{kept_row, own_fault, sent_row}
use Rattle.boxes.proofs.Refusing.{unrefused}
use Rattle.ring.proofs.Writing as writes
use Rattle.ring.proofs.seats.StartedBox.send.Goals as goal

pub unwrap-length-requires : goal.unwrap-length-requires
unwrap-length-requires c = writes.accepted _ _ _ _ _ c.write_order.ensures c.in_ok-check_send.ensures.cleared.fits c.take_serial-entry.ensures.lawful

pub returns : goal.returns
returns c =
    let p = c.args.self.now.plan in
    let at = c.args.self.now.at in
    let r = c.args.row.now in
    let body = c.args.body.now in
    let out = c.args.out.now in
    let e = c.take_serial-entry.result in
    let clear = c.in_ok-check_send.ensures.cleared in
    let none : own_fault (box_of r) (length out) true ≡ None = unrefused _ tt (c.in_ok-check_send.ensures.fault.0 clear.rules) in
    let entry = c.take_serial-entry.ensures.entry in
    let long = writes.long _ _ _ _ _ c.write_order.ensures clear.fits c.take_serial-entry.ensures.lawful _ c.unwrap-length.ensures ∙ ap (λ z. length (bytes_of p (order z))) entry in
    let front = writes.front _ _ _ _ _ c.write_order.ensures clear.fits c.take_serial-entry.ensures.lawful ∙ ap (λ z. at_front (bytes_of p (order z)) out) entry in
    let answer : ◌≡◌ {A = Result (ℕ × ℕ) BoxFault} (Ok (e.id, c.unwrap-length.result)) (Ok (next_id (box_of r), length (bytes_of p (order (next_entry (box_of r) body))))) = λ j. Ok ((entry j).id, long j) in
    record {
      answer = (λ _. answer ∙ sym (ap (λ z. refused_or z (next_id (box_of r), length (bytes_of p (order (next_entry (box_of r) body))))) none), λ broken. absurd (broken clear.rules));
      row = (λ _. c.take_serial-entry.ensures.row ∙ sym (ap (λ z. kept_row z r (sent_row body r)) none), λ broken. absurd (broken clear.rules));
      meaning = (λ _. c.take_serial-entry.ensures.meaning ∙ sym (ap (λ z. stayed_or z (box_of r) (sending (box_of r) body)) none), λ broken. absurd (broken clear.rules));
      buffer = (λ _. front ∙ sym (ap (λ z. written_or z out (bytes_of p (order (next_entry (box_of r) body)))) none), λ broken. absurd (broken clear.rules));
      stays = λ _. c.take_serial-entry.ensures.rules;
      reads = writes.reads _ _ _ _ _ c.write_order.ensures clear.fits c.take_serial-entry.ensures.lawful _ c.unwrap-length.ensures ∙ ap (λ z. Ok (order z)) entry;
    }
