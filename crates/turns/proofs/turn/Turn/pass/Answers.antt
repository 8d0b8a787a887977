use Rattle.std.proofs.Common.{length, sym, refl, ap, ◌∙◌, subst, arith}
use Rattle.boxes.specs.Calls.{turn_bytes, at_front}
use Rattle.records.specs.Records.{box_of, KeepsRules}
use Rattle.turns.proofs.Endings.{own_seat, answers, row_after, keeps_after, next_fits, writes, reads_back}
use Rattle.turns.proofs.turn.Turn.pass.Goals as goal

pub write_turn-length-requires : goal.write_turn-length-requires
write_turn-length-requires c =
    let may = c.in_default.ensures.may in
    record {
      rules = subst (λ q. KeepsRules q c.args.row.now.seat c.args.row.now) (sym c.plan.ensures) (own_seat _ _ _ may.rules);
      room = may.roomy;
    }

pub overflow_add-row : goal.overflow_add-row
overflow_add-row c = let h = next_fits _ _ c.args.row.now _ _ _ c.in_default.ensures.may c.in_default.ensures.fault in omega arith

pub returns : goal.returns
returns c =
    let p = c.args.started.now.plan in
    let i = c.args.started.now.at in
    let row = c.args.row.now in
    let out = c.args.out.now in
    let turn = c.args.self in
    let may = c.in_default.ensures.may in
    let fault = c.in_default.ensures.fault in
    let long = c.write_turn-length.ensures.long ∙ ap (λ q. length (turn_bytes q (box_of row) (box_of row).turn)) c.plan.ensures in
    let left = c.write_turn-length.ensures.buffer ∙ ap (λ q. at_front (turn_bytes q (box_of row) (box_of row).turn) out) c.plan.ensures in
    record {
      answer = answers p i row (length out) turn.seat turn.round may fault _ long;
      back = tt;
      row = row_after p i row (length out) turn.seat turn.round may fault;
      buffer = writes p i row (length out) turn.seat turn.round may fault out _ refl left;
      reads = reads_back p i row (length out) turn.seat turn.round may fault _ out _ long left;
      stays = λ _. keeps_after p i row (length out) turn.seat turn.round may fault;
    }
