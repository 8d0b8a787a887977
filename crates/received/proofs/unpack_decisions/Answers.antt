use Rattle.std.proofs.Common.{◌≡◌, true, ap, ◌∙◌, arith}
use Rattle.logs.specs.Logs.{takes}
use Rattle.received.proofs.Logging.{RoomAfter, room_after, takes_with_room}
use Rattle.received.proofs.unpack_decisions.Goals as goal

pub returns-in_err-unpack_entries-clause-fits : goal.returns-in_err-unpack_entries-clause-fits
returns-in_err-unpack_entries-clause-fits c g =
    let room : RoomAfter c.loop-decision.yielded c.in-Some.decision = room_after _ _ _ _ _ c.loop-decision.invariant.parts c.in-Some.ensures.steps g in
    let yes = c.in_err-unpack_entries.ensures.fits (omega (arith, room.entries)) in
    absurd (cc)

pub returns-in_err-append-clause-fits : goal.returns-in_err-append-clause-fits
returns-in_err-append-clause-fits c g =
    let s = c.loop-decision.invariant in
    let room : RoomAfter c.loop-decision.yielded c.in-Some.decision = room_after _ _ _ _ _ s.parts c.in-Some.ensures.steps g in
    let same = c.part.ensures ∙ c.in_ok-unpack_entries.ensures.table.entries in
    let yes : takes c.loop-decision.log c.part.result.now ≡ true = ap (takes c.loop-decision.log) same ∙ takes_with_room _ _ _ room s.logged s.decided s.counted in
    let no = c.in_err-append.ensures.answer in
    absurd (cc)
