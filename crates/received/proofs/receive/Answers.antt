use Rattle.std.proofs.Common.{sym, refl, ap, ◌∙◌}
use Rattle.std.proofs.lemmas.Result.{err_from_is_err_and}
use Rattle.frames.specs.Views.{view_of}
use Rattle.received.proofs.Contents.{fault_read, token_room, token_shown, loggable, token_kept}
use Rattle.received.proofs.receive.Goals as goal

pub returns-in_err-entry-clause-contents : goal.returns-in_err-entry-clause-contents
returns-in_err-entry-clause-contents c =
    let p = err_from_is_err_and c.from_residual.result c.from_residual.ensures.1 in
    rw (p.1, p.2) (fault_read _ _ c.in_err-entry.ensures.answer)

pub unwrap-requires-in-Token : goal.unwrap-requires-in-Token
unwrap-requires-in-Token c =
    let s = c.in_ok-entry.ensures.lawful in
    let reads = token_shown _ _ s.contents _ _ _ _ _ _ c.new.result _ s.lawful s.written (ap view_of (sym c.in-Token.is) ∙ s.seen) (cc) refl in
    c.unpack_entries.ensures.fits (token_room _ _ reads.lawful).0

pub unwrap-requires-in-Token-2 : goal.unwrap-requires-in-Token-2
unwrap-requires-in-Token-2 c =
    let s = c.in_ok-entry.ensures.lawful in
    c.unpack_decisions.ensures.fits (loggable _ _ _ (token_shown _ _ s.contents _ _ _ _ _ _ c.new.result c.new-in-Token.result s.lawful s.written (ap view_of (sym c.in-Token.is) ∙ s.seen) (cc) (cc)))

pub returns-in-Token : goal.returns-in-Token
returns-in-Token c =
    let s = c.in_ok-entry.ensures.lawful in
    let reads = token_shown _ _ s.contents _ _ _ _ _ _ c.new.result c.new-in-Token.result s.lawful s.written (ap view_of (sym c.in-Token.is) ∙ s.seen) (cc) (cc) in
    let kept = token_kept _ _ _ _ _ reads (rw c.unwrap-in-Token.ensures at c.unpack_entries.ensures.table) (rw c.unwrap-in-Token-2.ensures at c.unpack_decisions.ensures.log) in
    record { contents = kept.0; lawful = kept.1 }
