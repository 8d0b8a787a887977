use Rattle.std.proofs.Common.{◌+◌, eqb, length, sym, ap, ◌∙◌, arith}
use Rattle.std.proofs.lemmas.List.{length-map}
use Rattle.frames.specs.declared.Entry.{Entry}
use Rattle.lists.specs.Tables.{held}
use Rattle.logs.proofs.Sound.{log-ids}
use Rattle.records.specs.Records.{box_of}
use Rattle.received.specs.Received.{token_of}
use Rattle.turns.proofs.Changes.{decides_some, decision_fits, decisions_fit}
use Rattle.turns.proofs.handed.Opening.log.Goals as goal

pub unwrap-requires : goal.unwrap-requires
unwrap-requires c =
    let h = c.args.self.now.handed in
    let p = h.plan.now in
    let t = token_of h.token.now in
    let decided = sym (c.is_decided.ensures ∙ ap (λ v. eqb v (p.f + 1)) c.args.self.now.counted) ∙ c.if-is_decided.true in
    let some = decides_some p (box_of h.row.now) t decided in
    let same = ap length c.part.ensures in
    let ids = ap length (log-ids h.token.now.log h.other) in
    let each = length-map (held h.token.now.log.entries) (λ (e : Entry). e.id) in
    c.append.ensures.room h.other (omega arith) (decisions_fit p t c.requires.lawful some) (omega (arith, decision_fits p t c.requires.lawful))
