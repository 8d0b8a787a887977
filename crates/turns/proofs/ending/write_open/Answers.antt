use Rattle.std.proofs.Common.{is_ok, IfSome, ap, subst}
use Rattle.records.specs.Records.{DraftOf}
use Rattle.turns.proofs.Endings.{open_written}
use Rattle.turns.proofs.ending.write_open.Goals as goal

pub unwrap-requires : goal.unwrap-requires
unwrap-requires c =
    let row = c.args.row.now in
    let turn = c.args.turn.now in
    let draft = subst (λ o. IfSome o (DraftOf row turn)) c.unwrap-draft.ensures c.draft.ensures.draft in
    ap is_ok (open_written _ row turn _ draft c.requires.tables.1 c.requires.tables.0 c.requires.lawful _ _ _ c.requires.room c.write_token.ensures).answered

pub returns : goal.returns
returns c =
    let row = c.args.row.now in
    let turn = c.args.turn.now in
    let draft = subst (λ o. IfSome o (DraftOf row turn)) c.unwrap-draft.ensures c.draft.ensures.draft in
    let w = open_written c.args.plan.now row turn _ draft c.requires.tables.1 c.requires.tables.0 c.requires.lawful c.args.out.now _ _ c.requires.room c.write_token.ensures in
    record { long = cc w.answered; buffer = w.left }
