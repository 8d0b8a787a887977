use Rattle.boxes.proofs.Ids.{lists_as_token}
use Rattle.records.proofs.Drafts.{by_draft, fitting}
use Rattle.records.proofs.BoxRecord.lists_keep.Goals as goal

pub returns : goal.returns
returns c =
    let p = c.args.plan.now in
    let row = c.args.self.now in
    let fits = fitting row c.requires in
    by_draft p _ row.unordered row.log fits.unordered fits.log c.part.ensures c.decision_lengths.ensures.meaning c.part-2.ensures
    _ _ (lists_as_token.back p _ _) (lists_as_token.there p _ _) c.is_lawful.ensures
