use Rattle.std.proofs.Common.{◌&&◌, sym, ap, ◌∙◌}
use Rattle.frames.specs.Contents.{ids_of}
use Rattle.std.specs.List.{flat_map}
use Rattle.logs.specs.Logs.{log_of}
use Rattle.logs.proofs.Sound.{log-ids}
use Rattle.boxes.specs.Handling.{all_used}
use Rattle.records.specs.Records.{box_of}
use Rattle.records.proofs.Drafts.{fitting}
use Rattle.records.proofs.BoxRecord.ids_keep.Goals as goal

pub returns-then-part_used : goal.returns-then-part_used
returns-then-part_used c =
    let row = c.args.self.now in
    let b = box_of row in
    let first = sym (c.part_used.ensures ∙ ap (λ z. all_used b (ids_of z)) c.part.ensures) ∙ c.if-part_used.true in
    let second = c.part_used-then-part_used.ensures ∙ ap (λ z. all_used b (ids_of z)) c.part-then-part_used.ensures ∙ sym (ap (all_used b) (log-ids row.log (fitting row c.requires).log)) in
    second ∙ sym (ap (λ z. z && all_used b (flat_map ids_of (log_of row.log))) first)
