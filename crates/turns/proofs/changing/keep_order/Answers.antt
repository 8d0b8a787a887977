use Rattle.std.proofs.Common.{ap, ◌∙◌}
use Rattle.std.proofs.lemmas.Bool.{cond-true}
use Rattle.lists.specs.Tables.{held, inserted}
use Rattle.lists.proofs.Holds.{holds}
use Rattle.records.specs.Records.{box_of}
use Rattle.records.proofs.Drafts.{fitting}
use Rattle.turns.proofs.Changes.{order_fits, with_entry_fits, remade, reboxed, tables-fit}
use Rattle.turns.proofs.changing.keep_order.Goals as goal

pub unwrap-requires : goal.unwrap-requires
unwrap-requires c =
    c.insert.ensures.room (order_fits _ _ _ _ c.requires.keeps c.requires.lawful c.requires.new)

pub returns : goal.returns
returns c =
    let r = c.args.row.now in
    let e = c.args.entry in
    let table = c.insert.new.self in
    let fits = fitting r c.requires.keeps.tables in
    let less = order_fits _ _ r e c.requires.keeps c.requires.lawful c.requires.new in
    let made = c.insert.ensures.table ∙ cond-true _ _ _ (c.insert.ensures.room less) in
    let more = with_entry_fits e r.unordered table less made in
    record {
      row = ap (λ us. remade r r.log us r.turn) made;
      meaning = ap (λ us. reboxed (box_of r) (box_of r).log us (box_of r).turn) (holds (inserted e (held r.unordered)) r.unordered table made);
      tables = tables-fit r r.log table r.turn more fits.log fits.turn;
    }
