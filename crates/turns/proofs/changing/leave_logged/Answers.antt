use Rattle.std.proofs.lemmas.Bool.{leb-true}
use Rattle.turns.proofs.Changes.{ids_bytes, without_fits}
use Rattle.turns.proofs.changing.leave_logged.Goals as goal

pub returns : goal.returns
returns c =
    record {
      meaning = c.leave.ensures.marked (leb-true _ _ c.requires.fits) _ (c.ids.ensures.meaning c.requires.whole) (ids_bytes _ c.requires.entries);
      fits = without_fits _ c.args.unordered.now c.leave.new.self c.requires.fits c.leave.ensures.table;
    }
