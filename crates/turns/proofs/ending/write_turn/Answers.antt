use Rattle.std.proofs.Common.{◌≡◌, true, ap, subst}
use Rattle.std.specs.Option.{option_map}
use Rattle.records.specs.Records.{turn_of, turn_fits}
use Rattle.records.proofs.Drafts.{fitting}
use Rattle.turns.proofs.ending.write_turn.Goals as goal

pub write_open-requires : goal.write_open-requires
write_open-requires c =
    let row = c.args.row.now in
    let fits = fitting row c.requires.rules.tables in
    record {
      lawful = c.requires.rules.rules.turns (turn_of c.in-Some.turn) (ap (option_map turn_of) c.in-Some.is);
      tables = (fits.log, subst (λ z. turn_fits z ≡ true) c.in-Some.is fits.turn);
      room = c.requires.room;
    }
