use Rattle.frames.proofs.Written.{whole_entries}
use Rattle.turns.proofs.changing.open_turn.Goals as goal

pub settle-requires : goal.settle-requires
settle-requires c = record { tables = c.requires.keeps.tables; entries = whole_entries _ _ c.requires.keeps.rules.lists.entries.each; whole = c.log-log.ensures.whole }
