-- What entries and decisions come to in tables.
use Rattle.std.specs.Prelude.{◌≡◌, ◌<◌, ◌≤◌, true, List, length}
use Rattle.std.specs.List.{flat_map, AllByRecursion}
use Rattle.frames.specs.declared.Entry.{Entry}
use Rattle.frames.specs.Contents.{ids_of}
use Rattle.lists.specs.declared.Entries.{Entries}
use Rattle.lists.specs.Tables.{room, held}
use Rattle.logs.specs.declared.Log.{Log}
use Rattle.logs.specs.Logs.{adds_up, log_of}

-- the table holds just these entries, and counts them
pub record Tabled (es : List Entry) (t : Entries) : Type 0 where
  pub entries : held t ≡ es
  pub counted : t.count ≡ length es

-- the log has just these decisions, and adds up
pub record Logged (ds : List (List Entry)) (l : Log) : Type 0 where
  pub decisions : log_of l ≡ ds
  pub sound : adds_up l ≡ true

-- decisions that a log takes: none is empty, and there is room for the entries of all
pub record Loggable (ds : List (List Entry)) : Type 0 where
  pub some : AllByRecursion (λ (d : List Entry). 0 < length d) ds
  pub few : length (flat_map ids_of ds) ≤ room
