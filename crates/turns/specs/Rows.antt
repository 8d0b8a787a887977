-- Records after calls that take frames and end turns: what changes, and what stays.
use Rattle.std.specs.Prelude.{◌+◌, false, None}
use Rattle.frames.specs.declared.Entry.{Entry}
use Rattle.lists.specs.Tables.{with_entry}
use Rattle.records.specs.declared.BoxRecord.{BoxRecord}

-- The entry is unordered in its place, and all else stays.
abbrev pub held_row : Entry → BoxRecord → BoxRecord
held_row e r = record { n = r.n; f = r.f; seat = r.seat; awaited = r.awaited; log = r.log; unordered = with_entry e r.unordered; last = r.last; doubt = r.doubt; on = r.on; turn = r.turn }

-- The turn is closed and the box awaits its next round; all else stays.
abbrev pub passed_row : BoxRecord → BoxRecord
passed_row r = record { n = r.n; f = r.f; seat = r.seat; awaited = r.awaited + r.n; log = r.log; unordered = r.unordered; last = r.last; doubt = r.doubt; on = r.on; turn = None }

-- The turn is closed and the box is off; all else stays.
abbrev pub forfeited_row : BoxRecord → BoxRecord
forfeited_row r = record { n = r.n; f = r.f; seat = r.seat; awaited = r.awaited; log = r.log; unordered = r.unordered; last = r.last; doubt = r.doubt; on = false; turn = None }
