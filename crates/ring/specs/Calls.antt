-- What calls of a started box do to its record.
use Rattle.std.specs.Prelude.{◌≡◌, ℕ, ◌+◌, ◌<◌, ◌≤◌, Bool, false, cond, List, length, take, Some, None, Ok, Err, Option, Result, nat_lt}
use Rattle.frames.specs.declared.plan.Plan.{Plan}
use Rattle.frames.specs.declared.Entry.{Entry}
use Rattle.frames.specs.Contents.{frame_most, bytes_of}
use Rattle.frames.specs.Contents.Content.{order}
use Rattle.frames.specs.Reading.{read_as}
use Rattle.lists.specs.Tables.{with_entry}
use Rattle.boxes.specs.declared.BoxFault.{BoxFault}
use Rattle.boxes.specs.declared.BoxFault.TheVariants as fault
use Rattle.boxes.specs.Boxes.{Box}
use Rattle.boxes.specs.Turns.{next_id, next_entry}
use Rattle.boxes.specs.Calls.{refused_or, send_fault}
use Rattle.records.specs.declared.BoxRecord.{BoxRecord}
use Rattle.records.specs.Records.{box_of, KeepsRules}
pub use Rattle.records.specs.Records.{JudgedRow}

-- The record as it was at a fault, or what it becomes if there is none.
abbrev pub kept_row : Option BoxFault → (was becomes : BoxRecord) → BoxRecord
kept_row None was becomes = becomes
kept_row (Some e) was becomes = was

-- The doubt is set, and all else stays.
abbrev pub doubted_row : Bool → BoxRecord → BoxRecord
doubted_row d r = record { n = r.n; f = r.f; seat = r.seat; awaited = r.awaited; log = r.log; unordered = r.unordered; last = r.last; doubt = d; on = r.on; turn = r.turn }

-- The box is off, and all else stays.
abbrev pub off_row : BoxRecord → BoxRecord
off_row r = record { n = r.n; f = r.f; seat = r.seat; awaited = r.awaited; log = r.log; unordered = r.unordered; last = r.last; doubt = r.doubt; on = false; turn = r.turn }

-- The refusal of a box's next order: row 1 if the buffer has under 1,060 bytes, and then as of any send.
abbrev pub own_fault : Box → (room : ℕ) → (kept : Bool) → Option BoxFault
own_fault b room kept = cond (nat_lt room frame_most) (Some fault.Short) (send_fault b kept)

-- A record whose box gives its next order into a buffer of this length.
pub record CanSend (p : Plan) (i : ℕ) (r : BoxRecord) (room : ℕ) : Type 0 where
  pub rules : KeepsRules p i r
  pub left : r.last < 15
  pub fits : frame_most ≤ room

-- It answers the order's id and the length of its frame.
abbrev pub own_call : Plan → Box → (body : List ℕ) → (room : ℕ) → (kept : Bool) → Result (ℕ × ℕ) BoxFault
own_call p b body room kept = refused_or (own_fault b room kept) (next_id b, length (bytes_of p (order (next_entry b body))))

-- The next serial is taken, the order is unordered in its place, and all else stays.
abbrev pub sent_row : List ℕ → BoxRecord → BoxRecord
sent_row body r = record { n = r.n; f = r.f; seat = r.seat; awaited = r.awaited; log = r.log; unordered = with_entry (next_entry (box_of r) body) r.unordered; last = r.last + 1; doubt = r.doubt; on = r.on; turn = r.turn }

-- What stands at the front of the buffer, as long as was answered, reads as this order; of a refusal nothing is said here.
abbrev pub ReadsAs : Plan → Entry → Result (ℕ × ℕ) BoxFault → (buffer : List ℕ) → Type 0
ReadsAs p e (Ok (id, long)) buffer = read_as p (take long buffer) ≡ Ok (order e)
ReadsAs p e (Err f) buffer = Unit {0}
