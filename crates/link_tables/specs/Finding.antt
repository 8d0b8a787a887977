-- Where a frame of a table is found.
use Rattle.std.specs.Prelude.{◌≡◌, ℕ, List, [], length, take, Some, None, Ok, Err, Result, slice_get}
use denote.Ref.{Bor}
use Rattle.links.specs.declared.LinkFault.{LinkFault}
use Rattle.links.specs.Calls.{box_fault, place_fault, frame_at}
use Rattle.link_tables.specs.declared.slots.Addressed.{Addressed}
use Rattle.link_tables.specs.declared.slots.Held.{Held}
use Rattle.link_tables.specs.declared.slots.Line.{Line}
use Rattle.link_tables.specs.declared.slots.Lines.{Lines}
use Rattle.link_tables.specs.declared.slots.Tray.{Tray}
use Rattle.link_tables.specs.Stores.{bytes_of, frames_for, tray_mail, line_frames, frames_on, lines_mail}

-- slot k of these holds the box's frame at a place
pub record Stands (slots : List Addressed) (to place k : ℕ) (slot : Addressed) : Type 0 where
  pub inside : slice_get slots k ≡ Some slot
  pub before : length (frames_for to (take k slots)) ≡ place
  pub own : slot.to ≡ to

abbrev pub Finds : Tray → ℕ → ℕ → Result (ℕ × Bor Addressed) LinkFault → Type 0
Finds t to place (Ok found) = (place_fault to (length ((tray_mail t).waiting to)) place ≡ None) × Stands t.slots.items to place found.0 found.1.now
Finds t to place (Err e) = place_fault to (length ((tray_mail t).waiting to)) place ≡ Some e

-- the line to a box
abbrev pub HasLine : Lines → ℕ → Result (Bor Line) LinkFault → Type 0
HasLine l to (Ok line) = (box_fault to ≡ None) × (line_frames line.now ≡ frames_on l to)
HasLine l to (Err e) = (box_fault to ≡ Some e) × (frames_on l to ≡ [])

-- the frame at a place of that line
abbrev pub HoldsAtPlace : Lines → ℕ → ℕ → Result (Bor Held) LinkFault → Type 0
HoldsAtPlace l to place (Ok h) = (place_fault to (length (frames_on l to)) place ≡ None) × (bytes_of h.now ≡ frame_at (lines_mail l) to place)
HoldsAtPlace l to place (Err e) = place_fault to (length (frames_on l to)) place ≡ Some e
