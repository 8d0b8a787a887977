-- How each call refuses, and what its answer tells of the buffer.
use Rattle.std.specs.Prelude.{◌≡◌, ℕ, ◌≤◌, cond, List, length, take, Some, None, Ok, Err, Option, Result, nat_lt}
use Rattle.frames.specs.declared.FrameFault.{FrameFault}
use Rattle.frames.specs.declared.plan.Plan.{Plan}
use Rattle.frames.specs.Contents.{Content}
use Rattle.frames.specs.Reading.{read_as}
use Rattle.lines.specs.declared.LineFault.{LineFault}
use Rattle.lines.specs.declared.LineFault.TheVariants as fault
use Rattle.lines.specs.Digits.{line_of, bytes_in}
use Rattle.lines.specs.Reads.{frame_room, line_room, line_fault, line_bytes, line_as}

-- the topmost row that fits
abbrev pub first_of : Option LineFault → Option LineFault → Option LineFault
first_of (Some e) later = Some e
first_of None later = later

abbrev pub room_fault : (wanted room : ℕ) → Option LineFault
room_fault wanted room = cond (nat_lt room wanted) (Some fault.Short) None

abbrev pub frame_fault : Result Content FrameFault → Option LineFault
frame_fault (Ok c) = None
frame_fault (Err e) = Some (fault.Frame e)

abbrev pub write_fault : Plan → List ℕ → ℕ → Option LineFault
write_fault p bs room = first_of (room_fault line_room room) (frame_fault (read_as p bs))

abbrev pub bytes_fault : List ℕ → ℕ → Option LineFault
bytes_fault cs room = first_of (room_fault frame_room room) (line_fault cs)

abbrev pub read_fault : Plan → List ℕ → ℕ → Option LineFault
read_fault p cs room = first_of (bytes_fault cs room) (frame_fault (read_as p (bytes_in cs)))

-- a refusal leaves all
abbrev pub kept_or : {A : Type 0} → Option LineFault → A → A → A
kept_or None old new = new
kept_or (Some e) old new = old

-- bytes that read as a frame, the one that the line holds
pub record Holds (p : Plan) (cs bs : List ℕ) : Type 0 where
  pub contents : Content
  pub bytes_read : read_as p bs ≡ Ok contents
  pub line_reads : line_as p cs ≡ Ok contents

-- so many characters at the front of the buffer are a line that holds these bytes
abbrev pub WroteLine : List ℕ → Result ℕ LineFault → List ℕ → Type 0
WroteLine bs (Ok n) out = (n ≤ length out) × (line_bytes (take n out) ≡ Ok bs)
WroteLine bs (Err e) out = Unit {0}

-- so many bytes at the front of the buffer are those of the line, and are written as the same line
abbrev pub ReadBytes : List ℕ → Result ℕ LineFault → List ℕ → Type 0
ReadBytes cs (Ok n) out = (n ≤ length out) × (line_bytes cs ≡ Ok (take n out)) × (line_of (take n out) ≡ cs)
ReadBytes cs (Err e) out = Unit {0}

-- they read as a frame, the one that the line holds
abbrev pub ReadFrame : Plan → List ℕ → Result ℕ LineFault → List ℕ → Type 0
ReadFrame p cs (Ok n) out = Holds p cs (take n out)
ReadFrame p cs (Err e) out = Unit {0}
