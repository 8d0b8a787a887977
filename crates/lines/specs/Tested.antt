-- What is known once a call's tests have found no fault.
use Rattle.std.specs.Prelude.{◌≡◌, ℕ, ◌*◌, ◌/◌, ◌≤◌, List, length, Ok, Err, Result}
use Rattle.frames.specs.declared.plan.Plan.{Plan}
use Rattle.lines.specs.declared.LineFault.{LineFault}
use Rattle.lines.specs.Digits.{line_of, bytes_in}
use Rattle.lines.specs.Reads.{frame_room, line_bytes}
use Rattle.lines.specs.Calls.{Holds}

abbrev pub Framed : List ℕ → Result (Unit {0}) LineFault → Type 0
Framed bs (Ok u) = (length bs ≤ frame_room) × (line_bytes (line_of bs) ≡ Ok bs)
Framed bs (Err e) = Unit {0}

abbrev pub Writable : List ℕ → ℕ → Result (Unit {0}) LineFault → Type 0
Writable bs room (Ok u) = (2 * length bs ≤ room) × (line_bytes (line_of bs) ≡ Ok bs)
Writable bs room (Err e) = Unit {0}

abbrev pub Readable : List ℕ → ℕ → Result (Unit {0}) LineFault → Type 0
Readable cs room (Ok u) = (length cs / 2 ≤ frame_room) × (frame_room ≤ room) × (line_bytes cs ≡ Ok (bytes_in cs)) × (line_of (bytes_in cs) ≡ cs)
Readable cs room (Err e) = Unit {0}

abbrev pub FrameReadable : Plan → List ℕ → ℕ → Result (Unit {0}) LineFault → Type 0
FrameReadable p cs room (Ok u) = Readable cs room (Ok u) × Holds p cs (bytes_in cs)
FrameReadable p cs room (Err e) = Unit {0}
