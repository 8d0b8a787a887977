-- What a line holds: bytes, and for a plan a frame.
use Rattle.std.specs.Prelude.{ℕ, ◌*◌, ◌%◌, Bool, cond, ◌||◌, List, length, Some, None, Ok, Err, Option, Result, ◌==◌, nat_lt}
use Rattle.frames.specs.declared.FrameFault.{FrameFault}
use Rattle.frames.specs.declared.plan.Plan.{Plan}
use Rattle.frames.specs.Contents.{Content, frame_most}
use Rattle.frames.specs.Reading.{read_as}
use Rattle.lines.specs.declared.LineFault.{LineFault}
use Rattle.lines.specs.declared.LineFault.TheVariants as fault
use Rattle.lines.specs.Digits.{digits_end, bytes_in}

-- no frame is longer
abbrev pub frame_room : ℕ
frame_room = frame_most

abbrev pub line_room : ℕ
line_room = 2 * frame_room

-- a line has a character that is no digit, is empty or odd, or is longer than any frame's
abbrev pub bad_line : List ℕ → Bool
bad_line cs = nat_lt (digits_end cs) (length cs) || (length cs == 0 || (length cs % 2 == 1 || nat_lt line_room (length cs)))

-- the column at fault is where the digits end: at the first other character, else at the line's length
abbrev pub line_fault : List ℕ → Option LineFault
line_fault cs = cond (bad_line cs) (Some (fault.Line (digits_end cs))) None

abbrev pub refused_or : {A : Type 0} → Option LineFault → A → Result A LineFault
refused_or None a = Ok a
refused_or (Some e) a = Err e

-- the bytes of a line
abbrev pub line_bytes : List ℕ → Result (List ℕ) LineFault
line_bytes cs = refused_or (line_fault cs) (bytes_in cs)

abbrev pub then_by : {A B : Type 0} → Result A LineFault → (A → Result B LineFault) → Result B LineFault
then_by (Ok a) f = f a
then_by (Err e) f = Err e

-- a frame's fault, carried whole
abbrev pub carried : {A : Type 0} → Result A FrameFault → Result A LineFault
carried (Ok a) = Ok a
carried (Err e) = Err (fault.Frame e)

-- the contents of the frame in a line
abbrev pub line_as : Plan → List ℕ → Result Content LineFault
line_as p cs = then_by (line_bytes cs) (λ bs. carried (read_as p bs))
