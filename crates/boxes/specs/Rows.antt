-- The number of each refusal of a box.
use Rattle.std.specs.Prelude.{ℕ}
use Rattle.frames.specs.Rows.{frame_row}
use Rattle.boxes.specs.declared.BoxFault.{BoxFault}
use Rattle.boxes.specs.declared.BoxFault.TheVariants as fault

-- a frame's fault is carried whole, with its place and its cause
abbrev pub box_row : BoxFault → ℕ
box_row fault.Short = 1
box_row fault.Plan = 2
box_row fault.Off = 4
box_row fault.Serials = 7
box_row (fault.Frame e) = frame_row e
box_row fault.Sender = 10
box_row fault.Open = 11
box_row fault.History = 12
box_row fault.Rounds = 13
box_row fault.Turn = 14
