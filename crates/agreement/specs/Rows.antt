-- The number of each refusal of an array.
use Rattle.std.specs.Prelude.{ℕ}
use Rattle.frames.specs.Rows.{frame_row}
use Rattle.agreement.specs.declared.ArrayFault.{ArrayFault}
use Rattle.agreement.specs.declared.ArrayFault.TheVariants as fault

-- a frame's fault is carried whole, with its place and its cause
abbrev pub array_row : ArrayFault → ℕ
array_row fault.Plan = 2
array_row fault.Box = 3
array_row fault.Off = 4
array_row fault.Place = 5
array_row fault.Full = 6
array_row fault.Serials = 7
array_row (fault.Frame e) = frame_row e
array_row fault.Sender = 10
array_row fault.Open = 11
array_row fault.History = 12
array_row fault.Rounds = 13
