-- The number of each refusal; a frame's fault has its place and cause for values.
use Rattle.std.specs.Prelude.{ℕ}
use Rattle.frames.specs.Rows.{frame_row}
use Rattle.links.specs.declared.LinkFault.{LinkFault}
use Rattle.links.specs.declared.LinkFault.TheVariants as fault

abbrev pub link_row : LinkFault → ℕ
link_row fault.Short = 1
link_row fault.Box = 3
link_row fault.Place = 5
link_row fault.Full = 6
link_row (fault.Frame e) = frame_row e
