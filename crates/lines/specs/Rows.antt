-- The number of each refusal, with its values, and its words.
use Rattle.std.specs.Prelude.{ℕ, List, ◌++◌, codes, decimal}
use Rattle.frames.specs.Rows.{frame_row, frame_fault_words}
use Rattle.lines.specs.declared.LineFault.{LineFault}
use Rattle.lines.specs.declared.LineFault.TheVariants as fault

-- 1: the buffer is too short; 8: with the column at fault; a frame's fault keeps its own number, place and cause
abbrev pub line_row : LineFault → ℕ
line_row fault.Short = 1
line_row (fault.Line column) = 8
line_row (fault.Frame e) = frame_row e

-- a fault in words: the place if there is one, and the cause
abbrev pub line_fault_words : LineFault → List ℕ
line_fault_words fault.Short = codes "short"
line_fault_words (fault.Line column) = codes "column " ++ (decimal column ++ codes ", line")
line_fault_words (fault.Frame e) = frame_fault_words e
