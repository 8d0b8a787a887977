use Rattle.std.proofs.Common.{◌≡◌, ℕ, List, ◌++◌}
use Rattle.std.specs.Fmt.{HasWritten, IsPlainFormatter}
use Rattle.parts.specs.Going.{entries_of}
use Rattle.inspect.specs.Telling.{entry_lines, prefix_of}
use Rattle.inspect.proofs.words.EntryLinesDisplay.fmt.Given as goal

-- what is written and the lines of the entries that are left are all the lines
abbrev pub invariant-loop-entry : goal.invariant-loop-entry
invariant-loop-entry g l =
    IsPlainFormatter l.initial.f → (done : List ℕ) × HasWritten g.W.Write.write_str_gives l.initial.f done l.f
    × (done ++ entry_lines (prefix_of l.role) l.entry-iterator ≡ entry_lines (prefix_of l.role) (entries_of l.self.part.now))
