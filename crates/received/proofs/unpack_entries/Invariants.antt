use Rattle.std.proofs.Common.{◌≡◌, ◌++◌}
use Rattle.received.specs.Unpacking.{Tabled}
use Rattle.received.proofs.unpack_entries.Given as goal

-- the entries that came stand in the table, and the others are left
abbrev pub invariant-loop-entry : goal.invariant-loop-entry
invariant-loop-entry l = record { parts : l.yielded ++ l.entry-iterator ≡ l.fn.entries; tabled : Tabled l.yielded l.table }
