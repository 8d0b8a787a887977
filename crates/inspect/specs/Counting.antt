-- The count of frames and faults.
use Rattle.std.specs.Prelude.{ℕ, ◌+◌, ◌-◌, ◌^◌, min}
use Rattle.inspect.specs.declared.tally.Tally.{Tally}

-- a count stops at the largest number
abbrev pub one_more : ℕ → ℕ
one_more n = min (n + 1) (2 ^ 64 - 1)

abbrev pub one_frame : Tally → Tally
one_frame t = record { frames = one_more t.frames; faults = t.faults }

abbrev pub one_fault : Tally → Tally
one_fault t = record { frames = t.frames; faults = one_more t.faults }
