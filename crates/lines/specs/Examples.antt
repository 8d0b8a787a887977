-- Lines of an array of three boxes with f = 1, worked out.
use Rattle.std.specs.Prelude.{◌≡◌, ℕ, List, [], Ok, Err, codes}
use Rattle.frames.specs.declared.Cause.TheVariants as cause
use Rattle.frames.specs.Examples.{three, dummy, dummy_bytes, round_one, round_one_bytes}
use Rattle.lines.specs.declared.LineFault.TheVariants as fault
use Rattle.lines.specs.Digits.{line_of}
use Rattle.lines.specs.Reads.{line_bytes, line_as}

abbrev pub dummy_line : List ℕ
dummy_line = codes "02310200000000000000"

abbrev pub round_one_line : List ℕ
round_one_line = codes "02310100000002010100010100000064FFFFCE"

pub record WorkedLines : Type 0 where
  pub dummy_written : line_of dummy_bytes ≡ dummy_line
  pub dummy_read : line_as three dummy_line ≡ Ok dummy
  pub round_one_written : line_of (round_one_bytes 1) ≡ round_one_line
  pub round_one_read : line_as three round_one_line ≡ Ok round_one
  pub two_votes : line_as three (codes "02310100000002020100010100000064FFFFCE") ≡ Err (fault.Frame (record { place = 7; cause = cause.Range }))
  pub small_letter : line_bytes (codes "0A0b0") ≡ Err (fault.Line 3)
  pub odd : line_bytes (codes "0A0") ≡ Err (fault.Line 3)
  pub empty : line_bytes [] ≡ Err (fault.Line 0)
