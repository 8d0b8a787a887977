-- The form of a text line: two digits, a space, and a frame's line.
use Rattle.std.specs.Prelude.{ℕ, ◌+◌, ◌*◌, cond, List, drop, Ok, Err, Result, ◌==◌, slice_index}
use Rattle.std.specs.Option.{ok_or}
use Rattle.frames.specs.Rows.{plan_row}
use Rattle.lines.specs.Digits.{digit_value}
use Rattle.lines.specs.Rows.{line_row}
use Rattle.inspect.specs.declared.texts.Split.{Split}
use Rattle.inspect.specs.declared.texts.TextFault.{TextFault}
use Rattle.inspect.specs.declared.texts.TextFault.TheVariants as fault

-- 8: with the column at fault; a plan's or a line's fault keeps its own number and values
abbrev pub text_row : TextFault → ℕ
text_row (fault.Form column) = 8
text_row (fault.Plan e) = plan_row e
text_row (fault.Line e) = line_row e

-- past the end there is no digit and no space
abbrev pub digit_at : List ℕ → ℕ → Result ℕ TextFault
digit_at cs k = ok_or (digit_value (slice_index cs k)) (fault.Form k)

abbrev pub and_then : {A B : Type 0} → Result A TextFault → (A → Result B TextFault) → Result B TextFault
and_then (Ok a) f = f a
and_then (Err e) f = Err e

-- the plan byte and the frame's line of a text line
abbrev pub split_as : List ℕ → Result (ℕ × List ℕ) TextFault
split_as cs =
    and_then (digit_at cs 0) (λ high.
    and_then (digit_at cs 1) (λ low.
    cond (slice_index cs 2 == 32) (Ok (16 * high + low, drop 3 cs)) (Err (fault.Form 2))))

-- the parts of a text line by the bytes that they borrow
abbrev pub parted : Result Split TextFault → Result (ℕ × List ℕ) TextFault
parted (Ok s) = Ok (s.byte, s.line.now)
parted (Err e) = Err e
