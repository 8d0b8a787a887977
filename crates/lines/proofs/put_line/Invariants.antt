use Rattle.std.proofs.Common.{◌≡◌, ◌*◌, ◌++◌, take, drop}
use Rattle.lines.specs.Digits.{line_of}
use Rattle.lines.proofs.put_line.Given as goal

-- what is written and the line of what is left are the whole line, and the further bytes are left
abbrev pub invariant-loop-i : goal.invariant-loop-i
invariant-loop-i l =
    (take (2 * l.i) l.out ++ line_of (drop l.i l.bytes) ≡ line_of l.bytes)
    × (drop (2 * l.i) l.out ≡ drop (2 * l.i) l.initial.out)
