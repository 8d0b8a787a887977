use Rattle.std.proofs.Common.{◌≡◌, map, take, drop}
use Rattle.lines.proofs.Steps.{byte_of}
use Rattle.lines.proofs.put_bytes.Given as goal

-- what is written are the bytes of the pairs so far, and the further ones are left
abbrev pub invariant-loop-i : goal.invariant-loop-i
invariant-loop-i l = (take l.i l.out ≡ map byte_of (take l.i l.pairs)) × (drop l.i l.out ≡ drop l.i l.initial.out)
