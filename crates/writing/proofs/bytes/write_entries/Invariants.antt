use Rattle.std.proofs.Common.{◌≡◌, ◌*◌, length, take}
use lib.Seq.{paste}
use Rattle.std.specs.List.{flat_map}
use Rattle.frames.specs.Contents.{entry_bytes}
use Rattle.writing.proofs.bytes.write_entries.Given as goal

abbrev pub invariant-loop-i : goal.invariant-loop-i
invariant-loop-i l = record {
  long : length (flat_map entry_bytes (take l.i l.entries)) ≡ 9 * l.i;
  bytes : l.out ≡ paste l.initial.out l.at (flat_map entry_bytes (take l.i l.entries)) (9 * l.i);
}
