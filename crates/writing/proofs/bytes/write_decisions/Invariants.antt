use Rattle.std.proofs.Common.{◌≡◌, ℕ, ◌+◌, ◌-◌, ◌*◌, List, ◌++◌, length, drop, sum}
use lib.Seq.{paste}
use Rattle.std.specs.List.{flat_map}
use Rattle.frames.specs.Contents.{decision_bytes, parted}
use Rattle.writing.proofs.bytes.write_decisions.Given as goal

-- what is written, and what is left, make up the whole
abbrev pub invariant-loop-length : goal.invariant-loop-length
invariant-loop-length l =
    (done : List ℕ) × record {
      adds_up : sum (drop l.length-index l.length-items) ≡ length l.entries;
      long : length done + (length l.length-items - l.length-index + 9 * length l.entries) ≡ length l.length-items + 9 * length l.initial.entries;
      place : l.to ≡ l.at + length done;
      bytes : l.out ≡ paste l.initial.out l.at done (length done);
      whole : flat_map decision_bytes (parted l.length-items l.initial.entries) ≡ done ++ flat_map decision_bytes (parted (drop l.length-index l.length-items) l.entries);
    }
