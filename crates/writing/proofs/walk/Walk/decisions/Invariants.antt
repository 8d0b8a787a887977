use Rattle.std.proofs.Common.{◌≡◌, ℕ, ◌+◌, ◌-◌, ◌*◌, List, ◌++◌, length, drop, sum}
use Rattle.std.specs.List.{flat_map, AllByRecursion}
use Rattle.frames.specs.declared.plan.Plan.{Plan}
use Rattle.frames.specs.Contents.{Whole, decision_bytes, parted}
use Rattle.frames.specs.Reading.{decisions_as}
use Rattle.reading.specs.Ids.{Met}
use Rattle.writing.specs.Walking.{rest_of}
use Rattle.writing.proofs.walk.Walk.decisions.Given as goal

-- what is left to walk gives what the whole gives
abbrev pub invariant-loop-length : goal.invariant-loop-length
invariant-loop-length l = record {
  adds_up : sum (drop l.length-index l.length-items) ≡ length l.entries;
  place : l.self.at + (length l.length-items - l.length-index + 9 * length l.entries) ≡ l.initial.self.at + (length l.length-items + 9 * length l.initial.entries);
  whole : AllByRecursion Whole l.entries → AllByRecursion Whole l.initial.entries;
  left_gives : (p : Plan) (left met : List ℕ) → Met p met l.initial.self.ids → (now : List ℕ) × Met p now l.self.ids
      × (decisions_as p (length l.length-items - l.length-index) (rest_of l.self (flat_map decision_bytes (parted (drop l.length-index l.length-items) l.entries) ++ left) now)
      ≡ decisions_as p (length l.length-items) (rest_of l.initial.self (flat_map decision_bytes (parted l.length-items l.initial.entries) ++ left) met));
}
