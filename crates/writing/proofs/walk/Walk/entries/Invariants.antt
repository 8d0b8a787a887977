use Rattle.std.proofs.Common.{◌≡◌, ℕ, ◌+◌, ◌-◌, ◌*◌, List, ◌++◌, length, take, drop}
use Rattle.std.specs.List.{flat_map, AllByRecursion}
use Rattle.frames.specs.declared.plan.Plan.{Plan}
use Rattle.frames.specs.Contents.{Whole, entry_bytes}
use Rattle.frames.specs.Reading.{entries_as}
use Rattle.reading.specs.Ids.{Met}
use Rattle.writing.specs.Walking.{rest_of}
use Rattle.writing.proofs.walk.Walk.entries.Given as goal

-- what is left to walk gives what the whole gives
abbrev pub invariant-loop-id : goal.invariant-loop-id
invariant-loop-id l = record {
  place : l.self.at ≡ l.initial.self.at + 9 * l.id-index;
  whole : AllByRecursion Whole (take l.id-index l.entries);
  left_gives : (p : Plan) (left met : List ℕ) → Met p met l.initial.self.ids → (now : List ℕ) × Met p now l.self.ids
      × (entries_as p (length l.entries - l.id-index) l.self.ids.last (rest_of l.self (flat_map entry_bytes (drop l.id-index l.entries) ++ left) now)
      ≡ entries_as p (length l.entries) 0 (rest_of l.initial.self (flat_map entry_bytes l.entries ++ left) met));
}
