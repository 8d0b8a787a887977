use Rattle.std.proofs.Common.{◌≡◌, ℕ, ◌-◌, List}
use Rattle.frames.specs.declared.plan.Plan.{Plan}
use Rattle.frames.specs.Reading.{entries_as}
use Rattle.reading.specs.Ids.{Met}
use Rattle.reading.specs.Walking.{rest_of}
use Rattle.reading.proofs.reader.Reader.entries.Given as goal

-- what is left to read gives what the whole gives
abbrev pub invariant-loop : goal.invariant-loop
invariant-loop l =
    (p : Plan) (met : List ℕ) → Met p met l.initial.self.ids → (now : List ℕ) × Met p now l.self.ids
    × (entries_as p (l.count - l.counter) l.self.ids.last (rest_of l.self now) ≡ entries_as p l.count 0 (rest_of l.initial.self met))
