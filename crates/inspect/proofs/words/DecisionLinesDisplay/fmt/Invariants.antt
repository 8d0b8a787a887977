use Rattle.std.proofs.Common.{◌≡◌, ℕ, ◌+◌, ◌^◌, ◌<◌, List, ◌++◌, length}
use Rattle.std.specs.Fmt.{HasWritten, IsPlainFormatter}
use Rattle.std.specs.Iterator.Adapters.{enumerate_source, enumerate_count}
use Rattle.parts.specs.Going.{decisions_of}
use Rattle.inspect.specs.Telling.{decision_lines}
use Rattle.inspect.proofs.words.DecisionLinesDisplay.fmt.Given as goal

-- what is written and the lines of the decisions that are left are all the lines
abbrev pub invariant-loop-k : goal.invariant-loop-k
invariant-loop-k g l =
    let left = enumerate_source l.k-iterator in
    let count = enumerate_count l.k-iterator in
    (goal.iterator-loop-k g).can_next l.k-iterator × (goal.iterator-loop-k g).is_finite l.k-iterator
    × (count + length left < 2 ^ 64)
    × (IsPlainFormatter l.initial.f → (done : List ℕ) × HasWritten g.W.Write.write_str_gives l.initial.f done l.f
    × (done ++ decision_lines (count + 1) left ≡ decision_lines 1 (decisions_of l.self.0.now)))
