use Rattle.std.proofs.Common.{◌≡◌, ◌-◌}
use Rattle.parts.specs.Going.{decision_at}
use Rattle.parts.proofs.decision_at.Given as goal

-- what is left gives what the whole gives
abbrev pub invariant-loop : goal.invariant-loop
invariant-loop l = decision_at (l.k - l.counter) l.left ≡ decision_at l.k l.decisions
