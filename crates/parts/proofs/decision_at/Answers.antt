use Rattle.std.proofs.Common.{sym}
use Rattle.parts.proofs.Splits.{past_one}
use Rattle.parts.proofs.decision_at.Goals as goal

pub loop-preserved : goal.loop-preserved
loop-preserved c = past_one c.args.k c.loop.counter c.loop.left.now _ _ c.loop-test.true (sym c.in_ok-left.ensures.value) c.loop.invariant
