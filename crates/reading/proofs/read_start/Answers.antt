use Rattle.std.proofs.Common.{sym, arith}
use Rattle.reading.proofs.Start.{started, named}
use Rattle.reading.proofs.read_start.Goals as goal

pub returns : goal.returns
returns c =
    started c.args.plan.now c.args.bytes.now _ _ (sym c.in_ok-kind_byte.ensures) (sym c.in_ok-plan_byte.ensures) (omega arith)
    c.in_ok-kind.kind (named _ _ c.try_from.result c.in_ok-kind.ensures.cases (λ e h. h) c.try_from.ensures)
