use Rattle.std.proofs.Common.{◌≡◌, ◌+◌, ◌-◌, ◌*◌, ◌%◌, ◌≤◌, subst, mod-lt, arith}
use Rattle.frames.proofs.Ring.{back_and_forth}
use Rattle.frames.proofs.plan.Plan.predecessor.Goals as goal

pub returns : goal.returns
returns c =
    let boxes = c.boxes-boxes.ensures in
    let some : 1 ≤ c.boxes-boxes.result = omega arith in
    let step = back_and_forth c.args.i c.args.k c.boxes-boxes.result some in
    record { inside = omega (arith, mod-lt (c.args.i + c.args.k * (c.boxes-boxes.result - 1)) some); back = subst (λ n. ((c.args.i + c.args.k * (c.boxes-boxes.result - 1)) % c.boxes-boxes.result + c.args.k) % n ≡ c.args.i % n) boxes step }
