use Rattle.std.proofs.Common.{◌≡◌, None}
use Rattle.machines.specs.Orders.{order_in}
use Rattle.machines.specs.HeadRules.{head_after, head_reading}
use Rattle.machines.proofs.heads.HeadMachine.tell.Goals as goal

pub returns-in_default-clause-told : goal.returns-in_default-clause-told
returns-in_default-clause-told c =
    let idle : head_after (head_reading c.args.self.now) (order_in c.args.body.now) ≡ None = cc in
    rw idle
