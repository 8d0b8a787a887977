use Rattle.history.proofs.Orders.{orders_agree}
use Rattle.history.proofs.orders_agree.Goals as goal

pub returns : goal.returns
returns c = orders_agree
