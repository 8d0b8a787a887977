use Rattle.boxes.proofs.Ids.{lists_as_token}
use Rattle.boxes.proofs.lists_as_token.Goals as goal

pub returns : goal.returns
returns c = lists_as_token
