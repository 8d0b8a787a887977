use Rattle.boxes.proofs.Making.{turns_make_tokens}
use Rattle.boxes.proofs.turns_make_tokens.Goals as goal

pub returns : goal.returns
returns c = turns_make_tokens
