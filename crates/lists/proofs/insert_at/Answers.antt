use Rattle.lists.proofs.Inserts.{moved_up}
use Rattle.lists.proofs.insert_at.Goals as goal

pub returns : goal.returns
returns c = moved_up c.args.items.now c.args.place c.args.e c.rotate_right.new.self c.requires c.rotate_right.ensures.after
