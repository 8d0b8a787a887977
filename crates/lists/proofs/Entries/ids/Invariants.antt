use Rattle.std.proofs.Common.{take}
use Rattle.frames.specs.Contents.{ids_of}
use Rattle.frames.specs.Ids.{Holds}
use Rattle.lists.proofs.Entries.ids.Given as goal

abbrev pub invariant-loop-e : goal.invariant-loop-e
invariant-loop-e l = Holds l.ids (ids_of (take l.e-index l.e-items))
