use Rattle.std.proofs.Common.{take, rules}
use Rattle.frames.specs.Contents.{ids_of}
use Rattle.lists.proofs.Flags.{marks_next}
use Rattle.lists.proofs.Entries.ids.Goals as goal

pub loop-e-preserved : goal.loop-e-preserved
loop-e-preserved c =
    let k = c.loop-e.e-index in
    let more = c.add.ensures.held (ids_of (take k c.part-e-items.result.now)) c.loop-e.invariant in
    search (rules, marks_next c.add.new.self.flags c.part-e-items.result.now k)
