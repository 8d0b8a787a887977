use Rattle.std.proofs.Common.{◌≡◌, false, not, get_or}
use Rattle.frames.specs.declared.Entry.{Entry}
use Rattle.lists.proofs.Stays.{Moving}
use Rattle.lists.proofs.Entries.leave.Given as goal

abbrev pub invariant-loop-k : goal.invariant-loop-k
invariant-loop-k l =
    Moving (λ (e : Entry). not (get_or l.gone.flags e.id false)) l.fn.self.items l.self.items l.kept l.k × (l.self.count ≡ l.fn.self.count)
