use Rattle.std.proofs.Common.{◌≡◌, ◌++◌, length}
use Rattle.lists.specs.Tables.{held}
use Rattle.received.specs.Unpacking.{Logged}
use Rattle.received.proofs.unpack_decisions.Given as goal

-- the log has the decisions that came and counts them and their entries, and the others are left
abbrev pub invariant-loop-decision : goal.invariant-loop-decision
invariant-loop-decision l =
    record {
      parts : l.yielded ++ l.decision-iterator ≡ l.fn.decisions;
      logged : Logged l.yielded l.log;
      decided : l.log.decided ≡ length l.yielded;
      counted : l.log.entries.count ≡ length (held l.log.entries);
    }
