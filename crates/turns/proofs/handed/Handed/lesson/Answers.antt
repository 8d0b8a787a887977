use Rattle.std.proofs.Common.{length, ap, arith}
use Rattle.std.proofs.lemmas.Bool.Decides.{nat_tests}
use Rattle.lists.specs.Tables.{held}
use Rattle.logs.specs.Logs.{lengths_of}
use Rattle.logs.proofs.Parted.{length_parted}
use Rattle.turns.proofs.handed.Handed.lesson.Goals as goal

pub returns-then-own-other : goal.returns-then-own-other
returns-then-own-other c =
    let own = length_parted (lengths_of c.args.self.now.row.now.log) (held c.args.self.now.row.now.log.entries) in
    let other = length_parted (lengths_of c.args.self.now.token.now.log) (held c.args.self.now.token.now.log.entries) in
    let a = ap length c.decision_lengths-own.ensures.meaning in
    let b = ap length c.decision_lengths-other.ensures.meaning in
    rw (own, other, ← a, ← b) (grind (arith, nat_tests))

pub returns-else-own-other : goal.returns-else-own-other
returns-else-own-other c =
    let own = length_parted (lengths_of c.args.self.now.row.now.log) (held c.args.self.now.row.now.log.entries) in
    let other = length_parted (lengths_of c.args.self.now.token.now.log) (held c.args.self.now.token.now.log.entries) in
    let a = ap length c.decision_lengths-own.ensures.meaning in
    let b = ap length c.decision_lengths-other.ensures.meaning in
    rw (own, other, ← a, ← b) (grind (arith, nat_tests))
