use Rattle.std.proofs.Common.{refl, arith}
use Rattle.writing.proofs.Steps.{entry_walks}
use Rattle.writing.proofs.walk.Walk.entry.Goals as goal

pub returns-clause-walked : goal.returns-clause-walked
returns-clause-walked c = λ p left met s.
    let take = c.in_ok-take.ensures in
    entry_walks p c.args.self.now _ c.args.id c.args.body.now left met s (omega arith) (take.answer met s.holds) refl c.take.ensures.plan (take.met met s.holds)
