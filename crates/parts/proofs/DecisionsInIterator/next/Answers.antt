use Rattle.std.proofs.Common.{◌≡◌, ◌∷◌, length, sym, ap, ◌∙◌, arith}
use Rattle.parts.specs.Going.{decisions_of}
use Rattle.parts.proofs.Splits.{decisions_more}
use Rattle.parts.proofs.DecisionsInIterator.next.Goals as goal

more : (c : goal.After-new) → c.args.self.now ≡ c.new.result ∷ decisions_of c.in_ok-split.split.rest.now
more c =
    let s = c.in_ok-split.split in
    sym c.self.view_is ∙ decisions_more c.self.inside.decisions.now (s.first.now, s.rest.now) (sym c.in_ok-split.ensures.value)
    ∙ ap (λ z. z ∷ decisions_of s.rest.now) (sym c.new.ensures.value)

pub returns-clause-steps : goal.returns-clause-steps
returns-clause-steps c = more c

pub returns-clause-goes : goal.returns-clause-goes
returns-clause-goes c = let fewer = ap length (more c) in record { on = λ _. (tt, tt, omega arith); keeps = tt; rests = λ _. tt }
