use Rattle.std.proofs.Common.{◌≡◌, Some, ap, ◌∙◌, rules}
use Rattle.parts.specs.Going.{split_as, parted}
use Rattle.parts.proofs.Splits.{split_of}
use Rattle.parts.proofs.first_decision.Goals as goal

pub returns-in_err-first-clause-split : goal.returns-in_err-first-clause-split
returns-in_err-first-clause-split c =
    let none : parted c.from_residual-in_err-first.result ≡ split_as c.args.decisions.now = search rules in
    λ d ds w q. none ∙ ap split_as q ∙ split_of d ds w

pub returns-clause-split : goal.returns-clause-split
returns-clause-split c =
    let some : Some (c.in_ok-first.first.now, c.in_ok-first.rest.now) ≡ split_as c.args.decisions.now = search rules in
    λ d ds w q. some ∙ ap split_as q ∙ split_of d ds w
