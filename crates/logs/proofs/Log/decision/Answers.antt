use Rattle.std.proofs.Common.{◌≡◌, List, ◌∙◌, Bor, arith}
use Rattle.std.proofs.lemmas.Grind.{common_steps}
use Rattle.std.specs.Option.{option_map}
use Rattle.frames.specs.declared.Entry.{Entry}
use Rattle.logs.specs.Logs.{decision_at}
use Rattle.logs.proofs.Decisions.{decision_means}
use Rattle.logs.proofs.Log.decision.Goals as goal

pub returns-in_err-length-clause-meaning : goal.returns-in_err-length-clause-meaning
returns-in_err-length-clause-meaning c =
    let part : option_map (λ (x : Bor (List Entry)). x.now) c.from_residual.result ≡ decision_at c.args.self.now c.args.k = grind (arith, common_steps) in
    λ q. part ∙ decision_means c.args.self.now c.args.k q

pub returns-clause-meaning : goal.returns-clause-meaning
returns-clause-meaning c =
    let part : option_map (λ (x : Bor (List Entry)). x.now) c.get-2.result ≡ decision_at c.args.self.now c.args.k = grind (arith, common_steps) in
    λ q. part ∙ decision_means c.args.self.now c.args.k q
