use Rattle.std.proofs.Common.{◌≡◌, ◌≤◌, All, sum, arith}
use Rattle.std.proofs.lemmas.Grind.{common_steps}
use Rattle.std.proofs.lemmas.List.{get_or_default}
use Rattle.std.proofs.lemmas.List.Sums.{sum_by-le}
use Rattle.logs.proofs.total.Goals as goal

pub returns-clause-small : goal.returns-clause-small
returns-clause-small c =
    let bytes : All (λ x. x ≤ 255) c.args.lengths.now = λ k d h. let byte = c.type_inv.lengths k in omega (arith, get_or_default c.args.lengths.now k d 0 h) in
    let meaning : c.sum.result ≡ sum c.args.lengths.now = grind (arith, common_steps) in
    omega (arith, sum_by-le (λ x. x) 255 c.args.lengths.now bytes)
