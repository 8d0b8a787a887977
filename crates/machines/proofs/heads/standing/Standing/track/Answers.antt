use Rattle.std.proofs.Common.{arith}
use Rattle.std.proofs.lemmas.Bool.Decides.{nat_tests}
use Rattle.std.proofs.lemmas.Int.{to_z-of_z}
use Rattle.machines.proofs.heads.standing.Standing.track.Goals as goal

pub returns : goal.returns
returns c = grind (arith, nat_tests, to_z-of_z)

pub invariant_of-result : goal.invariant_of-result
invariant_of-result c = grind (arith, nat_tests, to_z-of_z)
