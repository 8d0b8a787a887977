use Rattle.std.proofs.Common.{arith}
use lib.IntN.{+ℤ_idr}
use Rattle.std.proofs.lemmas.Bool.Decides.{nat_tests}
use Rattle.std.proofs.lemmas.Int.{to_z-of_z}
use Rattle.machines.proofs.heads.standing.Standing.slew.Goals as goal

pub returns : goal.returns
returns c = grind (arith, nat_tests, to_z-of_z, +ℤ_idr)
