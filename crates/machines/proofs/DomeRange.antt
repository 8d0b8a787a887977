-- What a dome reads is in the circle, and a turn leaves it there and takes it on by as much.
use Rattle.std.proofs.Common.{ℕ, ◌<◌, List, arith}
use Rattle.std.proofs.lemmas.Int.{ints}
use Rattle.std.proofs.lemmas.Bool.Decides.{nat_tests}
use Rattle.machines.specs.declared.domes.Dome.{Dome}
use Rattle.machines.specs.DomeRules.{dome_reading, dome_told}
use Rattle.machines.specs.DomeLaws.{DomeStaysInRange, DomeTurnsAsTold}
use Rattle.machines.proofs.Keeping.{all_kept}

reading_in_range : (d : Dome) → dome_reading d < 36000
reading_in_range d = grind (arith, nat_tests)

told_keeps : (r : ℕ) (body : List ℕ) → r < 36000 → dome_told r body < 36000
told_keeps r body h = grind (arith, nat_tests, ints)

pub dome_stays_in_range : DomeStaysInRange
dome_stays_in_range d bodies = all_kept (λ a. a < 36000) dome_told told_keeps (dome_reading d) bodies (reading_in_range d)

pub dome_turns_as_told : DomeTurnsAsTold
dome_turns_as_told r body h done = grind (arith, nat_tests, ints)
