use Rattle.std.proofs.Common.{◌≡◌, pos, ◌*ℤ◌, refl, arith, w32, SFits, to_z, of_z, rules}
use Rattle.std.proofs.lemmas.Int.{ints, to_z-of_z}
use Rattle.machines.proofs.Products.{product_within, product_fits}
use Rattle.machines.proofs.heads.standing.steps.Goals as goal

rate-is : (c : goal.After-from) → to_z w32 (of_z w32 c.from.result) ≡ c.args.rate
rate-is c = search rules

ticks-is : (c : goal.After-from) → to_z w32 c.args.ticks ≡ pos c.args.ticks
ticks-is c = omega (arith, ints)

fits : (c : goal.After-from) → SFits w32 (c.args.rate *ℤ pos c.args.ticks)
fits c = product_fits c.args.rate c.args.ticks c.requires.rate_within c.requires.ticks_within

pub returns : goal.returns
returns c =
    simp (rate-is c, ticks-is c, to_z-of_z w32 (c.args.rate *ℤ pos c.args.ticks) (fits c))
    (record { value = refl; bound = product_within c.args.rate c.args.ticks c.requires.rate_within c.requires.ticks_within })
