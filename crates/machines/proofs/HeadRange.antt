-- What a head reads is in range, and an order leaves it so.
use Rattle.std.proofs.Common.{◌≡◌, ℕ, true, List, ℤ, pos, nat_abs, Option, Some, None, unwrap_or, arith}
use lib.IntN.{+ℤ_idr}
use Rattle.std.specs.Option.{option_and_then}
use Rattle.std.proofs.lemmas.Bool.Decides.{nat_tests}
use Rattle.std.proofs.lemmas.Int.{ints}
use Rattle.machines.specs.declared.heads.Head.{Head}
use Rattle.machines.specs.declared.heads.order.HeadOrder.{HeadOrder}
use Rattle.machines.specs.declared.heads.order.HeadOrder.TheVariants.{Slew, Track, Run, Stop, Park}
use Rattle.machines.specs.Orders.{order_in}
use Rattle.machines.specs.HeadOrders.{head_order}
use Rattle.machines.specs.HeadRules.{may_stand, head_reading, head_told, obeyed, zeroed}
use Rattle.machines.specs.HeadLaws.{HeadInRange, HeadStaysInRange}
use Rattle.machines.proofs.Keeping.{all_kept}

zero_is : (z : ℤ) → nat_abs z ≡ 0 → z ≡ pos 0
zero_is z e = omega (arith, ints)

zeros : (h : Head) → zeroed h ≡ true → (h.rate ≡ pos 0) × (h.mark ≡ pos 0) × (h.counter ≡ pos 0) × (h.declination ≡ pos 0)
zeros h e = grind (arith, nat_tests, zero_is)

abbrev pub Stands : Head → Type 0
Stands h = may_stand h ≡ true

pub in_range : (h : Head) → Stands h → HeadInRange h
in_range h e = record {
  mode_known = grind (arith, nat_tests);
  rate_within = grind (arith, nat_tests);
  mark_within = grind (arith, nat_tests);
  ascension_within = grind (arith, nat_tests);
  declination_within = grind (arith, nat_tests);
  parked_with_zeros = λ p. zeros h (grind (arith, nat_tests));
}

-- an order leaves a head that may stand so, done or not
obeyed_keeps : (r : Head) → Stands r → (o : HeadOrder) → Stands (unwrap_or (obeyed r o) r)
obeyed_keeps r h (Slew ascension declination) = grind (arith, nat_tests, +ℤ_idr)
obeyed_keeps r h (Track rate) = grind (arith, nat_tests, +ℤ_idr)
obeyed_keeps r h (Run ticks) = grind (arith, nat_tests)
obeyed_keeps r h Stop = grind (arith, nat_tests)
obeyed_keeps r h Park = grind (arith, nat_tests)

any_keeps : (r : Head) → Stands r → (order : Option HeadOrder) → Stands (unwrap_or (option_and_then (obeyed r) order) r)
any_keeps r h None = h
any_keeps r h (Some o) = obeyed_keeps r h o

told_keeps : (r : Head) (body : List ℕ) → Stands r → Stands (head_told r body)
told_keeps r body h = any_keeps r h (head_order (order_in body))

reading_stands : (h : Head) → Stands (head_reading h)
reading_stands h = grind (arith, nat_tests)

pub head_stays_in_range : HeadStaysInRange
head_stays_in_range h bodies = in_range _ (all_kept Stands head_told told_keeps (head_reading h) bodies (reading_stands h))
