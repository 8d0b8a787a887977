-- How each kind of order moves a head.
use Rattle.std.proofs.Common.{◌≡◌, true, ◌⊎◌, pos, ◌+ℤ◌, ◌*ℤ◌, is_some, unwrap_or, inl, inr, arith}
use lib.IntN.{+ℤ_assoc, +ℤ_idr}
use Rattle.std.proofs.lemmas.Bool.Decides.{nat_tests}
use Rattle.machines.specs.declared.heads.Head.{Head}
use Rattle.machines.specs.Orders.{Order, order_in}
use Rattle.machines.specs.HeadRules.{head_after, right_ascension}
use Rattle.machines.specs.HeadLaws.{HeadMovesAsTold}

module _ (r : Head) (o : Order) where
  runs : o.kind ≡ 0x03 → is_some (head_after r o) ≡ true → right_ascension (unwrap_or (head_after r o) r) ≡ right_ascension r +ℤ r.rate *ℤ pos o.first
  runs kind done = rw kind (grind (arith, nat_tests, +ℤ_assoc))

  tracks : o.kind ≡ 0x02 → right_ascension (unwrap_or (head_after r o) r) ≡ right_ascension r
  tracks kind = rw kind (grind (arith, nat_tests, +ℤ_idr))

  stops : o.kind ≡ 0x04 → right_ascension (unwrap_or (head_after r o) r) ≡ right_ascension r
  stops kind = rw kind (grind (arith, nat_tests))

  declines : (o.kind ≡ 0x01 → ⊥) → (o.kind ≡ 0x05 → ⊥) → (unwrap_or (head_after r o) r).declination ≡ r.declination
  declines slews parks = grind (arith, nat_tests)

stays : (r : Head) (o : Order) → (o.kind ≡ 0x02) ⊎ (o.kind ≡ 0x04) → right_ascension (unwrap_or (head_after r o) r) ≡ right_ascension r
stays r o (inl kind) = tracks r o kind
stays r o (inr kind) = stops r o kind

pub head_moves_as_told : HeadMovesAsTold
head_moves_as_told r body = record { run_moves = runs r (order_in body); stays_put = stays r (order_in body); keeps_declination = declines r (order_in body) }
