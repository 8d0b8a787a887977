-- What a dome reads, and what an order makes of its reading.
use Rattle.std.specs.Prelude.{ℕ, Bool, cond, ◌&&◌, List, ℤ, pos, ◌+ℤ◌, is_some, Option, ◌==◌, nat_lt, unsigned_abs}
use Rattle.std.specs.Bool.{then_some}
use Rattle.std.specs.Int.{int_rem_euclid}
use Rattle.std.specs.Option.{unwrap_or}
use Rattle.machines.specs.declared.domes.Dome.{Dome}
use Rattle.machines.specs.Orders.{Order, order_in, signed24, no_rate, no_second, within}

-- the azimuth, and 0, as a fresh dome has it, for one that is out of range
abbrev pub dome_reading : Dome → ℕ
dome_reading d = cond (nat_lt d.azimuth 36_000) d.azimuth 0

-- modulo 36,000, by the remainder that is not negative
abbrev pub turned_by : ℕ → ℤ → ℕ
turned_by azimuth by = unsigned_abs (int_rem_euclid (pos azimuth +ℤ by) (pos 36_000))

-- 11 turn: what follows, or nothing if it is not done
abbrev pub after_turn : ℕ → Order → Option ℕ
after_turn r o =
    then_some (o.kind == 0x11 && no_rate o && within 36_000 (signed24 o.first) && no_second o)
    (turned_by r (signed24 o.first))

abbrev pub dome_done : ℕ → List ℕ → Bool
dome_done r body = is_some (after_turn r (order_in body))

abbrev pub dome_told : ℕ → List ℕ → ℕ
dome_told r body = unwrap_or (after_turn r (order_in body)) r

-- the azimuth that a dome holds once it is told a body: what follows, or what it held if it is not done
abbrev pub dome_left : Dome → List ℕ → ℕ
dome_left d body = unwrap_or (after_turn (dome_reading d) (order_in body)) d.azimuth
