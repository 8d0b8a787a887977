-- What a mount's head reads, and what each order makes of its reading.
use Rattle.std.specs.Prelude.{ℕ, Bool, cond, not, ◌&&◌, ◌||◌, List, ℤ, pos, ◌+ℤ◌, ◌*ℤ◌, is_some, Option, ◌==◌, nat_le}
use Rattle.std.specs.Bool.{then_some}
use Rattle.std.specs.Option.{unwrap_or, option_and_then}
use Rattle.machines.specs.declared.heads.Head.{Head}
use Rattle.machines.specs.declared.heads.order.HeadOrder.{HeadOrder}
use Rattle.machines.specs.declared.heads.order.HeadOrder.TheVariants.{Slew, Track, Run, Stop, Park}
use Rattle.machines.specs.Orders.{Order, order_in, within, is_zero}
use Rattle.machines.specs.HeadOrders.{head_order}

-- parked, with zeros
abbrev pub head_fresh : Head
head_fresh = record { mode = 0; rate = pos 0; mark = pos 0; counter = pos 0; declination = pos 0 }

abbrev pub right_ascension : Head → ℤ
right_ascension h = h.mark +ℤ h.counter

-- mode 0 is parked, 1 stopped, 2 tracking
abbrev pub parked : Head → Bool
parked h = h.mode == 0

abbrev pub tracking : Head → Bool
tracking h = h.mode == 2

-- where a head may point
abbrev pub may_point : Head → Bool
may_point h = within 4_000_000 h.mark && within 4_000_000 (right_ascension h) && within 2_000_000 h.declination

-- every field but the mode is 0
abbrev pub zeroed : Head → Bool
zeroed h = is_zero h.rate && is_zero h.mark && is_zero h.counter && is_zero h.declination

-- how a head may stand: parked only with zeros
abbrev pub may_stand : Head → Bool
may_stand h = nat_le h.mode 2 && within 100 h.rate && may_point h && (not (parked h) || zeroed h)

-- a head that may not stand so reads as the fresh one
abbrev pub head_reading : Head → Head
head_reading h = cond (may_stand h) h head_fresh

-- slew: right ascension and declination are set, and the rate is kept
abbrev pub after_slew : Head → ℤ → ℤ → Option Head
after_slew r ascension declination =
    then_some (within 4_000_000 ascension && within 2_000_000 declination)
    (record { mode = 1; rate = r.rate; mark = ascension; counter = pos 0; declination = declination })

-- track, when not parked: the rate is set, and the mark becomes the right ascension
abbrev pub after_track : Head → ℤ → Option Head
after_track r rate =
    then_some (not (parked r) && within 100 rate)
    (record { mode = 2; rate = rate; mark = right_ascension r; counter = pos 0; declination = r.declination })

-- the counter grows by the rate at each tick
abbrev pub moved_by : Head → ℕ → Head
moved_by r ticks =
    record { mode = r.mode; rate = r.rate; mark = r.mark; counter = r.counter +ℤ r.rate *ℤ pos ticks; declination = r.declination }

-- run, while tracking, 1 to 10,000 ticks: if the right ascension stays within its limit
abbrev pub after_run : Head → ℕ → Option Head
after_run r ticks =
    then_some (tracking r && nat_le 1 ticks && nat_le ticks 10_000 && within 4_000_000 (right_ascension (moved_by r ticks)))
    (moved_by r ticks)

-- stop, while tracking
abbrev pub after_stop : Head → Option Head
after_stop r =
    then_some (tracking r)
    (record { mode = 1; rate = r.rate; mark = r.mark; counter = r.counter; declination = r.declination })

-- park, when not parked: the fresh reading
abbrev pub after_park : Head → Option Head
after_park r = then_some (not (parked r)) head_fresh

-- what follows an order, or nothing if it is not done
abbrev pub obeyed : Head → HeadOrder → Option Head
obeyed r (Slew ascension declination) = after_slew r ascension declination
obeyed r (Track rate) = after_track r rate
obeyed r (Run ticks) = after_run r ticks
obeyed r Stop = after_stop r
obeyed r Park = after_park r

-- the same of a body taken apart
abbrev pub head_after : Head → Order → Option Head
head_after r o = option_and_then (obeyed r) (head_order o)

abbrev pub head_done : Head → List ℕ → Bool
head_done r body = is_some (head_after r (order_in body))

abbrev pub head_told : Head → List ℕ → Head
head_told r body = unwrap_or (head_after r (order_in body)) r

-- what a head holds once it is told a body: what follows, or what it held if it is not done
abbrev pub head_left : Head → List ℕ → Head
head_left h body = unwrap_or (head_after (head_reading h) (order_in body)) h
