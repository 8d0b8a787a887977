-- The order of a head that a body holds.
use Rattle.std.specs.Prelude.{cond, not, ◌&&◌, Option, None, ◌==◌}
use Rattle.std.specs.Bool.{then_some}
use Rattle.machines.specs.declared.heads.order.HeadOrder.{HeadOrder}
use Rattle.machines.specs.declared.heads.order.HeadOrder.TheVariants.{Slew, Track, Run, Stop, Park}
use Rattle.machines.specs.Orders.{Order, signed8, signed24, no_rate, no_first, no_second}

-- 01 slew, 02 track at a rate that is not 0, 03 run, 04 stop, 05 park; nothing of another kind, or with what its kind does not name
abbrev pub head_order : Order → Option HeadOrder
head_order o =
    cond (o.kind == 0x01) (then_some (no_rate o) (Slew (signed24 o.first) (signed24 o.second)))
    (cond (o.kind == 0x02) (then_some (not (no_rate o) && no_first o && no_second o) (Track (signed8 o.rate)))
    (cond (o.kind == 0x03) (then_some (no_rate o && no_second o) (Run o.first))
    (cond (o.kind == 0x04) (then_some (no_rate o && no_first o && no_second o) Stop)
    (cond (o.kind == 0x05) (then_some (no_rate o && no_first o && no_second o) Park) None))))
