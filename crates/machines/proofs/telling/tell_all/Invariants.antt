use Rattle.std.proofs.Common.{◌≡◌, take}
use Rattle.machines.specs.Telling.{told_all}
use Rattle.machines.proofs.telling.tell_all.Given as goal

abbrev pub invariant-loop-body : goal.invariant-loop-body
invariant-loop-body g l =
    g.M.Machine.reading l.machine ≡ told_all g.M.Machine.told (g.M.Machine.reading l.initial.machine) (take l.body-index l.bodies)
