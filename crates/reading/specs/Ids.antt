-- The ids of a frame, as they come.
use Rattle.std.specs.Prelude.{◌≡◌, ℕ, cond, ◌||◌, List, Ok, Result, nat_le}
use Rattle.frames.specs.declared.Cause.TheVariants as cause
use Rattle.frames.specs.declared.FrameFault.{FrameFault}
use Rattle.frames.specs.declared.plan.Plan.{Plan}
use Rattle.frames.specs.Contents.{has}
use Rattle.frames.specs.Ids.{Holds}
use Rattle.frames.specs.Reading.{out_of_range, fault_at}
use Rattle.reading.specs.declared.ids.FrameIds.{FrameIds}

-- the ids of a frame for this plan, of which just these were met
pub record Met (p : Plan) (met : List ℕ) (ids : FrameIds) : Type 0 where
  pub for_plan : ids.plan.now ≡ p
  pub holds : Holds ids.met met

-- whether an id may come next, after `last` in its list and these that were met: it is one of the plan's, and it ascends and is new
abbrev pub id_as : Plan → ℕ → List ℕ → ℕ → ℕ → Result (Unit {0}) FrameFault
id_as p last met id place =
    cond (out_of_range p id) (fault_at place cause.Range) (cond (nat_le id last || has id met) (fault_at place cause.Ids) (Ok tt))
