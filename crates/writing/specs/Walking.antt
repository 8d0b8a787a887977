-- What walking over contents finds, beside what reading their bytes would.
use Rattle.std.specs.Prelude.{◌≡◌, ℕ, List, Ok, Err, Result}
use Rattle.frames.specs.declared.FrameFault.{FrameFault}
use Rattle.frames.specs.declared.plan.Plan.{Plan}
use Rattle.frames.specs.Reading.{Rest}
use Rattle.reading.specs.Ids.{Met}
use Rattle.writing.specs.declared.walk.Walk.{Walk}

-- where reading stands at a walk's place, before these bytes and once these ids were met
abbrev pub rest_of : Walk → List ℕ → List ℕ → Rest
rest_of w bytes met = record { at = w.at; bytes = bytes; met = met }

-- a walk for this plan stands where reading does, with these bytes left
pub record StandsAt (p : Plan) (s : Rest) (left : List ℕ) (w : Walk) : Type 0 where
  pub rest : s ≡ rest_of w left s.met
  pub met : Met p s.met w.ids

-- what a walk answers, and where it ends, beside what reading gives and the bytes that follow
abbrev pub Walks : Plan → Result Rest FrameFault → List ℕ → Result (Unit {0}) FrameFault → Walk → Type 0
Walks p (Ok s) left r w = (r ≡ Ok tt) × StandsAt p s left w
Walks p (Err e) left r w = r ≡ Err e
