-- A frame that was read shows lawful contents.
use Rattle.std.proofs.Common.{◌≡◌, ℕ, List, Ok, Err, Result, sym, refl}
use Rattle.frames.specs.declared.FrameFault.{FrameFault}
use Rattle.frames.specs.declared.plan.Plan.{Plan}
use Rattle.frames.specs.declared.Frame.{Frame}
use Rattle.frames.specs.Contents.{Content}
use Rattle.frames.specs.Reading.{read_as}
use Rattle.frames.specs.Views.{viewed, view_of, shown_as, ShowsLawful, Shows}
use Rattle.frames.proofs.Steps.{no_fault}
use Rattle.frames.proofs.Back.{Bytes, back}

pub shows : (p : Plan) (bs : List ℕ) (r : Result Frame FrameFault) → Bytes bs → viewed r ≡ shown_as (read_as p bs) → ShowsLawful p bs r
shows p bs (Err e) b q = tt
shows p bs (Ok f) b q = go (read_as p bs) refl q
  where
    go : (x : Result Content FrameFault) → read_as p bs ≡ x → Ok (view_of f) ≡ shown_as x → Shows p bs f
    go (Ok c) e h = let y = back p bs c b e in record { contents = c; lawful = y.1; written = y.0; seen = cc }
    go (Err d) e h = absurd (no_fault d (view_of f) (sym h))
