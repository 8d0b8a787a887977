-- Of the refusals that fit a call, the one with the lowest number is answered.
use Rattle.std.specs.Prelude.{◌≡◌, ℕ, ◌<◌, ◌≤◌, Bool, true, ◌⊎◌, List, length, Some, None, Option}
use Rattle.frames.specs.declared.Cause.TheVariants as cause
use Rattle.links.specs.declared.LinkFault.{LinkFault}
use Rattle.links.specs.declared.LinkFault.TheVariants as fault
use Rattle.links.specs.Mail.{longest, boxes}
use Rattle.links.specs.Rows.{link_row}
use Rattle.links.specs.Calls.{box_fault, post_fault, place_fault, copy_fault}

-- when each refusal fits, whether or not others do

abbrev pub CountFits : ℕ → LinkFault → Type 0
CountFits to fault.Short = ⊥
CountFits to fault.Box = boxes ≤ to
CountFits to fault.Place = ⊥
CountFits to fault.Full = ⊥
CountFits to (fault.Frame e) = ⊥

abbrev pub PostFits : ℕ → Bool → List ℕ → LinkFault → Type 0
PostFits to full frame fault.Short = ⊥
PostFits to full frame fault.Box = boxes ≤ to
PostFits to full frame fault.Place = ⊥
PostFits to full frame fault.Full = full ≡ true
PostFits to full frame (fault.Frame e) = (e.cause ≡ cause.Length) × (((length frame ≡ 0) × (e.place ≡ 0)) ⊎ ((longest < length frame) × (e.place ≡ longest)))

abbrev pub PlaceFits : ℕ → ℕ → ℕ → LinkFault → Type 0
PlaceFits to waiting place fault.Short = ⊥
PlaceFits to waiting place fault.Box = boxes ≤ to
PlaceFits to waiting place fault.Place = waiting ≤ place
PlaceFits to waiting place fault.Full = ⊥
PlaceFits to waiting place (fault.Frame e) = ⊥

abbrev pub CopyFits : ℕ → ℕ → ℕ → List ℕ → LinkFault → Type 0
CopyFits to waiting place out fault.Short = length out < longest
CopyFits to waiting place out fault.Box = boxes ≤ to
CopyFits to waiting place out fault.Place = waiting ≤ place
CopyFits to waiting place out fault.Full = ⊥
CopyFits to waiting place out (fault.Frame e) = ⊥

abbrev pub Topmost : (LinkFault → Type 0) → Option LinkFault → Type 0
Topmost fits None = (e : LinkFault) → fits e → ⊥
Topmost fits (Some f) = fits f × ((e : LinkFault) → fits e → link_row f ≤ link_row e)

pub record TopmostAnswered : Type 0 where
  pub counts : (to : ℕ) → Topmost (CountFits to) (box_fault to)
  pub posts : (to : ℕ) (full : Bool) (frame : List ℕ) → Topmost (PostFits to full frame) (post_fault to full frame)
  pub places : (to waiting place : ℕ) → Topmost (PlaceFits to waiting place) (place_fault to waiting place)
  pub copies : (to waiting place : ℕ) (out : List ℕ) → Topmost (CopyFits to waiting place out) (copy_fault to waiting place out)
