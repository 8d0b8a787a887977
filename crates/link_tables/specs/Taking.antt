-- Taking a frame into a table.
use Rattle.std.specs.Prelude.{◌≡◌, ℕ, Bool, List, Some, None, Ok, Err, Result}
use Rattle.frames.specs.declared.FrameFault.{FrameFault}
use Rattle.links.specs.declared.LinkFault.{LinkFault}
use Rattle.links.specs.declared.LinkFault.TheVariants as fault
use Rattle.links.specs.Calls.{length_fault, post_fault}
use Rattle.link_tables.specs.declared.slots.Held.{Held}
use Rattle.link_tables.specs.declared.slots.Addressed.{Addressed}
use Rattle.link_tables.specs.Stores.{bytes_of, frame_of}

-- the frame, or the fault of its length
abbrev pub HoldsFrame : List ℕ → Result Held FrameFault → Type 0
HoldsFrame frame (Ok h) = (length_fault frame ≡ None) × (bytes_of h ≡ frame)
HoldsFrame frame (Err e) = length_fault frame ≡ Some (fault.Frame e)

-- what a box that may be full takes of a post, or the fault of the post
abbrev pub TakesPost : ℕ → Bool → List ℕ → Result Addressed LinkFault → Type 0
TakesPost to full frame (Ok a) = (post_fault to full frame ≡ None) × (a.to ≡ to) × (frame_of a ≡ frame)
TakesPost to full frame (Err e) = post_fault to full frame ≡ Some e
