-- What each call of a link answers and leaves.
use Rattle.std.specs.Prelude.{◌≡◌, ℕ, Bool, true, false, cond, ◌≢◌, List, [], ◌∷◌, ◌++◌, length, drop, Some, None, Ok, Err, Option, Result, MatchOption, ◌==◌, nat_le, nat_lt, slice_index_or}
use Rattle.std.specs.List.{remove}
use Rattle.std.specs.Option.{option_or}
use Rattle.frames.specs.declared.Cause.TheVariants as cause
use Rattle.links.specs.declared.LinkFault.{LinkFault}
use Rattle.links.specs.declared.LinkFault.TheVariants as fault
use Rattle.links.specs.Mail.{Mail, longest, boxes}

-- the fault that a call answers, if any: the topmost that fits

abbrev pub length_fault : List ℕ → Option LinkFault
length_fault frame =
    cond (length frame == 0) (Some (fault.Frame (record { place = 0; cause = cause.Length })))
    (cond (nat_lt longest (length frame)) (Some (fault.Frame (record { place = longest; cause = cause.Length })))
    None)

abbrev pub box_fault : ℕ → Option LinkFault
box_fault to = cond (nat_le boxes to) (Some fault.Box) None

abbrev pub buffer_fault : List ℕ → Option LinkFault
buffer_fault out = cond (nat_lt (length out) longest) (Some fault.Short) None

-- by whether the box is full
abbrev pub post_fault : ℕ → Bool → List ℕ → Option LinkFault
post_fault to full frame = option_or (box_fault to) (cond full (Some fault.Full) (length_fault frame))

-- by how many frames wait for the box
abbrev pub place_fault : ℕ → ℕ → ℕ → Option LinkFault
place_fault to waiting place = option_or (box_fault to) (cond (nat_le waiting place) (Some fault.Place) None)

abbrev pub copy_fault : ℕ → ℕ → ℕ → List ℕ → Option LinkFault
copy_fault to waiting place out = option_or (buffer_fault out) (place_fault to waiting place)

-- the fault, or else the value
abbrev pub answer : {X : Type 0} → Option LinkFault → X → Result X LinkFault
answer None x = Ok x
answer (Some e) x = Err e

-- the frames of the other boxes stay
abbrev pub OthersStay : Mail → ℕ → Mail → Type 0
OthersStay m to m' = (b : ℕ) → b ≢ to → m'.waiting b ≡ m.waiting b

-- a post appends the frame, and frees no box; any box may be full afterwards
pub record Appended (m : Mail) (to : ℕ) (frame : List ℕ) (m' : Mail) : Type 0 where
  pub own : m'.waiting to ≡ m.waiting to ++ frame ∷ []
  pub others : OthersStay m to m'
  pub frees_none : (b : ℕ) → m.full b ≡ true → m'.full b ≡ true

-- a removal takes out just that place, leaves that box not full, and fills no box; others may be freed
pub record Taken (m : Mail) (to place : ℕ) (m' : Mail) : Type 0 where
  pub own : m'.waiting to ≡ remove (m.waiting to) place
  pub others : OthersStay m to m'
  pub freed : m'.full to ≡ false
  pub fills_none : (b : ℕ) → m'.full b ≡ true → m.full b ≡ true

abbrev pub frame_at : Mail → ℕ → ℕ → List ℕ
frame_at m to place = slice_index_or (m.waiting to) place []

-- the calls: with no fault the call is made, else it answers the fault and changes nothing

abbrev pub Posted : {S : Type 0} → (S → Mail) → S → ℕ → List ℕ → Result (Unit {0}) LinkFault → S → Type 0
Posted mail s to frame r s' =
    MatchOption (post_fault to ((mail s).full to) frame)
    ((r ≡ Ok tt) × Appended (mail s) to frame (mail s'))
    (λ e. (r ≡ Err e) × (s' ≡ s))

abbrev pub Removed : {S : Type 0} → (S → Mail) → S → ℕ → ℕ → Result (Unit {0}) LinkFault → S → Type 0
Removed mail s to place r s' =
    MatchOption (place_fault to (length ((mail s).waiting to)) place)
    ((r ≡ Ok tt) × Taken (mail s) to place (mail s'))
    (λ e. (r ≡ Err e) × (s' ≡ s))

abbrev pub Counted : Mail → ℕ → Result ℕ LinkFault → Type 0
Counted m to r = MatchOption (box_fault to) (r ≡ Ok (length (m.waiting to))) (λ e. r ≡ Err e)

abbrev pub Copied : Mail → ℕ → ℕ → List ℕ → Result ℕ LinkFault → List ℕ → Type 0
Copied m to place out r out' =
    MatchOption (copy_fault to (length (m.waiting to)) place out)
    ((r ≡ Ok (length (frame_at m to place))) × (out' ≡ frame_at m to place ++ drop (length (frame_at m to place)) out))
    (λ e. (r ≡ Err e) × (out' ≡ out))
