-- What the code's parts promise of one another while they read.
use Rattle.std.specs.Prelude.{◌≡◌, ℕ, ◌≤◌, cond, List, [], ◌∷◌, length, Ok, Err, Result, nat_lt, slice_index}
use Rattle.frames.specs.declared.Cause.TheVariants as cause
use Rattle.frames.specs.declared.FrameFault.{FrameFault}
use Rattle.frames.specs.declared.FrameKind.{FrameKind}
use Rattle.frames.specs.declared.FrameKind.TheVariants as kind
use Rattle.frames.specs.declared.plan.Plan.{Plan}
use Rattle.frames.specs.Contents.{Content}
pub use Rattle.frames.specs.Contents.{Marks}
use Rattle.frames.specs.Reading.{Rest, fault_at, read_as, order_as, token_as}
use Rattle.reading.specs.Ids.{Met}
use Rattle.reading.specs.declared.reader.Reader.{Reader}

-- where a reader stands, once these ids were met
abbrev pub rest_of : Reader → List ℕ → Rest
rest_of w met = record { at = w.at; bytes = w.rest.now; met = met }

-- a reader for this plan stands where reading does
pub record StandsAt (p : Plan) (s : Rest) (w : Reader) : Type 0 where
  pub rest : s ≡ rest_of w s.met
  pub met : Met p s.met w.ids

-- what a step of a reader answers, and where it leaves it, beside what reading gives
abbrev pub Reads : Plan → Result Rest FrameFault → Result (Unit {0}) FrameFault → Reader → Type 0
Reads p (Ok s) r w = (r ≡ Ok tt) × StandsAt p s w
Reads p (Err e) r w = r ≡ Err e

-- the byte at the reader's place, or the fault that the frame ends there
abbrev pub first_or_end : ℕ → List ℕ → Result ℕ FrameFault
first_or_end at [] = fault_at at cause.Length
first_or_end at (b ∷ bs) = Ok b

-- whether the frame ends at the reader's place
abbrev pub nothing_after : ℕ → List ℕ → Result (Unit {0}) FrameFault
nothing_after at [] = Ok tt
nothing_after at (b ∷ bs) = fault_at at cause.Length

-- the byte at a place of a frame, or the fault that the frame ends before it
abbrev pub byte_as : List ℕ → ℕ → Result ℕ FrameFault
byte_as bs k = cond (nat_lt k (length bs)) (Ok (slice_index bs k)) (fault_at (length bs) cause.Length)

-- what reading does after the kind and plan byte of a frame
abbrev pub kind_as : Plan → List ℕ → FrameKind → Result Content FrameFault
kind_as p bs kind.Order = order_as p bs
kind_as p bs kind.Token = token_as p bs

-- the kind and plan byte are right, and reading goes on by the kind; or they are at fault
abbrev pub Started : Plan → List ℕ → Result FrameKind FrameFault → Type 0
Started p bs (Ok k) = (2 ≤ length bs) × (read_as p bs ≡ kind_as p bs k)
Started p bs (Err e) = read_as p bs ≡ Err e
