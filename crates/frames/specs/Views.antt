-- A frame that was read, by the lists that it borrows.
use Rattle.std.specs.Prelude.{◌≡◌, ℕ, List, length, Ok, Err, Result}
use Rattle.std.specs.List.{flat_map}
use Rattle.frames.specs.declared.FrameFault.{FrameFault}
use Rattle.frames.specs.declared.plan.Plan.{Plan}
use Rattle.frames.specs.declared.Frame.{Frame}
use Rattle.frames.specs.declared.Frame.TheVariants.{Order, Token}
use Rattle.frames.specs.Contents.{Content, entry_bytes, decision_bytes, Lawful, bytes_of}
use Rattle.frames.specs.Contents.Content.{order, token}

pub data View : Type 0 where
  an_order : (entry : List ℕ) → View
  a_token : (sender stamp votes : ℕ) (proposal : List ℕ) (decided : ℕ) (decisions : List ℕ) → View

abbrev pub view_of : Frame → View
view_of (Order e) = an_order e.now
view_of (Token s r v p k d) = a_token s r v p.now k d.now

-- contents as a frame shows them: the bytes of their parts
abbrev pub shown : Content → View
shown (order e) = an_order (entry_bytes e)
shown (token t) =
    a_token t.sender t.stamp t.votes (flat_map entry_bytes t.proposal) (length t.decisions) (flat_map decision_bytes t.decisions)

abbrev pub viewed : Result Frame FrameFault → Result View FrameFault
viewed (Ok f) = Ok (view_of f)
viewed (Err e) = Err e

abbrev pub shown_as : Result Content FrameFault → Result View FrameFault
shown_as (Ok c) = Ok (shown c)
shown_as (Err e) = Err e

-- a frame that is handed out shows lawful contents, and the bytes are what those are written as
pub record Shows (p : Plan) (bs : List ℕ) (f : Frame) : Type 0 where
  pub contents : Content
  pub lawful : Lawful p contents
  pub written : bytes_of p contents ≡ bs
  pub seen : view_of f ≡ shown contents

abbrev pub ShowsLawful : Plan → List ℕ → Result Frame FrameFault → Type 0
ShowsLawful p bs (Ok f) = Shows p bs f
ShowsLawful p bs (Err e) = Unit {0}
