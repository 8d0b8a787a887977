-- What is taken out of a frame's bytes.
use Rattle.std.specs.Prelude.{◌≡◌, true, Ok, Err, Result, nat_le}
use Rattle.frames.specs.declared.plan.Plan.{Plan}
use Rattle.frames.specs.declared.FrameFault.{FrameFault}
use Rattle.frames.specs.Contents.{Token, Content, LawfulEntry, LawfulToken}
use Rattle.frames.specs.Contents.Content.{order, token}
use Rattle.lists.specs.Tables.{room, held}
use Rattle.logs.specs.Logs.{adds_up, log_of}
use Rattle.received.specs.declared.ReceivedToken.{ReceivedToken}
use Rattle.received.specs.declared.Received.{Received}
use Rattle.received.specs.declared.Received.TheVariants as out

-- The meaning of a token in tables: lists in their place.
abbrev pub token_of : ReceivedToken → Token
token_of t = record { sender = t.sender; stamp = t.stamp; votes = t.votes; proposal = held t.proposal; decisions = log_of t.log }

abbrev pub content_of : Received → Content
content_of (out.Order e) = order e
content_of (out.Token t) = token (token_of t)

-- The contents, or the fault.
abbrev pub contents_in : Result Received FrameFault → Result Content FrameFault
contents_in (Ok r) = Ok (content_of r)
contents_in (Err e) = Err e

-- The tables hold what they count, and the contents are lawful.
pub record TokenFits (p : Plan) (t : ReceivedToken) : Type 0 where
  pub proposal : nat_le t.proposal.count room ≡ true
  pub log : adds_up t.log ≡ true
  pub lawful : LawfulToken p (token_of t)

abbrev pub HoldsLawful : Plan → Result Received FrameFault → Type 0
HoldsLawful p (Ok (out.Order e)) = LawfulEntry p e
HoldsLawful p (Ok (out.Token t)) = TokenFits p t
HoldsLawful p (Err e) = Unit {0}
