-- What checking a draft finds, beside what reading its bytes would.
use Rattle.std.specs.Prelude.{◌≡◌, ℕ, ◌+◌, ◌*◌, ◌≤◌, List, length, Some, None, Ok, Err, sum, Option, Result}
use Rattle.frames.specs.declared.plan.Plan.{Plan}
use Rattle.frames.specs.declared.FrameFault.{FrameFault}
use Rattle.frames.specs.Contents.{Content, LawfulToken, bytes_of}
use Rattle.frames.specs.Contents.Content.{token}
use Rattle.frames.specs.Reading.{read_as}
use Rattle.reading.specs.declared.head.Head.{Head}
use Rattle.writing.specs.declared.Draft.{Draft}
use Rattle.writing.specs.Parted.{drafted}

-- the numbers of a draft's head
abbrev pub head_of : Draft → Head
head_of d = record { sender = d.sender; stamp = d.stamp; votes = d.votes; proposed = length d.proposal.now; decided = length d.lengths.now }

-- a check answers as reading does: that the contents read as themselves, or the fault
abbrev pub Checks : Result Content FrameFault → Content → Result (Unit {0}) FrameFault → Type 0
Checks w c (Ok u) = w ≡ Ok c
Checks w c (Err e) = w ≡ Err e

-- what holds where no fault was found
abbrev pub Faultless : Option FrameFault → Type 0 → Type 0
Faultless None P = P
Faultless (Some e) P = Unit {0}

-- parts that can be contents: counts that fit a byte, and lengths that add up to the entries
pub record Shaped (proposed : ℕ) (lengths : List ℕ) (entries : ℕ) : Type 0 where
  pub proposed_fits : proposed ≤ 255
  pub decided_fits : length lengths ≤ 255
  pub adds-up : sum lengths ≡ entries

-- a draft without a fault: it has its shape, is lawful, reads back, and fits a frame's buffer
pub record Sound (p : Plan) (d : Draft) : Type 0 where
  pub shaped : Shaped (length d.proposal.now) d.lengths.now (length d.entries.now)
  pub lawful : LawfulToken p (drafted d)
  pub back : read_as p (bytes_of p (token (drafted d))) ≡ Ok (token (drafted d))
  pub room : 10 + 9 * length d.proposal.now + (length d.lengths.now + 9 * length d.entries.now) ≤ 1060

-- a draft that has its shape and is a lawful token
pub record LawfulDraft (p : Plan) (d : Draft) : Type 0 where
  pub shape : Shaped (length d.proposal.now) d.lengths.now (length d.entries.now)
  pub token : LawfulToken p (drafted d)
