-- What writing answers, and what it leaves in the buffer.
use Rattle.std.specs.Prelude.{◌≡◌, ℕ, cond, List, ◌++◌, length, take, drop, Some, None, Ok, Err, sum, Option, Result, ◌==◌, nat_lt}
use Rattle.std.specs.Option.{option_map}
use Rattle.frames.specs.declared.plan.Plan.{Plan}
use Rattle.frames.specs.declared.FrameFault.{FrameFault}
use Rattle.frames.specs.declared.Cause.{Cause}
use Rattle.frames.specs.declared.Cause.TheVariants as cause
use Rattle.frames.specs.Contents.{Content, frame_most, bytes_of}
use Rattle.frames.specs.Contents.Content.{token}
use Rattle.frames.specs.Reading.{read_as}
use Rattle.frames.specs.Rows.{frame_row}
use Rattle.writing.specs.Parted.{drafted}
use Rattle.writing.specs.declared.Draft.{Draft}
use Rattle.writing.specs.declared.WriteFault.{WriteFault}
use Rattle.writing.specs.declared.WriteFault.TheVariants as refused

-- the number of each refusal; a frame's fault carries its place and its cause
abbrev pub write_row : WriteFault → ℕ
write_row refused.Short = 1
write_row (refused.Frame e) = frame_row e

abbrev pub fault_of : {A : Type 0} → Result A FrameFault → Option FrameFault
fault_of (Ok c) = None
fault_of (Err e) = Some e

-- contents are at fault where their bytes are
abbrev pub content_fault : Plan → Content → Option FrameFault
content_fault p c = fault_of (read_as p (bytes_of p c))

abbrev pub fault : ℕ → Cause → Option FrameFault
fault k c = Some (record { place = k; cause = c })

-- What can be no contents: more proposed entries or decisions than their count byte can tell,
-- or lengths of decisions that do not add up to the entries. It is a fault of the count's byte.
abbrev pub shape_fault : ℕ → List ℕ → ℕ → Option FrameFault
shape_fault proposed lengths entries =
    cond (nat_lt 255 proposed) (fault 8 cause.Range) (cond (nat_lt 255 (length lengths)) (fault 9 cause.Range) (cond (sum lengths == entries) None (fault 9 cause.Length)))

abbrev pub first_of : {A : Type 0} → Option A → Option A → Option A
first_of None next = next
first_of (Some e) next = Some e

-- the first fault of a draft: of its shape, or of its bytes
abbrev pub draft_fault : Plan → Draft → Option FrameFault
draft_fault p d = first_of (shape_fault (length d.proposal.now) d.lengths.now (length d.entries.now)) (content_fault p (token (drafted d)))

-- a frame's buffer has 1,060 bytes at least
abbrev pub refusal : List ℕ → Option FrameFault → Option WriteFault
refusal out e = cond (nat_lt (length out) frame_most) (Some refused.Short) (option_map refused.Frame e)

abbrev pub answer : Option WriteFault → List ℕ → Result ℕ WriteFault
answer None bs = Ok (length bs)
answer (Some e) bs = Err e

-- the bytes at the front, the further bytes left; after a refusal all are
abbrev pub buffer : Option WriteFault → List ℕ → List ℕ → List ℕ
buffer None bs out = bs ++ drop (length bs) out
buffer (Some e) bs out = out

-- what was written reads back as the same contents
abbrev pub ReadsBack : Plan → Content → Result ℕ WriteFault → List ℕ → Type 0
ReadsBack p c (Ok n) out = read_as p (take n out) ≡ Ok c
ReadsBack p c (Err e) out = Unit {0}

-- What writing contents does, whose fault, if they have one, is `e`: its answer, and the buffer after it.
pub record Writes (p : Plan) (c : Content) (e : Option FrameFault) (out after : List ℕ) (r : Result ℕ WriteFault) : Type 0 where
  pub answered : r ≡ answer (refusal out e) (bytes_of p c)
  pub left : after ≡ buffer (refusal out e) (bytes_of p c) out
  pub back : ReadsBack p c r after
