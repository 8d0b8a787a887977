-- Each call of a box whole: its refusals, the topmost row first, its answer, and the record after it.
-- `kept` is whether the record keeps the rules of its plan and seat.
use Rattle.std.specs.Prelude.{◌≡◌, ℕ, Bool, true, false, cond, not, ◌&&◌, List, [], ◌++◌, length, drop, Some, None, Ok, Err, Option, Result, ◌==◌, nat_le, nat_lt}
use Rattle.frames.specs.declared.plan.Plan.{Plan}
use Rattle.frames.specs.declared.FrameFault.{FrameFault}
use Rattle.frames.specs.Contents.{Token, Content, bytes_of}
use Rattle.frames.specs.Contents.Content.{token}
use Rattle.frames.specs.Reading.{read_as}
use Rattle.boxes.specs.declared.Outcome.{Outcome}
use Rattle.boxes.specs.declared.BoxFault.{BoxFault}
use Rattle.boxes.specs.declared.BoxFault.TheVariants as fault
use Rattle.boxes.specs.Boxes.{Turn, Box, Keeps, passed}
use Rattle.boxes.specs.Turns.{doubting, off, passing, forfeiting, next_id, sending}
use Rattle.boxes.specs.Handling.{is_open, answer, box_after}

-- The value is what `f` says of whether the record keeps the rules of this plan and seat.
abbrev pub Judged : {X : Type 0} → Plan → (seat : ℕ) → Box → (Bool → X) → X → Type 0
Judged p seat b f x = (Keeps p seat b → x ≡ f true) × ((Keeps p seat b → ⊥) → x ≡ f false)

-- The fault, or the answer if there is none.
abbrev pub refused_or : {A : Type 0} → Option BoxFault → A → Result A BoxFault
refused_or None a = Ok a
refused_or (Some e) a = Err e

-- The record as it was at a fault, or what it becomes if there is none.
abbrev pub stayed_or : Option BoxFault → (was becomes : Box) → Box
stayed_or None was becomes = becomes
stayed_or (Some e) was becomes = was

-- The refusal of a call on a box that is to be on: rows 2 and 4.
abbrev pub off_fault : Box → (kept : Bool) → Option BoxFault
off_fault b kept = cond (not kept) (Some fault.Plan) (cond (not b.on) (Some fault.Off) None)

-- The refusal of a send: also row 7, after serial 15.
abbrev pub send_fault : Box → (kept : Bool) → Option BoxFault
send_fault b kept = cond (not kept) (Some fault.Plan) (cond (not b.on) (Some fault.Off) (cond (nat_le 15 b.last) (Some fault.Serials) None))

-- A send answers the order's id, takes the serial and adds the order to the unordered entries.
abbrev pub send_call : Box → (kept : Bool) → Result ℕ BoxFault
send_call b kept = refused_or (send_fault b kept) (next_id b)

-- The record after a send.
abbrev pub send_after : Box → (kept : Bool) → (body : List ℕ) → Box
send_after b kept body = stayed_or (send_fault b kept) b (sending b body)

-- What a box answers to bytes that were read: row 9 carries the frame's fault whole.
abbrev pub read_answer : Plan → Box → Result Content FrameFault → Result (Outcome (Unit {0})) BoxFault
read_answer p b (Ok c) = answer p b c
read_answer p b (Err e) = Err (fault.Frame e)

-- The record after bytes that were read.
abbrev pub read_after : Plan → Box → Result Content FrameFault → Box
read_after p b (Ok c) = box_after p b c
read_after p b (Err e) = b

-- A frame: rows 2, 4 and 9, and then what the box makes of its contents.
abbrev pub frame_call : Plan → Box → (kept : Bool) → (bytes : List ℕ) → Result (Outcome (Unit {0})) BoxFault
frame_call p b kept bytes = cond (not kept) (Err fault.Plan) (cond (not b.on) (Err fault.Off) (read_answer p b (read_as p bytes)))

-- The record after a frame.
abbrev pub frame_after : Plan → Box → (kept : Bool) → (bytes : List ℕ) → Box
frame_after p b kept bytes = cond (kept && b.on) (read_after p b (read_as p bytes)) b

-- Doubting and trusting the predecessor, and switching off, have nothing to answer.
abbrev pub state_call : Box → (kept : Bool) → Result (Unit {0}) BoxFault
state_call b kept = refused_or (off_fault b kept) tt

-- The record after a doubt or a trust.
abbrev pub doubt_after : (doubt : Bool) → Box → (kept : Bool) → Box
doubt_after doubt b kept = stayed_or (off_fault b kept) b (doubting doubt b)

-- The record after switching off.
abbrev pub off_after : Box → (kept : Bool) → Box
off_after b kept = stayed_or (off_fault b kept) b (off b)

-- The turn of this seat and this round is the record's open one.
abbrev pub is_turn_of : Box → (seat round : ℕ) → Bool
is_turn_of b seat round = is_open b.turn && (seat == b.seat && round == b.awaited)

-- The refusal of a pass: row 1 if the buffer has under 1,060 bytes, rows 2 and 4, and row 14.
abbrev pub pass_fault : Box → (kept : Bool) → (room seat round : ℕ) → Option BoxFault
pass_fault b kept room seat round =
    cond (nat_lt room 1060) (Some fault.Short)
    (cond (not kept) (Some fault.Plan)
    (cond (not b.on) (Some fault.Off)
    (cond (not (is_turn_of b seat round)) (Some fault.Turn) None)))

-- The bytes of the token that an open turn passes.
abbrev pub turn_bytes : Plan → Box → Option Turn → List ℕ
turn_bytes p b None = []
turn_bytes p b (Some t) = bytes_of p (token (passed b t))

-- A pass answers how many bytes the token has, and awaits the next round.
abbrev pub pass_call : Plan → Box → (kept : Bool) → (room seat round : ℕ) → Result ℕ BoxFault
pass_call p b kept room seat round = refused_or (pass_fault b kept room seat round) (length (turn_bytes p b b.turn))

-- The record after a pass.
abbrev pub pass_after : Box → (kept : Bool) → (room seat round : ℕ) → Box
pass_after b kept room seat round = stayed_or (pass_fault b kept room seat round) b (passing b)

-- Bytes at the front of a buffer, whose further bytes stay.
abbrev pub at_front : List ℕ → List ℕ → List ℕ
at_front bytes buffer = bytes ++ drop (length bytes) buffer

-- The buffer as it was at a fault, or with these bytes at its front if there is none.
abbrev pub written_or : Option BoxFault → (buffer bytes : List ℕ) → List ℕ
written_or None buffer bytes = at_front bytes buffer
written_or (Some e) buffer bytes = buffer

-- A pass writes the token to the front of the buffer.
abbrev pub pass_writes : Plan → Box → (kept : Bool) → (seat round : ℕ) → (buffer : List ℕ) → List ℕ
pass_writes p b kept seat round buffer = written_or (pass_fault b kept (length buffer) seat round) buffer (turn_bytes p b b.turn)

-- The refusal of a forfeit: rows 2 and 14; the box may be off.
abbrev pub forfeit_fault : Box → (kept : Bool) → (seat round : ℕ) → Option BoxFault
forfeit_fault b kept seat round = cond (not kept) (Some fault.Plan) (cond (not (is_turn_of b seat round)) (Some fault.Turn) None)

-- A forfeit has nothing to answer.
abbrev pub forfeit_call : Box → (kept : Bool) → (seat round : ℕ) → Result (Unit {0}) BoxFault
forfeit_call b kept seat round = refused_or (forfeit_fault b kept seat round) tt

-- The record after a forfeit.
abbrev pub forfeit_after : Box → (kept : Bool) → (seat round : ℕ) → Box
forfeit_after b kept seat round = stayed_or (forfeit_fault b kept seat round) b (forfeiting b)

-- The token with which box 0 starts the ring: round 0, 1 vote, nothing proposed or decided.
abbrev pub first_token : Token
first_token = record { sender = 0; stamp = 1; votes = 1; proposal = []; decisions = [] }

-- The dummy of box j.
abbrev pub dummy_of : ℕ → Token
dummy_of j = record { sender = j; stamp = 0; votes = 0; proposal = []; decisions = [] }
