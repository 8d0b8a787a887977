-- Seats, and boxes that were started.
use Rattle.std.specs.Prelude.{◌≡◌, ℕ, ◌-◌, ◌<◌, ◌≤◌, true, false, cond, List, [], length, None, Ok, Err, Result, ◌==◌, nat_le}
use Rattle.frames.specs.declared.plan.Plan.{Plan}
use Rattle.frames.specs.Contents.{frame_most, bytes_of}
use Rattle.frames.specs.Contents.Content.{token}
use Rattle.lists.specs.Tables.{empty}
use Rattle.logs.specs.Logs.{empty_log}
use Rattle.boxes.specs.declared.BoxFault.{BoxFault}
use Rattle.boxes.specs.declared.BoxFault.TheVariants as fault
use Rattle.boxes.specs.Calls.{first_token, dummy_of}
use Rattle.records.specs.declared.BoxRecord.{BoxRecord}
use Rattle.records.specs.Records.{KeepsRules}
use Rattle.ring.specs.declared.seats.Seat.{Seat}
use Rattle.ring.specs.declared.seats.StartedBox.{StartedBox}

-- A plan has the seats below n; any other number is row 2.
abbrev pub Seated : Plan → ℕ → Result Seat BoxFault → Type 0
Seated p i (Ok s) = (s.plan ≡ p) × (s.at ≡ i) × (i < p.n)
Seated p i (Err fault.Short) = ⊥
Seated p i (Err fault.Plan) = p.n ≤ i
Seated p i (Err fault.Off) = ⊥
Seated p i (Err fault.Serials) = ⊥
Seated p i (Err (fault.Frame e)) = ⊥
Seated p i (Err fault.Sender) = ⊥
Seated p i (Err fault.Open) = ⊥
Seated p i (Err fault.History) = ⊥
Seated p i (Err fault.Rounds) = ⊥
Seated p i (Err fault.Turn) = ⊥

-- The started box of a seat.
pub record StartedAs (s : Seat) (b : StartedBox) : Type 0 where
  pub plan : b.plan ≡ s.plan
  pub at : b.at ≡ s.at

-- What a box opens the ring with: box 0 with the token of round 0, the last f boxes with a dummy, the others with nothing.
abbrev pub opening_bytes : Plan → ℕ → List ℕ
opening_bytes p i = cond (i == 0) (bytes_of p (token first_token)) (cond (nat_le (p.n - p.f) i) (bytes_of p (token (dummy_of i))) [])

-- A seat is started, and the length of the opening frame is answered; a buffer that is short is row 1 and hands the seat back.
abbrev pub StartsAs : Seat → (room : ℕ) → Result (StartedBox × ℕ) (BoxFault × Seat) → Type 0
StartsAs s room (Ok (b, long)) = (frame_most ≤ room) × StartedAs s b × (long ≡ length (opening_bytes s.plan s.at))
StartsAs s room (Err (fault.Short, t)) = (room < frame_most) × (t ≡ s)
StartsAs s room (Err (fault.Plan, t)) = ⊥
StartsAs s room (Err (fault.Off, t)) = ⊥
StartsAs s room (Err (fault.Serials, t)) = ⊥
StartsAs s room (Err (fault.Frame e, t)) = ⊥
StartsAs s room (Err (fault.Sender, t)) = ⊥
StartsAs s room (Err (fault.Open, t)) = ⊥
StartsAs s room (Err (fault.History, t)) = ⊥
StartsAs s room (Err (fault.Rounds, t)) = ⊥
StartsAs s room (Err (fault.Turn, t)) = ⊥

-- A record just started: empty, on, awaiting the round of its own number, box 0 the round n.
abbrev pub started_row : Plan → ℕ → BoxRecord
started_row p i = record { n = p.n; f = p.f; seat = i; awaited = cond (i == 0) p.n i; log = empty_log; unordered = empty; last = 0; doubt = false; on = true; turn = None }

-- A seat is taken up by a record that keeps the rules (else row 2) and is on (else row 4); a refusal hands the seat back.
abbrev pub TakenUp : Seat → BoxRecord → Result StartedBox (BoxFault × Seat) → Type 0
TakenUp s r (Ok b) = StartedAs s b × KeepsRules s.plan s.at r × (r.on ≡ true)
TakenUp s r (Err (fault.Short, t)) = ⊥
TakenUp s r (Err (fault.Plan, t)) = (t ≡ s) × (KeepsRules s.plan s.at r → ⊥)
TakenUp s r (Err (fault.Off, t)) = (t ≡ s) × KeepsRules s.plan s.at r × (r.on ≡ false)
TakenUp s r (Err (fault.Serials, t)) = ⊥
TakenUp s r (Err (fault.Frame e, t)) = ⊥
TakenUp s r (Err (fault.Sender, t)) = ⊥
TakenUp s r (Err (fault.Open, t)) = ⊥
TakenUp s r (Err (fault.History, t)) = ⊥
TakenUp s r (Err (fault.Rounds, t)) = ⊥
TakenUp s r (Err (fault.Turn, t)) = ⊥
