-- Runs of calls from a set-up over a fresh link, and what every run keeps.
use Rattle.std.specs.Prelude.{◌≡◌, ℕ, ◌<◌, cond, ◌≢◌, ◌⊎◌, List, [], ◌∷◌, ◌++◌, length, take, Ok, Err, Result, nat_lt}
use Rattle.std.specs.List.{ContainsAt as Has, AllByRecursion}
use Rattle.frames.specs.declared.plan.Plan.{Plan}
use Rattle.frames.specs.declared.Entry.{Entry}
use Rattle.frames.specs.Contents.{Once}
use Rattle.history.specs.Histories.{Agree, flat}
use Rattle.boxes.specs.declared.Outcome.{Outcome}
use Rattle.boxes.specs.Boxes.{Box, log_ids}
use Rattle.boxes.specs.Turns.{next_entry}
use Rattle.agreement.specs.declared.ArrayFault.{ArrayFault}
use Rattle.agreement.specs.declared.ArrayFault.TheVariants as fault
use Rattle.agreement.specs.declared.Passed.{Passed}
use Rattle.agreement.specs.declared.Call.{Call}
use Rattle.agreement.specs.declared.Call.TheVariants.{Send, Hand, Lose, Repeat, Doubt, Trust, SwitchOff}
use Rattle.links.specs.Mail.{Fresh}
use Rattle.agreement.specs.Arrays.{Machine, State, box_at, after, reading_at, SetUp, Body, Sends, Hands, Loses, Repeats, Doubts, Trusts, Switches}

-- The entries sent, with one more where a send was not refused.
abbrev pub noted : {X : Type 0} → Result X ArrayFault → Entry → List Entry → List Entry
noted (Ok x) e sent = e ∷ sent
noted (Err f) e sent = sent

-- The log with most entries, the lowest box's among equals.
abbrev pub longest : List Box → List Entry
longest [] = []
longest (b ∷ bs) = cond (nat_lt (length (flat b.log)) (length (longest bs))) (longest bs) (flat b.log)

-- The log of box i.
abbrev pub log_at : {R : Type 0} → State R → ℕ → List (List Entry)
log_at s i = (box_at s.boxes i).log

module _ {R : Type 0} (p : Plan) (machine : Machine R) where
  -- From a set-up over a fresh link, a list of calls, refused ones too; the entries are those that the sends made.
  pub data Run : List Call → List Entry → State R → Type 0 where
    start : {s : State R} (t : State R) (posts : ℕ) → Fresh s.mail → SetUp p machine s posts t → Run [] [] t
    sends : {calls : List Call} {sent : List Entry} {s : State R} (t : State R) (i : ℕ) (body : List ℕ) (r : Result (ℕ × ℕ) ArrayFault) → Run calls sent s → Sends p machine s i body r t → Run (calls ++ Send i body ∷ []) (noted r (next_entry (box_at s.boxes i) body) sent) t
    hands : {calls : List Call} {sent : List Entry} {s : State R} (t : State R) (i place : ℕ) (r : Result (Outcome Passed) ArrayFault) → Run calls sent s → Hands p machine s i place r t → Run (calls ++ Hand i place ∷ []) sent t
    loses : {calls : List Call} {sent : List Entry} {s : State R} (t : State R) (i place : ℕ) (r : Result (Unit {0}) ArrayFault) → Run calls sent s → Loses p machine s i place r t → Run (calls ++ Lose i place ∷ []) sent t
    repeats : {calls : List Call} {sent : List Entry} {s : State R} (t : State R) (i place : ℕ) (r : Result (Unit {0}) ArrayFault) → Run calls sent s → Repeats p machine s i place r t → Run (calls ++ Repeat i place ∷ []) sent t
    doubts : {calls : List Call} {sent : List Entry} {s : State R} (t : State R) (i : ℕ) (r : Result (Unit {0}) ArrayFault) → Run calls sent s → Doubts p machine s i r t → Run (calls ++ Doubt i ∷ []) sent t
    trusts : {calls : List Call} {sent : List Entry} {s : State R} (t : State R) (i : ℕ) (r : Result (Unit {0}) ArrayFault) → Run calls sent s → Trusts p machine s i r t → Run (calls ++ Trust i ∷ []) sent t
    switches : {calls : List Call} {sent : List Entry} {s : State R} (t : State R) (i : ℕ) (r : Result (Unit {0}) ArrayFault) → Run calls sent s → Switches p machine s i r t → Run (calls ++ SwitchOff i ∷ []) sent t

  -- The array is of one mind.
  pub record Unsplit (sent : List Entry) (s : State R) : Type 0 where
    -- Of any two logs one begins the other.
    pub agree : (i j : ℕ) → i < p.n → j < p.n → Agree (log_at s i) (log_at s j)
    -- No id stands twice in a log.
    pub once : (i : ℕ) → i < p.n → Once [] (log_ids (log_at s i))
    -- Every entry of a log was made by a send.
    pub sent_first : (i : ℕ) → i < p.n → AllByRecursion (Has sent) (flat (log_at s i))
    -- Each machine reads as a fresh one told the longest log's first entries, as many as its own box has logged.
    pub readings : (i : ℕ) → i < p.n → reading_at p machine s i ≡ after machine machine.fresh (take (length (flat (log_at s i))) (longest s.boxes))

  -- A run leads here, and the array is unsplit.
  abbrev pub Reached : List Call → List Entry → State R → Type 0
  Reached calls sent s = Run calls sent s × Unsplit sent s

  -- A set-up over a fresh link begins a run.
  abbrev pub Begun : State R → Result ℕ ArrayFault → State R → Type 0
  Begun s (Ok posts) t = Fresh s.mail → Reached [] [] t
  Begun s (Err e) t = Unit {0}

  -- A run of just these calls leads here, and the array is unsplit.
  abbrev pub Played : List Call → State R → Type 0
  Played calls s = (sent : List Entry) × Reached calls sent s

  -- Every run that led to s is led on to t by this call, with this entry sent or none.
  abbrev pub GoesOn : State R → Call → (List Entry → List Entry) → State R → Type 0
  GoesOn s call note t = (calls : List Call) (sent : List Entry) → Run calls sent s → Reached (calls ++ call ∷ []) (note sent) t

-- The promise: every run leads only to unsplit states.
abbrev pub RunsAreUnsplit : Type 0 → Type 0
RunsAreUnsplit R = (p : Plan) (machine : Machine R) (calls : List Call) (sent : List Entry) (s : State R) → Run p machine calls sent s → Unsplit p machine sent s

-- A body has 8 bytes.
abbrev pub SoundCall : Call → Type 0
SoundCall (Send i body) = Body body
SoundCall _ = Unit {0}

-- No run is stuck: each call has an answer that goes on with it.
abbrev pub RunsGoOn : Type 0 → Type 0
RunsGoOn R = (p : Plan) (machine : Machine R) (calls : List Call) (sent : List Entry) (s : State R) → Run p machine calls sent s → (c : Call) → SoundCall c → (sent' : List Entry) × (t : State R) × Run p machine (calls ++ c ∷ []) sent' t

-- What a hand may be refused for in a run: never a plan, a frame, an open turn or a history.
abbrev pub MayRefuse : ArrayFault → Type 0
MayRefuse fault.Box = Unit {0}
MayRefuse fault.Off = Unit {0}
MayRefuse fault.Place = Unit {0}
MayRefuse fault.Sender = Unit {0}
MayRefuse fault.Rounds = Unit {0}
MayRefuse _ = ⊥

-- In a run no hand is refused for anything else.
abbrev pub RunsAreSmooth : Type 0 → Type 0
RunsAreSmooth R = (p : Plan) (machine : Machine R) (calls : List Call) (sent : List Entry) (s : State R) → Run p machine calls sent s → (i place : ℕ) (e : ArrayFault) (t : State R) → Hands p machine s i place (Err e) t → MayRefuse e

-- Two plans differ in a number.
abbrev pub Differ : Plan → Plan → Type 0
Differ p q = (p.n ≢ q.n) ⊎ (p.f ≢ q.f)

module _ {R : Type 0} (machine : Machine R) (s : State R) where
  -- Row 2 is answered, and nothing changes.
  abbrev pub Refused : {X : Type 0} → Result X ArrayFault → State R → Type 0
  Refused r t = (r ≡ Err fault.Plan) × (t ≡ s)

  -- Whatever each of the seven calls by this plan answers, it is refused so.
  pub record Refuses (q : Plan) : Type 0 where
    pub sends : (i : ℕ) (body : List ℕ) (r : Result (ℕ × ℕ) ArrayFault) (t : State R) → Sends q machine s i body r t → Refused r t
    pub hands : (i place : ℕ) (r : Result (Outcome Passed) ArrayFault) (t : State R) → Hands q machine s i place r t → Refused r t
    pub loses : (i place : ℕ) (r : Result (Unit {0}) ArrayFault) (t : State R) → Loses q machine s i place r t → Refused r t
    pub repeats : (i place : ℕ) (r : Result (Unit {0}) ArrayFault) (t : State R) → Repeats q machine s i place r t → Refused r t
    pub doubts : (i : ℕ) (r : Result (Unit {0}) ArrayFault) (t : State R) → Doubts q machine s i r t → Refused r t
    pub trusts : (i : ℕ) (r : Result (Unit {0}) ArrayFault) (t : State R) → Trusts q machine s i r t → Refused r t
    pub switches : (i : ℕ) (r : Result (Unit {0}) ArrayFault) (t : State R) → Switches q machine s i r t → Refused r t

-- In a run every call by another plan than the array's is refused by row 2.
abbrev pub OtherPlansRefused : Type 0 → Type 0
OtherPlansRefused R = (p q : Plan) (machine : Machine R) (calls : List Call) (sent : List Entry) (s : State R) → Run p machine calls sent s → Differ q p → Refuses machine s q
