-- An array of boxes: what each call may do to the boxes, the machines' readings and the mail.
use Rattle.std.specs.Prelude.{◌≡◌, ℕ, ◌+◌, ◌%◌, ◌<◌, ◌≤◌, true, false, not, ◌⊎◌, List, [], ◌++◌, map, length, drop, Some, None, Ok, Err, filter, Result, ◌==◌, slice_index_or, slice_set}
use Rattle.std.specs.List.{fold, range_with_len, AllByRecursion}
use Rattle.frames.specs.declared.FrameFault.{FrameFault}
use Rattle.frames.specs.declared.Cause.TheVariants.{Length}
use Rattle.frames.specs.declared.plan.Plan.{Plan}
use Rattle.frames.specs.declared.Entry.{Entry}
use Rattle.frames.specs.Plans.{dummy_reach}
use Rattle.frames.specs.Contents.{Content, bytes_of}
use Rattle.frames.specs.Contents.Content.{order, token}
use Rattle.frames.specs.Reading.{read_as}
use Rattle.history.specs.Histories.{flat}
use Rattle.boxes.specs.declared.Outcome.{Outcome}
use Rattle.boxes.specs.declared.Outcome.TheVariants as outcome
use Rattle.boxes.specs.declared.BoxFault.{BoxFault}
use Rattle.boxes.specs.declared.BoxFault.TheVariants as refused
use Rattle.boxes.specs.Boxes.{Turn, Box, Keeps, passed}
use Rattle.boxes.specs.Turns.{passing, doubting, off, started, next_id, next_entry, sending}
use Rattle.boxes.specs.Calls.{first_token, dummy_of}
use Rattle.boxes.specs.Cases.{Handled}
use Rattle.agreement.specs.declared.ArrayFault.{ArrayFault}
use Rattle.agreement.specs.declared.ArrayFault.TheVariants as fault
use Rattle.agreement.specs.declared.Passed.{Passed}
use Rattle.links.specs.Mail.{Mail}
use Rattle.links.specs.Calls.{Appended, Taken}
use Rattle.agreement.specs.Mail.{Posts}

-- A machine's meaning: its fresh reading, and what a body makes of a reading.
pub record Machine (R : Type 0) : Type 0 where
  pub fresh : R
  pub told : R → List ℕ → R

-- The records, the machines' readings and the link's mail.
pub record State (R : Type 0) : Type 0 where
  pub boxes : List Box
  pub readings : List R
  pub mail : Mail

-- A frame to the f+1 successors of box i.
abbrev pub to_successors : Plan → ℕ → List ℕ → List (ℕ × List ℕ)
to_successors p i frame = map (λ k. ((i + k) % p.n, frame)) (range_with_len 1 (p.f + 1))

-- A frame to the other boxes, in rising number.
abbrev pub to_others : Plan → ℕ → List ℕ → List (ℕ × List ℕ)
to_others p i frame = map (λ j. (j, frame)) (filter (λ j. not (j == i)) (range_with_len 0 p.n))

-- What starting the boxes posts: box 0 its token, each box j of n-f or more its dummies to boxes 1 to j+f+1-n.
abbrev pub starting_posts : Plan → List (ℕ × List ℕ)
starting_posts p =
    to_successors p 0 (bytes_of p (token first_token))
    ++ flat (map (λ j. map (λ k. (k, bytes_of p (token (dummy_of j)))) (range_with_len 1 (dummy_reach p j))) (range_with_len 0 p.n))

-- The box of a number; where there is none, a box with nothing in it.
abbrev pub box_at : List Box → ℕ → Box
box_at bs i = slice_index_or bs i (record { n = 0; f = 0; seat = 0; awaited = 0; log = []; unordered = []; last = 0; doubt = false; on = false; turn = None })

-- The frame at a place of a box.
abbrev pub frame_at : Mail → ℕ → ℕ → List ℕ
frame_at m to place = slice_index_or (m.waiting to) place []

-- The entries of a log that are new beside an earlier one.
abbrev pub newly : List (List Entry) → List (List Entry) → List Entry
newly was now = drop (length (flat was)) (flat now)

-- The reading after entries are told, in order.
abbrev pub after : {R : Type 0} → Machine R → R → List Entry → R
after {R} m r es = fold (λ (reading : R) (e : Entry). m.told reading e.body) r es

-- The tables have the plan's size.
pub record Fits {R : Type 0} (p : Plan) (s : State R) : Type 0 where
  pub boxes : length s.boxes ≡ p.n
  pub machines : length s.readings ≡ p.n

-- And each record keeps the rules for its place.
pub record Table {R : Type 0} (p : Plan) (s : State R) : Type 0 where
  pub fits : Fits p s
  pub keeps : (i : ℕ) → i < p.n → Keeps p i (box_at s.boxes i)

-- Box i is one of the array.
pub record There {R : Type 0} (p : Plan) (s : State R) (i : ℕ) : Type 0 where
  pub table : Table p s
  pub below : i < p.n

-- And it is on.
pub record Callable {R : Type 0} (p : Plan) (s : State R) (i : ℕ) : Type 0 where
  pub there : There p s i
  pub is_on : (box_at s.boxes i).on ≡ true

-- Rows 2 to 4, the topmost first: all that refuses every call of a box that must be on.
abbrev pub Uncallable : {R : Type 0} → Plan → State R → ℕ → ArrayFault → Type 0
Uncallable p s i fault.Plan = Table p s → ⊥
Uncallable p s i fault.Box = Table p s × (p.n ≤ i)
Uncallable p s i fault.Off = There p s i × ((box_at s.boxes i).on ≡ false)
Uncallable p s i _ = ⊥

-- A body is eight bytes.
pub record Body (body : List ℕ) : Type 0 where
  pub eight : length body ≡ 8
  pub bytes : AllByRecursion (λ x. x < 256) body

-- Just box i is changed, by a function.
pub record Changed {R : Type 0} (i : ℕ) (change : Box → Box) (s t : State R) : Type 0 where
  pub boxes : t.boxes ≡ slice_set s.boxes i (change (box_at s.boxes i))
  pub readings : t.readings ≡ s.readings
  pub mail : t.mail ≡ s.mail

module _ {R : Type 0} (p : Plan) (machine : Machine R) where
  -- The reading of box i's machine.
  abbrev pub reading_at : State R → ℕ → R
  reading_at s i = slice_index_or s.readings i machine.fresh

  -- Set-up writes the boxes, clears the machines and makes the starting posts.
  pub record SetUp (s : State R) (posts : ℕ) (t : State R) : Type 0 where
    pub fits : Fits p s
    pub boxes : t.boxes ≡ map (started p) (range_with_len 0 p.n)
    pub readings : t.readings ≡ map (λ j. machine.fresh) (range_with_len 0 p.n)
    pub mail : Posts (starting_posts p) s.mail posts t.mail

  -- Set-up: what it did, or row 2 if the tables have not the plan's size.
  abbrev pub Sets : State R → Result ℕ ArrayFault → State R → Type 0
  Sets s (Ok posts) t = SetUp s posts t
  Sets s (Err fault.Plan) t = (Fits p s → ⊥) × (t ≡ s)
  Sets s (Err _) t = ⊥

  -- A send takes the next serial of box i, and posts the order to the other boxes.
  pub record Sent (s : State R) (i : ℕ) (body : List ℕ) (id posts : ℕ) (t : State R) : Type 0 where
    pub may : Callable p s i
    pub room : (box_at s.boxes i).last < 15
    pub body_fits : Body body
    pub numbered : id ≡ next_id (box_at s.boxes i)
    pub boxes : t.boxes ≡ slice_set s.boxes i (sending (box_at s.boxes i) body)
    pub readings : t.readings ≡ s.readings
    pub mail : Posts (to_others p i (bytes_of p (order (next_entry (box_at s.boxes i) body)))) s.mail posts t.mail

  -- A send is refused as every such call is, and then by row 7, after serial 15.
  abbrev pub SendRefused : State R → ℕ → ArrayFault → Type 0
  SendRefused s i fault.Serials = Callable p s i × (15 ≤ (box_at s.boxes i).last)
  SendRefused s i e = Uncallable p s i e

  -- A send answers the order's id and how many posts were made; a refusal changes nothing.
  abbrev pub Sends : State R → ℕ → List ℕ → Result (ℕ × ℕ) ArrayFault → State R → Type 0
  Sends s i body (Ok (id, posts)) t = Sent s i body id posts t
  Sends s i body (Err e) t = SendRefused s i e × (t ≡ s)

  -- A frame waits at this place of box i, and box i may be called.
  pub record Waiting (s : State R) (i place : ℕ) : Type 0 where
    pub may : Callable p s i
    pub somewhere : place < length (s.mail.waiting i)

  -- The frame there reads as this.
  abbrev pub Reads : State R → ℕ → ℕ → Content → Type 0
  Reads s i place c = read_as p (frame_at s.mail i place) ≡ Ok c

  -- What the box itself refuses.
  abbrev pub BoxRefused : State R → ℕ → ℕ → BoxFault → Type 0
  BoxRefused s i place e = Waiting s i place × ((c : Content) × Reads s i place c × Handled p (box_at s.boxes i) c (Err e) (box_at s.boxes i))

  -- A hand is refused as every such call is, and then by rows 5 and 9 to 13, the topmost first.
  abbrev pub HandRefused : State R → ℕ → ℕ → ArrayFault → Type 0
  HandRefused s i place fault.Place = Callable p s i × (length (s.mail.waiting i) ≤ place)
  HandRefused s i place (fault.Frame q) = Waiting s i place × (read_as p (frame_at s.mail i place) ≡ Err q)
  HandRefused s i place fault.Sender = BoxRefused s i place refused.Sender
  HandRefused s i place fault.Open = BoxRefused s i place refused.Open
  HandRefused s i place fault.History = BoxRefused s i place refused.History
  HandRefused s i place fault.Rounds = BoxRefused s i place refused.Rounds
  HandRefused s i place e = Uncallable p s i e

  -- The frame is removed, box i becomes b and no machine is told.
  pub record Quiet (s : State R) (i place : ℕ) (b : Box) (t : State R) : Type 0 where
    pub boxes : t.boxes ≡ slice_set s.boxes i b
    pub readings : t.readings ≡ s.readings
    pub taken : Taken s.mail i place t.mail

  -- Box i's machine is told the entries new in this log.
  abbrev pub Told : State R → ℕ → List (List Entry) → State R → Type 0
  Told s i log t = t.readings ≡ slice_set s.readings i (after machine (reading_at s i) (newly (box_at s.boxes i).log log))

  -- The frame is removed, and the log grows.
  pub record Learning (s : State R) (i place : ℕ) (b : Box) (t : State R) : Type 0 where
    pub boxes : t.boxes ≡ slice_set s.boxes i b
    pub readings : Told s i b.log t
    pub taken : Taken s.mail i place t.mail

  -- The frame is removed, a turn opens and is passed, and its token is posted to the f+1 successors.
  pub record Passing (s : State R) (i place : ℕ) (b : Box) (turn : Turn) (posts : ℕ) (t : State R) : Type 0 where
    pub between : Mail
    pub boxes : t.boxes ≡ slice_set s.boxes i (passing b)
    pub readings : Told s i b.log t
    pub taken : Taken s.mail i place between
    pub mail : Posts (to_successors p i (bytes_of p (token (passed b turn)))) between posts t.mail

  -- What the box did, with the box that came of it.
  abbrev pub Did : State R → ℕ → Content → Outcome (Unit {0}) → Box → Type 0
  Did s i c o b = Handled p (box_at s.boxes i) c (Ok o) b

  -- What a hand did with the contents of the frame, by its answer.
  abbrev pub Answered : State R → ℕ → ℕ → Content → Outcome Passed → State R → Type 0
  Answered s i place c outcome.Kept t = (b : Box) × Did s i c outcome.Kept b × Quiet s i place b t
  Answered s i place c outcome.Known t = (b : Box) × Did s i c outcome.Known b × Quiet s i place b t
  Answered s i place c outcome.Waits t = (b : Box) × Did s i c outcome.Waits b × (t ≡ s)
  Answered s i place c outcome.Stale t = (b : Box) × Did s i c outcome.Stale b × Quiet s i place b t
  Answered s i place c (outcome.Learned k) t = (b : Box) × Did s i c (outcome.Learned k) b × Learning s i place b t
  Answered s i place c (outcome.Opened told) t = (b : Box) × (turn : Turn) × Did s i c (outcome.Opened tt) b × (b.turn ≡ Some turn) × (told.votes ≡ turn.votes) × (told.proposed ≡ length turn.proposal) × (told.decisions ≡ length b.log) × Passing s i place b turn told.posts t

  -- A hand, by its answer; a refusal changes nothing.
  abbrev pub Hands : State R → ℕ → ℕ → Result (Outcome Passed) ArrayFault → State R → Type 0
  Hands s i place (Ok a) t = Waiting s i place × ((c : Content) × Reads s i place c × Answered s i place c a t)
  Hands s i place (Err e) t = HandRefused s i place e × (t ≡ s)

  -- Rows 2, 3 and 5, the topmost first: all that refuses every call on a waiting frame, box on or off.
  abbrev pub Nowhere : State R → ℕ → ℕ → ArrayFault → Type 0
  Nowhere s i place fault.Plan = Table p s → ⊥
  Nowhere s i place fault.Box = Table p s × (p.n ≤ i)
  Nowhere s i place fault.Place = There p s i × (length (s.mail.waiting i) ≤ place)
  Nowhere s i place _ = ⊥

  -- The boxes and the machines stay.
  pub record Still (s t : State R) : Type 0 where
    pub boxes : t.boxes ≡ s.boxes
    pub readings : t.readings ≡ s.readings

  -- A waiting frame is lost.
  abbrev pub Loses : State R → ℕ → ℕ → Result (Unit {0}) ArrayFault → State R → Type 0
  Loses s i place (Ok u) t = There p s i × (place < length (s.mail.waiting i)) × Still s t × Taken s.mail i place t.mail
  Loses s i place (Err e) t = Nowhere s i place e × (t ≡ s)

  -- A frame that a link takes: 1 to 1,060 bytes.
  abbrev pub Sized : List ℕ → Type 0
  Sized frame = (1 ≤ length frame) × (length frame ≤ 1060)

  -- A frame of 0 or over 1,060 bytes has cause length, at byte 0 or 1,060.
  abbrev pub Missized : List ℕ → FrameFault → Type 0
  Missized frame q = ((length frame ≡ 0) × (q ≡ record { place = 0; cause = Length })) ⊎ ((1060 < length frame) × (q ≡ record { place = 1060; cause = Length }))

  -- A repeat is refused as every such call is, and then by rows 6 and 9.
  abbrev pub RepeatRefused : State R → ℕ → ℕ → ArrayFault → Type 0
  RepeatRefused s i place fault.Full = There p s i × (place < length (s.mail.waiting i)) × (s.mail.full i ≡ true)
  RepeatRefused s i place (fault.Frame q) = There p s i × (place < length (s.mail.waiting i)) × (s.mail.full i ≡ false) × Missized (frame_at s.mail i place) q
  RepeatRefused s i place e = Nowhere s i place e

  -- A waiting frame is posted again to its box.
  abbrev pub Repeats : State R → ℕ → ℕ → Result (Unit {0}) ArrayFault → State R → Type 0
  Repeats s i place (Ok u) t = There p s i × (place < length (s.mail.waiting i)) × (s.mail.full i ≡ false) × Sized (frame_at s.mail i place) × Still s t × Appended s.mail i (frame_at s.mail i place) t.mail
  Repeats s i place (Err e) t = RepeatRefused s i place e × (t ≡ s)

  -- A call that changes just one record of a box that is on.
  abbrev pub Alters : (Box → Box) → State R → ℕ → Result (Unit {0}) ArrayFault → State R → Type 0
  Alters change s i (Ok u) t = Callable p s i × Changed i change s t
  Alters change s i (Err e) t = Uncallable p s i e × (t ≡ s)

  -- The doubt of the predecessor is set.
  abbrev pub Doubts : State R → ℕ → Result (Unit {0}) ArrayFault → State R → Type 0
  Doubts = Alters (doubting true)

  -- It is lifted.
  abbrev pub Trusts : State R → ℕ → Result (Unit {0}) ArrayFault → State R → Type 0
  Trusts = Alters (doubting false)

  -- The box is switched off.
  abbrev pub Switches : State R → ℕ → Result (Unit {0}) ArrayFault → State R → Type 0
  Switches = Alters off
