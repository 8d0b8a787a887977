-- What a box makes of a frame's contents: each test, the answer by the topmost row that fits, and the record after it.
use Rattle.std.specs.Prelude.{ℕ, ◌+◌, ◌-◌, ◌/◌, ◌%◌, Bool, true, false, cond, not, ◌&&◌, ◌||◌, List, [], ◌∷◌, length, Some, None, Ok, Err, Option, Result, ◌==◌, nat_eq, nat_le, nat_lt}
use Rattle.std.specs.List.{list_all}
use Rattle.frames.specs.declared.plan.Plan.{Plan}
use Rattle.frames.specs.declared.Entry.{Entry}
use Rattle.frames.specs.Plans.{dummy_reach}
use Rattle.frames.specs.Contents.{Token, Content, has, ids_of}
use Rattle.frames.specs.Contents.Content.{order, token}
use Rattle.boxes.specs.declared.Outcome.{Outcome}
use Rattle.boxes.specs.declared.Outcome.TheVariants as outcome
use Rattle.boxes.specs.declared.BoxFault.{BoxFault}
use Rattle.boxes.specs.declared.BoxFault.TheVariants as fault
use Rattle.boxes.specs.Boxes.{Turn, Box, log_ids, token_ids}
use Rattle.boxes.specs.Turns.{holding, logging, gap, opened}

-- Lists are equal, by a test of their elements.
abbrev pub same_by : {X : Type 0} → (X → X → Bool) → List X → List X → Bool
same_by eq [] [] = true
same_by eq [] (y ∷ ys) = false
same_by eq (x ∷ xs) [] = false
same_by eq (x ∷ xs) (y ∷ ys) = eq x y && same_by eq xs ys

-- The first list begins the second, by a test of their elements.
abbrev pub begins_by : {X : Type 0} → (X → X → Bool) → List X → List X → Bool
begins_by eq [] ys = true
begins_by eq (x ∷ xs) [] = false
begins_by eq (x ∷ xs) (y ∷ ys) = eq x y && begins_by eq xs ys

-- Entries have the same id and the same body.
abbrev pub same_entry : Entry → Entry → Bool
same_entry x y = x.id == y.id && same_by nat_eq x.body y.body

-- The first log begins the second.
abbrev pub begins_log : List (List Entry) → List (List Entry) → Bool
begins_log = begins_by (same_by same_entry)

-- One of the logs begins the other.
abbrev pub agrees : List (List Entry) → List (List Entry) → Bool
agrees xs ys = begins_log xs ys || begins_log ys xs

-- An id of the box's own seat has at most its last serial.
abbrev pub used : Box → ℕ → Bool
used b i = not (i / 16 == b.seat) || nat_le (i % 16) b.last

-- That holds of each of these ids.
abbrev pub all_used : Box → List ℕ → Bool
all_used b = list_all (used b)

-- How many boxes ahead of the sender the seat is.
abbrev pub steps : Plan → (seat sender : ℕ) → ℕ
steps p seat sender = (seat + p.n - sender) % p.n

-- A dummy from box j is meant for the boxes 1 to j+f+1-n, any other token for the f+1 successors of its sender.
abbrev pub meant : Plan → (seat : ℕ) → Token → Bool
meant p seat t =
    cond (t.stamp == 0)
    (nat_le 1 seat && nat_le seat (dummy_reach p t.sender))
    (nat_le 1 (steps p seat t.sender) && nat_le (steps p seat t.sender) (p.f + 1))

-- The token is meant for this box and has no id of it above its last serial.
abbrev pub expected : Plan → Box → Token → Bool
expected p b t = meant p b.seat t && all_used b (token_ids t)

-- A turn would open: the gap is 1, or 2 to f+1 while the predecessor is doubted.
abbrev pub would_open : Plan → Box → Token → Bool
would_open p b t = gap b t == 1 || (b.doubt && (nat_le 2 (gap b t) && nat_le (gap b t) (p.f + 1)))

-- The token is more than a whole ring behind.
abbrev pub is_behind : Plan → Box → Token → Bool
is_behind p b t = nat_lt p.n (gap b t)

-- A turn is open.
abbrev pub is_open : Option Turn → Bool
is_open None = false
is_open (Some t) = true

-- How many decisions more the token has than the log.
abbrev pub more : Box → Token → ℕ
more b t = length t.decisions - length b.log

-- The answer to a token by its tests: rows 10 and 11, then waiting, then rows 12 and 13, then the turn or what is learned.
abbrev pub by_rows : (expected busy opens behind agrees late longer : Bool) → (more : ℕ) → Result (Outcome (Unit {0})) BoxFault
by_rows expected busy opens behind agrees late longer more =
    cond (not expected) (Err fault.Sender)
    (cond busy (Err fault.Open)
    (cond (not (opens || behind)) (Ok outcome.Waits)
    (cond (not agrees) (Err fault.History)
    (cond (opens && late) (Err fault.Rounds)
    (cond opens (Ok (outcome.Opened tt))
    (cond longer (Ok (outcome.Learned more)) (Ok outcome.Stale)))))))

-- What a box answers to a token.
abbrev pub token_answer : Plan → Box → Token → Result (Outcome (Unit {0})) BoxFault
token_answer p b t =
    by_rows (expected p b t) (is_open b.turn) (would_open p b t) (is_behind p b t) (agrees b.log t.decisions) (nat_lt 999999 b.awaited)
    (nat_lt (length b.log) (length t.decisions)) (more b t)

-- The record after a token, by the answer: only an opened turn and a lesson change it.
abbrev pub token_after : Plan → Box → Token → Result (Outcome (Unit {0})) BoxFault → Box
token_after p b t (Ok (outcome.Opened tt)) = opened p b t
token_after p b t (Ok (outcome.Learned k)) = logging b t.decisions None
token_after p b t (Ok outcome.Kept) = b
token_after p b t (Ok outcome.Known) = b
token_after p b t (Ok outcome.Waits) = b
token_after p b t (Ok outcome.Stale) = b
token_after p b t (Err e) = b

-- The answer to an order by its tests.
abbrev pub order_by : (used unordered logged : Bool) → Result (Outcome (Unit {0})) BoxFault
order_by used unordered logged = cond (not used) (Err fault.Sender) (cond (unordered || logged) (Ok outcome.Known) (Ok outcome.Kept))

-- What a box answers to an order: it is kept if its id is neither unordered nor in the log.
abbrev pub order_answer : Box → Entry → Result (Outcome (Unit {0})) BoxFault
order_answer b e = order_by (used b e.id) (has e.id (ids_of b.unordered)) (has e.id (log_ids b.log))

-- The record after an order, by the answer: only a kept order changes it.
abbrev pub order_after : Box → Entry → Result (Outcome (Unit {0})) BoxFault → Box
order_after b e (Ok outcome.Kept) = holding b e b.last
order_after b e (Ok outcome.Known) = b
order_after b e (Ok outcome.Waits) = b
order_after b e (Ok outcome.Stale) = b
order_after b e (Ok (outcome.Opened tt)) = b
order_after b e (Ok (outcome.Learned k)) = b
order_after b e (Err f) = b

-- What a box that is on answers to the contents of a frame.
abbrev pub answer : Plan → Box → Content → Result (Outcome (Unit {0})) BoxFault
answer p b (order e) = order_answer b e
answer p b (token t) = token_answer p b t

-- The record after them.
abbrev pub box_after : Plan → Box → Content → Box
box_after p b (order e) = order_after b e (order_answer b e)
box_after p b (token t) = token_after p b t (token_answer p b t)
