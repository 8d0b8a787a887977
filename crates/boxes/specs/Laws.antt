-- What holds of boxes.
use Rattle.std.specs.Prelude.{◌≡◌, ℕ, ◌+◌, ◌-◌, ◌%◌, ◌<◌, ◌≤◌, Bool, true, false, ◌≢◌, ◌⊎◌, List, [], ◌∷◌, ◌++◌, map, length, Some, Ok, Err, Decides, Option, Result}
use Rattle.std.specs.List.{ContainsAt as Has, AllByRecursion}
use Rattle.frames.specs.declared.plan.Plan.{Plan}
use Rattle.frames.specs.declared.Entry.{Entry}
use Rattle.frames.specs.Contents.{Token, Content, has, LawfulToken, Lawful, bytes_of}
use Rattle.frames.specs.Contents.Content.{order, token}
use Rattle.frames.specs.Reading.{read_as}
use Rattle.history.specs.Tokens as made
use Rattle.history.specs.Tokens.{Step}
use Rattle.history.specs.Histories.{History, In, Begins, Agree, flat}
use Rattle.history.specs.Entries.{Put, carried}
use Rattle.boxes.specs.declared.Outcome.{Outcome}
use Rattle.boxes.specs.declared.Outcome.TheVariants as outcome
use Rattle.boxes.specs.declared.BoxFault.{BoxFault}
use Rattle.boxes.specs.Boxes.{Turn, Box, Used, Lists, Keeps, listed, log_ids, passed}
use Rattle.boxes.specs.Turns.{started, next_entry, opened, opened_turn}
use Rattle.boxes.specs.Handling.{begins_log, agrees, all_used, meant, answer, box_after}
use Rattle.boxes.specs.Calls.{Judged, refused_or, stayed_or, frame_call, frame_after, send_after, doubt_after, off_after, pass_after, forfeit_after, first_token, dummy_of}
use Rattle.boxes.specs.Cases.{Handled}

-- What a box makes of contents as a function fits what is told of it by cases, and nothing else does.
pub record AnswersFit : Type 0 where
  pub fit : (p : Plan) (b : Box) (c : Content) → Handled p b c (answer p b c) (box_after p b c)
  pub alone : (p : Plan) (b : Box) (c : Content) (r : Result (Outcome (Unit {0})) BoxFault) (b' : Box) → Handled p b c r b' → (r ≡ answer p b c) × (b' ≡ box_after p b c)

-- A log begins another where its entries in a row and its decisions' lengths begin the other's.
pub record ByParts (xs ys : List (List Entry)) : Type 0 where
  pub entries : Begins (flat xs) (flat ys)
  pub lengths : Begins (map length xs) (map length ys)

-- The tests of logs and ids decide what they stand for, logs are compared by their parts, and a test that decides a record's rules
-- gives a call the answer that the rules give it.
pub record TestsDecide : Type 0 where
  pub ids : (b : Box) (is : List ℕ) → Decides (all_used b is) (AllByRecursion (Used b) is)
  pub begins : (xs ys : List (List Entry)) → Decides (begins_log xs ys) (Begins xs ys)
  pub agree : (xs ys : List (List Entry)) → Decides (agrees xs ys) (Agree xs ys)
  pub parts : (xs ys : List (List Entry)) → Begins xs ys → ByParts xs ys
  pub whole : (xs ys : List (List Entry)) → ByParts xs ys → Begins xs ys
  pub judged : (p : Plan) (i : ℕ) (b : Box) (kept : Bool) (bytes : List ℕ) → Decides kept (Keeps p i b) → Judged p i b (λ k. frame_call p b k bytes) (frame_call p b kept bytes)

-- The rules for a record's lists are those of a token that has them as its proposal and its decisions.
pub record ListsAsToken : Type 0 where
  pub there : (p : Plan) (unordered : List Entry) (log : List (List Entry)) → Lists p unordered log → LawfulToken p (listed unordered log)
  pub back : (p : Plan) (unordered : List Entry) (log : List (List Entry)) → LawfulToken p (listed unordered log) → Lists p unordered log

-- Where the log of a box is from: it is the decisions of a token that was made, of a round before the awaited one.
pub record Logged (H : History Entry) (b : Box) : Type 0 where
  pub from : ℕ
  pub source : made.Token Entry
  pub made : In H from source
  pub earlier : from ≤ b.awaited
  pub same : b.log ≡ source.decisions

-- The token `new` of the awaited round comes about in one of the four ways from the parent t, which is at most f+1 rounds back.
pub record ComesFrom (p : Plan) (sent : List Entry) (H : History Entry) (b : Box) (t new : Token) : Type 0 where
  pub awaited : new.stamp ≡ b.awaited + 1
  pub before : t.stamp < b.awaited + 1
  pub near : b.awaited + 1 ≤ t.stamp + p.f + 1
  pub step : Step (Put p sent) (In H) p.f (b.awaited + 1) t.stamp (carried new) (carried t)

-- The token of an opened turn comes about from the handed one and the box's log as the rules of a history ask, whatever was sent as long as
-- the unordered entries were.
abbrev pub TurnsMakeTokens : Type 0
TurnsMakeTokens =
    (p : Plan) (i : ℕ) (b : Box) (t : Token) → Keeps p i b → LawfulToken p t → answer p b (token t) ≡ Ok (outcome.Opened tt) →
    (sent : List Entry) → AllByRecursion (Has sent) b.unordered → (H : History Entry) → Logged H b →
    ComesFrom p sent H b t (passed (opened p b t) (opened_turn p b t))

-- The handed token's proposal had f votes in the round just before, and this box's vote makes f+1: it is the last decision.
pub record Decided (p : Plan) (b : Box) (t : Token) (log : List (List Entry)) : Type 0 where
  pub next : t.stamp ≡ b.awaited
  pub full : t.votes + 1 ≡ p.f + 1
  pub proposed : t.proposal ≢ []
  pub is : log ≡ t.decisions ++ t.proposal ∷ []

-- What a log may become: it stays, or is the handed token's decisions, or these and then its proposal.
abbrev pub LoggedFrom : Plan → Box → Content → List (List Entry) → Type 0
LoggedFrom p b (order e) log = log ≡ b.log
LoggedFrom p b (token t) log = (log ≡ b.log) ⊎ ((log ≡ t.decisions) ⊎ Decided p b t log)

-- A log grows at its end only, and only by what the handed token has decided, or decides with f+1 votes.
abbrev pub LogsGrow : Type 0
LogsGrow = (p : Plan) (b : Box) (c : Content) → Begins b.log (box_after p b c).log × LoggedFrom p b c (box_after p b c).log

-- The entry was unordered, or is the order that is kept.
abbrev pub Offered : Plan → Box → Content → Entry → Type 0
Offered p b c e = Has b.unordered e ⊎ ((c ≡ order e) × (answer p b c ≡ Ok outcome.Kept))

-- The unordered entries after contents are those before, and the order that is kept, but for those in the log.
pub record UnorderedStay : Type 0 where
  pub were : (p : Plan) (i : ℕ) (b : Box) (c : Content) → Keeps p i b → (e : Entry) → Has (box_after p b c).unordered e → Offered p b c e × (has e.id (log_ids (box_after p b c).log) ≡ false)
  pub are : (p : Plan) (i : ℕ) (b : Box) (c : Content) → Keeps p i b → (e : Entry) → Offered p b c e → has e.id (log_ids (box_after p b c).log) ≡ false → Has (box_after p b c).unordered e

-- A record keeps its rules through every call, whatever the call's arguments and whether or not it is refused.
pub record Stays (p : Plan) (i : ℕ) (b : Box) : Type 0 where
  pub by_contents : (c : Content) → Lawful p c → Keeps p i (box_after p b c)
  pub by_frame : (kept : Bool) (bytes : List ℕ) → AllByRecursion (λ x. x < 256) bytes → Keeps p i (frame_after p b kept bytes)
  pub by_send : (kept : Bool) (body : List ℕ) → length body ≡ 8 → AllByRecursion (λ x. x < 256) body → Keeps p i (send_after b kept body)
  pub by_doubt : (doubt kept : Bool) → Keeps p i (doubt_after doubt b kept)
  pub by_off : (kept : Bool) → Keeps p i (off_after b kept)
  pub by_pass : (kept : Bool) (room seat round : ℕ) → Keeps p i (pass_after b kept room seat round)
  pub by_forfeit : (kept : Bool) (seat round : ℕ) → Keeps p i (forfeit_after b kept seat round)

-- A started record keeps the rules, and every call keeps them.
pub record RecordsStay : Type 0 where
  pub start : (p : Plan) (i : ℕ) → i < p.n → Keeps p i (started p i)
  pub stay : (p : Plan) (i : ℕ) (b : Box) → Keeps p i b → Stays p i b

-- Lawful contents, which read back as themselves from a buffer's 1,060 bytes at most.
pub record Readable (p : Plan) (c : Content) : Type 0 where
  pub lawful : Lawful p c
  pub back : read_as p (bytes_of p c) ≡ Ok c
  pub room : length (bytes_of p c) ≤ 1060

-- What boxes send reads as sent: the token of an open turn, a box's next order, the token of round 0 and the dummies.
pub record FramesRead : Type 0 where
  pub turns : (p : Plan) (i : ℕ) (b : Box) (t : Turn) → Keeps p i b → b.turn ≡ Some t → Readable p (token (passed b t))
  pub orders : (p : Plan) (i : ℕ) (b : Box) (body : List ℕ) → Keeps p i b → b.last < 15 → length body ≡ 8 → AllByRecursion (λ x. x < 256) body → Readable p (order (next_entry b body))
  pub first : (p : Plan) → Readable p (token first_token)
  pub dummies : (p : Plan) (j : ℕ) → p.n - p.f ≤ j → j < p.n → Readable p (token (dummy_of j))

-- A refused call leaves the record as it was; so do a frame that waits, one that is stale, and an order that is known.
pub record RefusalsStay : Type 0 where
  pub frames : (p : Plan) (b : Box) (kept : Bool) (bytes : List ℕ) (e : BoxFault) → frame_call p b kept bytes ≡ Err e → frame_after p b kept bytes ≡ b
  pub calls : (o : Option BoxFault) (was becomes : Box) (n : ℕ) (e : BoxFault) → refused_or o n ≡ Err e → stayed_or o was becomes ≡ was
  pub waits : (p : Plan) (b : Box) (c : Content) → answer p b c ≡ Ok outcome.Waits → box_after p b c ≡ b
  pub stale : (p : Plan) (b : Box) (c : Content) → answer p b c ≡ Ok outcome.Stale → box_after p b c ≡ b
  pub known : (p : Plan) (b : Box) (c : Content) → answer p b c ≡ Ok outcome.Known → box_after p b c ≡ b

-- A token is meant for the f+1 successors of its sender and for no others; a dummy of box j for the boxes 1 to j+f+1-n.
pub record MeantFor : Type 0 where
  pub successors : (p : Plan) (t : Token) (k : ℕ) → t.sender < p.n → t.stamp ≢ 0 → 1 ≤ k → k ≤ p.f + 1 → meant p ((t.sender + k) % p.n) t ≡ true
  pub no_others : (p : Plan) (t : Token) (seat : ℕ) → t.sender < p.n → t.stamp ≢ 0 → seat < p.n → meant p seat t ≡ true → (k : ℕ) × (1 ≤ k) × (k ≤ p.f + 1) × (seat ≡ (t.sender + k) % p.n)
  pub dummies : (p : Plan) (t : Token) (seat : ℕ) → t.sender < p.n → p.n ≤ t.sender + p.f → t.stamp ≡ 0 → Decides (meant p seat t) ((1 ≤ seat) × (seat ≤ t.sender + p.f + 1 - p.n))
