-- Answers of boxes worked out by hand: three boxes of which one may fail, and one order.
use Rattle.std.specs.Prelude.{◌≡◌, ℕ, true, false, List, [], ◌∷◌, Some, None, Ok, Err}
use Rattle.std.proofs.Common.{lit≤}
use Rattle.frames.specs.declared.plan.Plan.{Plan}
use Rattle.frames.specs.declared.Entry.{Entry}
use Rattle.frames.specs.Contents.{Token}
use Rattle.frames.specs.Contents.Content.{order, token}
use Rattle.history.specs.Worked.{slew, park}
use Rattle.boxes.specs.declared.Outcome.TheVariants as outcome
use Rattle.boxes.specs.declared.BoxFault.TheVariants as fault
use Rattle.boxes.specs.Boxes.{Turn, Box, passed}
use Rattle.boxes.specs.Turns.{doubting, passing, started}
use Rattle.boxes.specs.Handling.{answer, box_after}
use Rattle.boxes.specs.Calls.{first_token, dummy_of}

-- three boxes, of which one may fail
abbrev pub three : Plan
three = record { n = 3; f = 1; least = lit≤ tt; most = lit≤ tt; some = lit≤ tt; few = lit≤ tt; enough = lit≤ tt }

-- the token of this round that proposes and has decided these, with one vote
abbrev pub token_of : (sender stamp : ℕ) → List Entry → List (List Entry) → Token
token_of sender stamp proposal decisions = record { sender = sender; stamp = stamp; votes = 1; proposal = proposal; decisions = decisions }

-- the turn with one vote for this
abbrev pub voting : List Entry → Turn
voting proposal = record { votes = 1; proposal = proposal }

-- box 1 with the order kept
abbrev pub keeping : Box
keeping = box_after three (started three 1) (order slew)

-- then with its first turn open
abbrev pub turning : Box
turning = box_after three keeping (token first_token)

-- then with that turn passed
abbrev pub waiting : Box
waiting = passing turning

-- box 2 with its first turn open on the token of box 1
abbrev pub deciding : Box
deciding = box_after three (started three 2) (token (token_of 1 2 (slew ∷ []) []))

-- a record of box 1 that awaits this round and has this log
abbrev pub late : (awaited : ℕ) → (log : List (List Entry)) → Box
late awaited log = record { n = 3; f = 1; seat = 1; awaited = awaited; log = log; unordered = []; last = 0; doubt = false; on = true; turn = None }

-- An order comes to be decided, and each answer and each refusal for contents comes about.
pub record Worked : Type 0 where
  -- box 1 keeps the order of box 0 and puts it forward when round 0 comes
  pub kept : answer three (started three 1) (order slew) ≡ Ok outcome.Kept
  pub opened : answer three keeping (token first_token) ≡ Ok (outcome.Opened tt)
  pub puts_forward : turning.turn ≡ Some (voting (slew ∷ []))
  pub round-one : passed turning (voting (slew ∷ [])) ≡ token_of 1 2 (slew ∷ []) []
  pub awaits : waiting.awaited ≡ 4
  -- box 2 lets round 0 wait, and decides with its vote on round 1; the order is then known
  pub waits : answer three (started three 2) (token first_token) ≡ Ok outcome.Waits
  pub decides : answer three (started three 2) (token (token_of 1 2 (slew ∷ []) [])) ≡ Ok (outcome.Opened tt)
  pub decided : deciding.log ≡ (slew ∷ []) ∷ []
  pub proposes_none : deciding.turn ≡ Some (voting [])
  pub known : answer three deciding (order slew) ≡ Ok outcome.Known
  -- box 1 finds a dummy stale, and lets round 2 wait until it doubts its predecessor
  pub stale : answer three waiting (token (dummy_of 2)) ≡ Ok outcome.Stale
  pub trusting : answer three waiting (token (token_of 2 3 [] ((slew ∷ []) ∷ []))) ≡ Ok outcome.Waits
  pub doubtful : answer three (doubting true waiting) (token (token_of 2 3 [] ((slew ∷ []) ∷ []))) ≡ Ok (outcome.Opened tt)
  pub takes_over : (box_after three (doubting true waiting) (token (token_of 2 3 [] ((slew ∷ []) ∷ [])))).log ≡ (slew ∷ []) ∷ []
  pub leaves : (box_after three (doubting true waiting) (token (token_of 2 3 [] ((slew ∷ []) ∷ [])))).unordered ≡ []
  -- a token of a round more than a ring back teaches
  pub learned : answer three waiting (token (token_of 0 1 [] ((slew ∷ []) ∷ []))) ≡ Ok (outcome.Learned 1)
  -- the refusals, one by one
  pub not_given : answer three (started three 1) (order park) ≡ Err fault.Sender
  pub not_meant : answer three (started three 0) (token (token_of 0 1 [] [])) ≡ Err fault.Sender
  pub busy : answer three turning (token (dummy_of 2)) ≡ Err fault.Open
  pub apart : answer three (late 4 ((park ∷ []) ∷ [])) (token (token_of 0 4 [] ((slew ∷ []) ∷ []))) ≡ Err fault.History
  pub over : answer three (late 1000000 []) (token (token_of 0 1000000 [] [])) ≡ Err fault.Rounds
