-- How records change: entries kept and logged, turns opened and ended.
use Rattle.std.specs.Prelude.{ℕ, ◌+◌, ◌-◌, ◌*◌, Bool, true, false, cond, not, ◌&&◌, List, [], ◌∷◌, ◌++◌, length, Some, None, filter, Option, ◌==◌, nat_lt}
use Rattle.frames.specs.declared.plan.Plan.{Plan}
use Rattle.frames.specs.declared.Entry.{Entry}
use Rattle.frames.specs.Contents.{Token, has}
pub use Rattle.lists.specs.Tables.{inserted}
use Rattle.boxes.specs.Boxes.{Turn, Box, log_ids}

-- The entries that are not in the log.
abbrev pub left : List (List Entry) → List Entry → List Entry
left log xs = filter (λ (e : Entry). not (has e.id (log_ids log))) xs

-- One more entry is unordered, and the last serial is this.
abbrev pub holding : Box → Entry → ℕ → Box
holding b e last = record { n = b.n; f = b.f; seat = b.seat; awaited = b.awaited; log = b.log; unordered = inserted e b.unordered; last = last; doubt = b.doubt; on = b.on; turn = b.turn }

-- The log and the turn are these, and entries that reach the log leave the unordered ones.
abbrev pub logging : Box → List (List Entry) → Option Turn → Box
logging b log turn = record { n = b.n; f = b.f; seat = b.seat; awaited = b.awaited; log = log; unordered = left log b.unordered; last = b.last; doubt = b.doubt; on = b.on; turn = turn }

-- The doubt of the predecessor is this.
abbrev pub doubting : Bool → Box → Box
doubting d b = record { n = b.n; f = b.f; seat = b.seat; awaited = b.awaited; log = b.log; unordered = b.unordered; last = b.last; doubt = d; on = b.on; turn = b.turn }

-- The box is switched off; an open turn is still to be ended.
abbrev pub off : Box → Box
off b = record { n = b.n; f = b.f; seat = b.seat; awaited = b.awaited; log = b.log; unordered = b.unordered; last = b.last; doubt = b.doubt; on = false; turn = b.turn }

-- The turn is passed: it is closed, and the box awaits its next round.
abbrev pub passing : Box → Box
passing b = record { n = b.n; f = b.f; seat = b.seat; awaited = b.awaited + b.n; log = b.log; unordered = b.unordered; last = b.last; doubt = b.doubt; on = b.on; turn = None }

-- The turn is forfeited: it is closed, and the box is off.
abbrev pub forfeiting : Box → Box
forfeiting b = record { n = b.n; f = b.f; seat = b.seat; awaited = b.awaited; log = b.log; unordered = b.unordered; last = b.last; doubt = b.doubt; on = false; turn = None }

-- A box just started: nothing logged or unordered, and it awaits the round of its own number, box 0 the round n.
abbrev pub started : Plan → ℕ → Box
started p i = record { n = p.n; f = p.f; seat = i; awaited = cond (i == 0) p.n i; log = []; unordered = []; last = 0; doubt = false; on = true; turn = None }

-- The id of the box's next order.
abbrev pub next_id : Box → ℕ
next_id b = 16 * b.seat + (b.last + 1)

-- The box's next order.
abbrev pub next_entry : Box → List ℕ → Entry
next_entry b body = record { id = next_id b; body = body }

-- The next serial is taken, and the order is unordered at its own box.
abbrev pub sending : Box → List ℕ → Box
sending b body = holding b (next_entry b body) (b.last + 1)

-- Awaited round minus token round; 0 for a token of the awaited round or a later one.
abbrev pub gap : Box → Token → ℕ
gap b t = b.awaited + 1 - t.stamp

-- Votes become 0 if the gap is not 1 or nothing is proposed, and grow by 1.
abbrev pub counted : Box → Token → ℕ
counted b t = cond (gap b t == 1 && not (length t.proposal == 0)) t.votes 0 + 1

-- The token has fewer decisions than the log.
abbrev pub short : Box → Token → Bool
short b t = nat_lt (length t.decisions) (length b.log)

-- The votes have come to f+1.
abbrev pub decides : Plan → Box → Token → Bool
decides p b t = counted b t == p.f + 1

-- The log as a turn opens: the box's own, if the token's is short; else the token's decisions, and then its proposal if it is decided.
abbrev pub opened_log : Plan → Box → Token → List (List Entry)
opened_log p b t = cond (short b t) b.log (cond (decides p b t) (t.decisions ++ t.proposal ∷ []) t.decisions)

-- What is left of the proposal: nothing, if the token is short or its proposal is decided.
abbrev pub opened_proposal : Plan → Box → Token → List Entry
opened_proposal p b t = cond (short b t) [] (cond (decides p b t) [] t.proposal)

-- An empty proposal is replaced by all unordered entries, with 1 vote.
abbrev pub refilled : ℕ → List Entry → List Entry → Turn
refilled votes [] unordered = record { votes = 1; proposal = unordered }
refilled votes (e ∷ es) unordered = record { votes = votes; proposal = e ∷ es }

-- The turn that opens.
abbrev pub opened_turn : Plan → Box → Token → Turn
opened_turn p b t = refilled (counted b t) (opened_proposal p b t) (left (opened_log p b t) b.unordered)

-- The record as a turn opens.
abbrev pub opened : Plan → Box → Token → Box
opened p b t = logging b (opened_log p b t) (Some (opened_turn p b t))
