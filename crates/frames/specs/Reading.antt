-- How a frame is read: from the front, up to the first byte at fault.
use Rattle.std.specs.Prelude.{ℕ, zero, suc, ◌+◌, ◌-◌, ◌*◌, ◌/◌, ◌%◌, Bool, cond, not, ◌&&◌, ◌||◌, List, [], ◌∷◌, length, take, drop, Ok, Err, Result, ◌==◌, nat_le, nat_lt, slice_index}
use Rattle.frames.specs.declared.Cause.{Cause}
use Rattle.frames.specs.declared.Cause.TheVariants as cause
use Rattle.frames.specs.declared.FrameFault.{FrameFault}
use Rattle.frames.specs.declared.plan.Plan.{Plan}
use Rattle.frames.specs.declared.Entry.{Entry}
use Rattle.frames.specs.Contents.{Token, Content, plan_byte, has}
use Rattle.frames.specs.Contents.Content.{order, token}

-- Where reading stands: the place of the next byte, the bytes from there on, the ids met so far.
pub record Rest : Type 0 where
  pub at : ℕ
  pub bytes : List ℕ
  pub met : List ℕ

abbrev pub fault_at : {A : Type 0} → ℕ → Cause → Result A FrameFault
fault_at k c = Err (record { place = k; cause = c })

abbrev pub and_then : {A B : Type 0} → Result A FrameFault → (A → Result B FrameFault) → Result B FrameFault
and_then (Ok a) f = f a
and_then (Err e) f = Err e

-- the frame ends before the byte that is wanted
abbrev pub ends_early : {A : Type 0} → Rest → Result A FrameFault
ends_early r = fault_at (r.at + length r.bytes) cause.Length

abbrev pub out_of_range : Plan → ℕ → Bool
out_of_range p i = nat_le p.n (i / 16) || i % 16 == 0

abbrev pub next_byte : Rest → ℕ
next_byte r = slice_index r.bytes 0

abbrev pub past_entry : Rest → Rest
past_entry r = record { at = r.at + 9; bytes = drop 9 r.bytes; met = next_byte r ∷ r.met }

abbrev pub past_count : Rest → Rest
past_count r = record { at = r.at + 1; bytes = drop 1 r.bytes; met = r.met }

-- so many entries, with ids that ascend above `last` and were not met before
abbrev pub entries_as : Plan → ℕ → ℕ → Rest → Result Rest FrameFault
entries_as p zero last r = Ok r
entries_as p (suc k) last r =
    cond (nat_lt (length r.bytes) 1) (ends_early r)
    (cond (out_of_range p (next_byte r)) (fault_at r.at cause.Range)
    (cond (nat_le (next_byte r) last || has (next_byte r) r.met) (fault_at r.at cause.Ids)
    (cond (nat_lt (length r.bytes) 9) (ends_early r)
    (entries_as p k (next_byte r) (past_entry r)))))

-- so many decisions, each with its count, which is not 0
abbrev pub decisions_as : Plan → ℕ → Rest → Result Rest FrameFault
decisions_as p zero r = Ok r
decisions_as p (suc k) r =
    cond (nat_lt (length r.bytes) 1) (ends_early r)
    (cond (next_byte r == 0) (fault_at r.at cause.Range)
    (and_then (entries_as p (next_byte r) 0 (past_count r)) (decisions_as p k)))

-- nothing may follow
abbrev pub ended : Content → Rest → Result Content FrameFault
ended c r = cond (nat_lt 0 (length r.bytes)) (fault_at r.at cause.Length) (Ok c)

-- What the bytes hold, where they are no fault

abbrev pub entry_in : List ℕ → Entry
entry_in bs = record { id = slice_index bs 0; body = take 8 (drop 1 bs) }

abbrev pub entries_in : ℕ → List ℕ → List Entry
entries_in zero bs = []
entries_in (suc k) bs = entry_in bs ∷ entries_in k (drop 9 bs)

abbrev pub decisions_in : ℕ → List ℕ → List (List Entry)
decisions_in zero bs = []
decisions_in (suc k) bs = entries_in (slice_index bs 0) (drop 1 bs) ∷ decisions_in k (drop (9 * slice_index bs 0) (drop 1 bs))

abbrev pub stamp_in : List ℕ → ℕ
stamp_in bs = slice_index bs 3 * 16777216 + slice_index bs 4 * 65536 + slice_index bs 5 * 256 + slice_index bs 6

abbrev pub token_in : List ℕ → Token
token_in bs =
    record {
      sender = slice_index bs 2;
      stamp = stamp_in bs;
      votes = slice_index bs 7;
      proposal = entries_in (slice_index bs 8) (drop 10 bs);
      decisions = decisions_in (slice_index bs 9) (drop (9 * slice_index bs 8) (drop 10 bs));
    }

-- a test of the head that looks at its first `upto` bytes
abbrev pub test : List ℕ → ℕ → Bool → ℕ → Cause → Result Content FrameFault → Result Content FrameFault
test bs upto bad place why next =
    cond (nat_lt (length bs) upto) (fault_at (length bs) cause.Length) (cond bad (fault_at place why) next)

abbrev pub bad_round : Plan → ℕ → ℕ → Bool
bad_round p sender stamp =
    nat_lt 1000000 stamp || cond (stamp == 0) (nat_lt sender (p.n - p.f)) (not ((stamp - 1) % p.n == sender))

abbrev pub bad_votes : Plan → ℕ → ℕ → Bool
bad_votes p stamp votes = cond (stamp == 0) (nat_lt 0 votes) (nat_lt votes 1 || nat_lt p.f votes)

abbrev pub bad_proposed : ℕ → ℕ → ℕ → Bool
bad_proposed stamp votes proposed = cond (stamp == 0) (nat_lt 0 proposed) (nat_lt 1 votes && proposed == 0)

abbrev pub bad_decided : ℕ → ℕ → Bool
bad_decided stamp decided = stamp == 0 && nat_lt 0 decided

abbrev pub start_at : ℕ → List ℕ → Rest
start_at k bs = record { at = k; bytes = drop k bs; met = [] }

abbrev pub order_as : Plan → List ℕ → Result Content FrameFault
order_as p bs = and_then (entries_as p 1 0 (start_at 2 bs)) (ended (order (entry_in (drop 2 bs))))

abbrev pub lists_as : Plan → List ℕ → Result Content FrameFault
lists_as p bs =
    and_then (and_then (entries_as p (slice_index bs 8) 0 (start_at 10 bs)) (decisions_as p (slice_index bs 9))) (ended (token (token_in bs)))

abbrev pub token_as : Plan → List ℕ → Result Content FrameFault
token_as p bs =
    test bs 3 (nat_le p.n (slice_index bs 2)) 2 cause.Range
    (test bs 7 (bad_round p (slice_index bs 2) (stamp_in bs)) 3 cause.Range
    (test bs 8 (bad_votes p (stamp_in bs) (slice_index bs 7)) 7 cause.Range
    (test bs 9 (bad_proposed (stamp_in bs) (slice_index bs 7) (slice_index bs 8)) 8 cause.Range
    (test bs 10 (bad_decided (stamp_in bs) (slice_index bs 9)) 9 cause.Range (lists_as p bs)))))

abbrev pub read_as : Plan → List ℕ → Result Content FrameFault
read_as p bs =
    test bs 1 (not (slice_index bs 0 == 1 || slice_index bs 0 == 2)) 0 cause.Kind
    (test bs 2 (not (slice_index bs 1 == plan_byte p)) 1 cause.Plan
    (cond (slice_index bs 0 == 1) (order_as p bs) (token_as p bs)))
