-- The numbers of a token's head.
use Rattle.std.specs.Prelude.{ℕ, Bool, cond, List, Ok, Result, nat_le, nat_lt, slice_index}
use Rattle.frames.specs.declared.Cause.TheVariants as cause
use Rattle.frames.specs.declared.FrameFault.{FrameFault}
use Rattle.frames.specs.declared.plan.Plan.{Plan}
use Rattle.frames.specs.Reading.{fault_at, and_then, stamp_in, bad_round, bad_votes, bad_proposed, bad_decided}
use Rattle.reading.specs.declared.head.Head.{Head}

-- the numbers that the bytes of a frame hold
abbrev pub head_in : List ℕ → Head
head_in bs =
    record {
      sender = slice_index bs 2;
      stamp = stamp_in bs;
      votes = slice_index bs 7;
      proposed = slice_index bs 8;
      decided = slice_index bs 9;
    }

-- a number from `place` to before `end`, in a frame of `n` bytes: the frame ends before it does, or it is bad
abbrev pub number_as : ℕ → ℕ → ℕ → Bool → Result (Unit {0}) FrameFault
number_as n end place bad = cond (nat_lt n end) (fault_at n cause.Length) (cond bad (fault_at place cause.Range) (Ok tt))

-- the numbers of a head in turn, in a frame of `n` bytes
abbrev pub head_as : Plan → Head → ℕ → Result (Unit {0}) FrameFault
head_as p h n =
    and_then (number_as n 3 2 (nat_le p.n h.sender))
    (λ _. and_then (number_as n 7 3 (bad_round p h.sender h.stamp))
    (λ _. and_then (number_as n 8 7 (bad_votes p h.stamp h.votes))
    (λ _. and_then (number_as n 9 8 (bad_proposed h.stamp h.votes h.proposed))
    (λ _. number_as n 10 9 (bad_decided h.stamp h.decided)))))
