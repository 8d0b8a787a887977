-- A history worked out: it has every way in which a token comes about, and tokens that were made after ones of higher rounds.
-- The box of a stamp s is (s - 1) mod 7, and each log is what that box passed last.
use Rattle.std.specs.Prelude.{ℕ, List, [], ◌∷◌}
use Rattle.std.proofs.Common.{lit≤}
use Rattle.frames.specs.declared.plan.Plan.{Plan}
use Rattle.frames.specs.declared.Entry.{Entry}
use Rattle.history.specs.Tokens.{Token, Empty, Old, Keep, Fresh, Decide, Lawful}
use Rattle.history.specs.Histories.{History, In, empty, begun}
use Rattle.history.specs.Entries.{Put, Sound}

-- seven boxes, of which two may fail
abbrev pub seven : Plan
seven = record { n = 7; f = 2; least = lit≤ tt; most = lit≤ tt; some = lit≤ tt; few = lit≤ tt; enough = lit≤ tt }

-- a slew, sent by box 0
abbrev pub slew : Entry
slew = record { id = 0x01; body = 0x01 ∷ 0x00 ∷ 0x00 ∷ 0x00 ∷ 0x64 ∷ 0xFF ∷ 0xFF ∷ 0xCE ∷ [] }

-- a park, sent by box 1
abbrev pub park : Entry
park = record { id = 0x11; body = 0x05 ∷ 0x00 ∷ 0x00 ∷ 0x00 ∷ 0x00 ∷ 0x00 ∷ 0x00 ∷ 0x00 ∷ [] }

-- these two were sent, the park after the slew
abbrev pub sent : List Entry
sent = park ∷ slew ∷ []

-- the slew is proposed with so many votes, and nothing is decided
abbrev pub slew_proposed : ℕ → Token Entry
slew_proposed votes = record { votes = votes; proposal = slew ∷ []; decisions = [] }

-- the slew is decided, and the park proposed with so many votes
abbrev pub park_proposed : ℕ → Token Entry
park_proposed votes = record { votes = votes; proposal = park ∷ []; decisions = (slew ∷ []) ∷ [] }

-- both are decided, and nothing is proposed
abbrev pub both_decided : Token Entry
both_decided = record { votes = 1; proposal = []; decisions = (slew ∷ []) ∷ (park ∷ []) ∷ [] }

-- the history when box 3, which made stamp 4, has its next turn, of stamp 11; stamp 4 was made after stamp 5
abbrev pub half_way : History Entry
half_way = (9, slew_proposed 1) ∷ (7, slew_proposed 1) ∷ (4, park_proposed 1) ∷ (5, slew_proposed 1) ∷ (3, slew_proposed 2) ∷ (2, slew_proposed 1) ∷ begun

-- the whole history, the newest first
abbrev pub worked : History Entry
worked = (13, both_decided) ∷ (6, slew_proposed 2) ∷ (12, park_proposed 2) ∷ (11, park_proposed 1) ∷ half_way

-- It is lawful, so it is sound; and by stamp, the way in which each token came about.
pub record Worked : Type 0 where
  pub lawful : Lawful (Put seven sent) (In worked) 2
  pub sound : Sound seven sent worked
  -- the dummies, and round 0
  pub stamp_0 : Empty {E = Entry} 0 (empty 0)
  pub stamp_1 : Empty {E = Entry} 1 (empty 1)
  -- fresh, then kept with one vote more
  pub stamp_2 : Fresh (Put seven sent) (slew_proposed 1) (empty 1)
  pub stamp_3 : Keep 2 3 2 (slew_proposed 2) (slew_proposed 1)
  -- kept over a gap, from stamp 3; and later the decision, from stamp 3 too
  pub stamp_5 : Keep 2 5 3 (slew_proposed 1) (slew_proposed 2)
  pub stamp_4 : Decide (Put seven sent) 2 4 3 (park_proposed 1) (slew_proposed 2)
  -- kept over gaps, so that the votes never suffice
  pub stamp_7 : Keep 2 7 5 (slew_proposed 1) (slew_proposed 1)
  pub stamp_9 : Keep 2 9 7 (slew_proposed 1) (slew_proposed 1)
  -- the box has the decision of stamp 4 in its log, and the parent, of stamp 9, lacks it
  pub stamp_11 : Old (Put seven sent) (In half_way) 11 (park_proposed 1) (slew_proposed 1)
  pub stamp_12 : Keep 2 12 11 (park_proposed 2) (park_proposed 1)
  -- box 5 has its first turn late, from stamp 5, and then its next, from stamp 12
  pub stamp_6 : Keep 2 6 5 (slew_proposed 2) (slew_proposed 1)
  pub stamp_13 : Decide (Put seven sent) 2 13 12 both_decided (park_proposed 2)
