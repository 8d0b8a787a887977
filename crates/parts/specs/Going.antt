-- Going through the parts of a frame: entries out of their bytes, and one decision after another.
use Rattle.std.specs.Prelude.{ℕ, zero, suc, ◌*◌, ◌/◌, cond, List, [], ◌∷◌, length, take, drop, Some, None, Option, nat_le, nat_lt}
use Rattle.std.specs.Option.{option_map, unwrap_or}
use Rattle.frames.specs.declared.Entry.{Entry}
use Rattle.frames.specs.Reading.{entry_in, entries_in}
use Rattle.parts.specs.declared.Split.{Split}

-- entry i of nine bytes each
abbrev pub entry_at : List ℕ → ℕ → Option Entry
entry_at bs i = cond (nat_lt i (length bs / 9)) (Some (entry_in (drop (9 * i) bs))) None

-- the entries of the first decision, which its count tells, and the further decisions
abbrev pub split_as : List ℕ → Option (List ℕ × List ℕ)
split_as [] = None
split_as (c ∷ bs) = cond (nat_le (9 * c) (length bs)) (Some (take (9 * c) bs, drop (9 * c) bs)) None

abbrev pub also : {A B : Type 0} → Option A → (A → Option B) → Option B
also None f = None
also (Some a) f = f a

-- the entries of decision k
abbrev pub decision_at : ℕ → List ℕ → Option (List ℕ)
decision_at zero bs = option_map (λ s. s.0) (split_as bs)
decision_at (suc k) bs = also (split_as bs) (λ s. decision_at k s.1)

-- a split by the lists that it borrows
abbrev pub parted : Option Split → Option (List ℕ × List ℕ)
parted None = None
parted (Some s) = Some (s.first.now, s.rest.now)

-- all the entries, of nine bytes each
abbrev pub entries_of : List ℕ → List Entry
entries_of bs = entries_in (length bs / 9) bs

-- the entries of each decision, of so many decisions at most
abbrev pub decisions_within : ℕ → List ℕ → List (List Entry)
decisions_within zero bs = []
decisions_within (suc k) bs = unwrap_or (option_map (λ s. entries_of s.0 ∷ decisions_within k s.1) (split_as bs)) []

-- of all of them: each has a byte at least
abbrev pub decisions_of : List ℕ → List (List Entry)
decisions_of bs = decisions_within (length bs) bs
