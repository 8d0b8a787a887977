-- What a log holds: its decisions, one after the other in one table of entries.
use Rattle.std.specs.Prelude.{◌≡◌, ℕ, ◌+◌, ◌<◌, ◌≤◌, ◌⊎◌, Bool, true, false, cond, ◌&&◌, List, length, take, replicate, Some, None, sum, Option, ◌==◌, nat_le, nat_lt, slice_set}
use Rattle.std.specs.List.{between}
use Rattle.frames.specs.declared.Entry.{Entry}
use Rattle.frames.specs.Contents.{parted}
use Rattle.history.specs.Histories.{Begins}
use Rattle.lists.specs.Tables.{room, held, with_part, empty}
use Rattle.logs.specs.declared.AppendFault.{AppendFault}
use Rattle.logs.specs.declared.AppendFault.TheVariants as fault
use Rattle.logs.specs.declared.Log.{Log}

-- the lengths of the decisions
abbrev pub lengths_of : Log → List ℕ
lengths_of l = take l.decided l.lengths

-- the meaning of a log: its decisions
abbrev pub log_of : Log → List (List Entry)
log_of l = parted (lengths_of l) (held l.entries)

-- both counts fit, and the lengths add up to the entries that are held
abbrev pub adds_up : Log → Bool
adds_up l = nat_le l.entries.count room && (nat_le l.decided room && sum (lengths_of l) == length (held l.entries))

abbrev pub empty_log : Log
empty_log = record { entries = empty; lengths = replicate room 0; decided = 0 }

-- a decision starts after those before it, and ends as the next one starts
abbrev pub start_of : Log → ℕ → ℕ
start_of l k = sum (take k (lengths_of l))

-- the entries from the start of decision k to its end, where there is one and the entries reach so far
abbrev pub decision_at : Log → ℕ → Option (List Entry)
decision_at l k =
    cond (nat_lt k (length (lengths_of l)) && nat_le (start_of l (k + 1)) (length (held l.entries)))
    (Some (between (start_of l k) (start_of l (k + 1)) (held l.entries))) None

-- a log takes a decision if it adds up and has room for it, and the decision is not empty
abbrev pub takes : Log → List Entry → Bool
takes l d =
    adds_up l && (nat_lt l.decided room && (nat_lt 0 (length d) && nat_le (l.entries.count + length d) room))

-- why a log refuses a decision, and that none of the reasons before it holds
abbrev pub Refuses : Log → List Entry → AppendFault → Type 0
Refuses l d fault.Unsound = adds_up l ≡ false
Refuses l d fault.Empty = (adds_up l ≡ true) × (length d ≡ 0)
Refuses l d fault.Full = (adds_up l ≡ true) × (0 < length d) × ((room ≤ l.decided) ⊎ (room < l.entries.count + length d))

-- the log with one decision more, its further items and lengths as they were
abbrev pub appended : List Entry → Log → Log
appended d l =
    record {
      entries = with_part d l.entries;
      lengths = slice_set l.lengths l.decided (length d);
      decided = l.decided + 1;
    }

-- one log begins another: the other's first decisions, as many as it has, are its own
abbrev pub BeginsLog : Log → Log → Type 0
BeginsLog l m = Begins (log_of l) (log_of m)

-- the same, by the lengths and the entries
abbrev pub BeginsByParts : Log → Log → Type 0
BeginsByParts l m = Begins (lengths_of l) (lengths_of m) × Begins (held l.entries) (held m.entries)
