-- What a table of entries holds, and what each change makes of it.
use Rattle.std.specs.Prelude.{◌≡◌, ℕ, ◌<◌, Bool, false, cond, not, ◌&&◌, List, [], ◌∷◌, ◌++◌, length, take, drop, replicate, filter, nat_le, nat_lt, slice_index_or}
use Rattle.std.specs.List.{AllByRecursion}
use Rattle.frames.specs.declared.Entry.{Entry}
use Rattle.frames.specs.Contents.{has, ids_of, Ascend}
pub use Rattle.frames.specs.Contents.{Marks}
use Rattle.lists.specs.declared.Entries.{Entries}

-- how many entries a table can hold
abbrev pub room : ℕ
room = 105

-- the meaning of a table: the first of its items, as many as it counts
abbrev pub held : Entries → List Entry
held t = take t.count t.items

-- the table that holds these entries, with its further items as they were
abbrev pub holding : List Entry → Entries → Entries
holding es t = record { items = es ++ drop (length es) t.items; count = length es }

abbrev pub zero_entry : Entry
zero_entry = record { id = 0; body = replicate 8 0 }

abbrev pub empty : Entries
empty = record { items = replicate room zero_entry; count = 0 }

-- an entry put before the first one with a greater id
abbrev pub inserted : Entry → List Entry → List Entry
inserted e [] = e ∷ []
inserted e (x ∷ xs) = cond (nat_lt e.id x.id) (e ∷ x ∷ xs) (x ∷ inserted e xs)

-- the table with an entry more, in its place
abbrev pub with_entry : Entry → Entries → Entries
with_entry e t = holding (inserted e (held t)) t

-- the table with a part more, at its end
abbrev pub with_part : List Entry → Entries → Entries
with_part part t = holding (held t ++ part) t

-- ids that ascend above `last` still do with a new id above `last` among them
abbrev pub AscendsStill : Entry → List Entry → List Entry → Type 0
AscendsStill e es es' =
    (last : ℕ) → Ascend last (ids_of es) → last < e.id → has e.id (ids_of es) ≡ false → Ascend last (ids_of es')

-- the entries whose ids are not flagged
abbrev pub staying : List Bool → List Entry → List Entry
staying flags = filter (λ (e : Entry). not (slice_index_or flags e.id false))

-- the table without the flagged ids; one whose count does not fit stays
abbrev pub without : List Bool → Entries → Entries
without flags t = cond (nat_le t.count room) (holding (staying flags (held t)) t) t

-- ids that ascend still do
abbrev pub KeepsAscending : List Entry → List Entry → Type 0
KeepsAscending es es' = (last : ℕ) → Ascend last (ids_of es) → Ascend last (ids_of es')

-- the ids that are held are those held before which are not flagged
abbrev pub Unflagged : List Bool → List Entry → List Entry → Type 0
Unflagged flags es es' = (i : ℕ) → has i (ids_of es') ≡ (not (slice_index_or flags i false) && has i (ids_of es))

-- with the flags of some ids, the entries of other ids stay
abbrev pub LeavesMarked : List Bool → List Entry → List Entry → Type 0
LeavesMarked flags es es' =
    (ids : List ℕ) → Marks flags ids → AllByRecursion (λ (e : Entry). e.id < 256) es → es' ≡ filter (λ (e : Entry). not (has e.id ids)) es
