-- What a frame holds, which contents are lawful for a plan, and how contents are written.
use Rattle.std.specs.Prelude.{◌≡◌, ℕ, Ok, Err, Result, ◌+◌, ◌-◌, ◌*◌, ◌/◌, ◌%◌, ◌<◌, ◌≤◌, Bool, false, ◌||◌, ◌≢◌, List, [], ◌∷◌, ◌++◌, map, length, take, drop, ◌==◌, slice_index_or}
use Rattle.std.specs.List.{flat_map, AllByRecursion}
use Rattle.frames.specs.declared.plan.Plan.{Plan}
use Rattle.frames.specs.declared.Entry.{Entry}
use Rattle.frames.specs.declared.FrameKind.{FrameKind}
use Rattle.frames.specs.declared.FrameKind.TheVariants as kind
use Rattle.frames.specs.declared.Cause.{Cause}
use Rattle.frames.specs.declared.Cause.TheVariants as cause

-- A token's round is told by its stamp, which is one more: 0 is a dummy's.
pub record Token : Type 0 where
  pub sender : ℕ
  pub stamp : ℕ
  pub votes : ℕ
  pub proposal : List Entry
  pub decisions : List (List Entry)

pub data Content : Type 0 where
  order : Entry → Content
  token : Token → Content

-- no frame of a plan is longer
abbrev pub frame_most : ℕ
frame_most = 1060

-- the kind that a frame's first byte names: 1 an order, 2 a token, and no other
abbrev pub NamesKind : ℕ → Result FrameKind Cause → Type 0
NamesKind byte (Ok kind.Order) = byte ≡ 1
NamesKind byte (Ok kind.Token) = byte ≡ 2
NamesKind byte (Err e) = (e ≡ cause.Kind) × ((byte ≢ 1) × (byte ≢ 2))

-- Writing

abbrev pub plan_byte : Plan → ℕ
plan_byte p = 16 * p.n + p.f

abbrev pub entry_bytes : Entry → List ℕ
entry_bytes e = e.id ∷ e.body

abbrev pub decision_bytes : List Entry → List ℕ
decision_bytes d = length d ∷ flat_map entry_bytes d

-- four bytes, the highest first
abbrev pub four_bytes : ℕ → List ℕ
four_bytes s = s / 16777216 % 256 ∷ s / 65536 % 256 ∷ s / 256 % 256 ∷ s % 256 ∷ []

abbrev pub token_bytes : Plan → Token → List ℕ
token_bytes p t =
    (2 ∷ plan_byte p ∷ t.sender ∷ four_bytes t.stamp) ++ (t.votes ∷ length t.proposal ∷ length t.decisions
    ∷ flat_map entry_bytes t.proposal ++ flat_map decision_bytes t.decisions)

-- entries cut into decisions of these lengths
abbrev pub parted : List ℕ → List Entry → List (List Entry)
parted [] es = []
parted (c ∷ cs) es = take c es ∷ parted cs (drop c es)

abbrev pub bytes_of : Plan → Content → List ℕ
bytes_of p (order e) = 1 ∷ plan_byte p ∷ entry_bytes e
bytes_of p (token t) = token_bytes p t

-- What is lawful

abbrev pub has : ℕ → List ℕ → Bool
has i [] = false
has i (j ∷ js) = i == j || has i js

-- a flag for each byte: whether it is among these ids
abbrev pub Marks : List Bool → List ℕ → Type 0
Marks flags ids = (i : ℕ) → i < 256 → slice_index_or flags i false ≡ has i ids

abbrev pub ids_of : List Entry → List ℕ
ids_of = map (λ (e : Entry). e.id)

-- the box of an id is one of the plan's, and its serial is not 0
abbrev pub InRange : Plan → ℕ → Type 0
InRange p i = (i / 16 < p.n) × (i % 16 ≢ 0)

-- an id that is a byte and a body of eight bytes, as every entry that a program holds has
pub record Whole (e : Entry) : Type 0 where
  pub id_byte : e.id < 256
  pub eight : length e.body ≡ 8
  pub bytes : AllByRecursion (λ b. b < 256) e.body

pub record LawfulEntry (p : Plan) (e : Entry) : Type 0 where
  pub id_in_range : InRange p e.id
  pub eight : length e.body ≡ 8
  pub bytes : AllByRecursion (λ b. b < 256) e.body

-- ids that ascend, all above `last`
abbrev pub Ascend : ℕ → List ℕ → Type 0
Ascend last [] = Unit {0}
Ascend last (i ∷ is) = (last < i) × Ascend i is

-- each id is none of `met` and none of those before it
abbrev pub Once : List ℕ → List ℕ → Type 0
Once met [] = Unit {0}
Once met (i ∷ is) = (has i met ≡ false) × Once (i ∷ met) is

-- entries of one list: lawful, with ascending ids
pub record LawfulList (p : Plan) (es : List Entry) : Type 0 where
  pub each : AllByRecursion (LawfulEntry p) es
  pub ascend : Ascend 0 (ids_of es)

pub record LawfulDecision (p : Plan) (d : List Entry) : Type 0 where
  pub entries : LawfulList p d
  pub some : 0 < length d

-- a dummy comes from one of the last f boxes and is empty
pub record Dummy (p : Plan) (t : Token) : Type 0 where
  pub late_sender : p.n - p.f ≤ t.sender
  pub no_votes : t.votes ≡ 0
  pub no_proposal : t.proposal ≡ []
  pub no_decisions : t.decisions ≡ []

pub record Round (p : Plan) (t : Token) : Type 0 where
  pub in_turn : (t.stamp - 1) % p.n ≡ t.sender
  pub voted : 1 ≤ t.votes
  pub votes_fit : t.votes ≤ p.f
  pub one_vote : t.proposal ≡ [] → t.votes ≡ 1

pub record LawfulToken (p : Plan) (t : Token) : Type 0 where
  pub sender_fits : t.sender < p.n
  pub stamp_fits : t.stamp ≤ 1000000
  pub dummy : t.stamp ≡ 0 → Dummy p t
  pub round : t.stamp ≢ 0 → Round p t
  pub proposal_lawful : LawfulList p t.proposal
  pub decisions_lawful : AllByRecursion (LawfulDecision p) t.decisions
  pub no_id_twice : Once [] (ids_of t.proposal ++ flat_map ids_of t.decisions)

abbrev pub Lawful : Plan → Content → Type 0
Lawful p (order e) = LawfulEntry p e
Lawful p (token t) = LawfulToken p t
