-- What a record means, and when it keeps a record's rules.
use Rattle.std.specs.Prelude.{◌≡◌, ℕ, ◌+◌, ◌%◌, Bool, true, false, ◌&&◌, Some, None, Option, Ok, Err, Result, ◌==◌, nat_le}
use Rattle.std.specs.Option.{option_map}
use Rattle.frames.specs.declared.plan.Plan.{Plan}
use Rattle.frames.specs.Contents.{LawfulToken}
use Rattle.lists.specs.Tables.{room, held}
use Rattle.logs.specs.Logs.{adds_up, log_of, lengths_of}
use Rattle.writing.specs.declared.Draft.{Draft}
use Rattle.boxes.specs.Boxes.{Turn, Box, Keeps, passed}
use Rattle.boxes.specs.declared.BoxFault.{BoxFault}
use Rattle.boxes.specs.declared.BoxFault.TheVariants as fault
use Rattle.records.specs.declared.OpenTurn.{OpenTurn}
use Rattle.records.specs.declared.BoxRecord.{BoxRecord}

abbrev pub turn_of : OpenTurn → Turn
turn_of t = record { votes = t.votes; proposal = held t.proposal }

-- The meaning of a record: lists in place of tables.
abbrev pub box_of : BoxRecord → Box
box_of r = record { n = r.n; f = r.f; seat = r.seat; awaited = r.awaited; log = log_of r.log; unordered = held r.unordered; last = r.last; doubt = r.doubt; on = r.on; turn = option_map turn_of r.turn }

abbrev pub turn_fits : Option OpenTurn → Bool
turn_fits None = true
turn_fits (Some t) = nat_le t.proposal.count room

-- The tables hold what they count, and the decisions' lengths add up to the entries.
abbrev pub tables_fit : BoxRecord → Bool
tables_fit r = nat_le r.unordered.count room && (adds_up r.log && turn_fits r.turn)

-- The numbers are those of this plan and seat, the awaited round is one of the seat's, and the last serial is at most 15.
abbrev pub numbers_keep : Plan → ℕ → BoxRecord → Bool
numbers_keep p i r = r.n == p.n && (r.f == p.f && (r.seat == i && (r.awaited % p.n == i && nat_le r.last 15)))

-- The token that an open turn would pass is a lawful one.
abbrev pub TurnLawful : Plan → Box → Type 0
TurnLawful p b = (t : Turn) → b.turn ≡ Some t → LawfulToken p (passed b t)

-- A record of this plan and seat that keeps a record's rules.
pub record KeepsRules (p : Plan) (i : ℕ) (r : BoxRecord) : Type 0 where
  pub tables : tables_fit r ≡ true
  pub rules : Keeps p i (box_of r)

-- The value is what `f` says of whether the record keeps the rules of this plan and seat.
abbrev pub JudgedRow : {X : Type 0} → Plan → ℕ → BoxRecord → (Bool → X) → X → Type 0
JudgedRow p i r f x = (KeepsRules p i r → x ≡ f true) × ((KeepsRules p i r → ⊥) → x ≡ f false)

-- A record that is to be on: one that does not keep the rules is row 2, one that is off row 4.
abbrev pub ChecksOn : Plan → ℕ → BoxRecord → Result (Unit {0}) BoxFault → Type 0
ChecksOn p i r (Ok u) = KeepsRules p i r × (r.on ≡ true)
ChecksOn p i r (Err fault.Short) = ⊥
ChecksOn p i r (Err fault.Plan) = KeepsRules p i r → ⊥
ChecksOn p i r (Err fault.Off) = KeepsRules p i r × (r.on ≡ false)
ChecksOn p i r (Err fault.Serials) = ⊥
ChecksOn p i r (Err (fault.Frame e)) = ⊥
ChecksOn p i r (Err fault.Sender) = ⊥
ChecksOn p i r (Err fault.Open) = ⊥
ChecksOn p i r (Err fault.History) = ⊥
ChecksOn p i r (Err fault.Rounds) = ⊥
ChecksOn p i r (Err fault.Turn) = ⊥

-- The draft of the token that an open turn would pass, its lists as they stand in the tables.
pub record DraftOf (r : BoxRecord) (t : OpenTurn) (d : Draft) : Type 0 where
  pub sender : d.sender ≡ r.seat
  pub stamp : d.stamp ≡ r.awaited + 1
  pub votes : d.votes ≡ t.votes
  pub proposal : d.proposal.now ≡ held t.proposal
  pub lengths : d.lengths.now ≡ lengths_of r.log
  pub entries : d.entries.now ≡ held r.log.entries
