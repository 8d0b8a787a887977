-- What a box's record means, and the rules that it keeps.
use Rattle.std.specs.Prelude.{◌≡◌, ℕ, ◌+◌, ◌/◌, ◌%◌, ◌≤◌, Bool, false, List, [], ◌++◌, Some, Option}
use Rattle.std.specs.List.{flat_map, AllByRecursion}
use Rattle.frames.specs.declared.plan.Plan.{Plan}
use Rattle.frames.specs.declared.Entry.{Entry}
use Rattle.frames.specs.Contents.{Token, has, ids_of, Once, LawfulList, LawfulDecision, LawfulToken}

-- An open turn: the votes and the proposal that it would pass.
pub record Turn : Type 0 where
  pub votes : ℕ
  pub proposal : List Entry

-- A record: the numbers n and f of its plan, its seat, the round that it awaits, its log of decisions, the entries that it knows
-- and that no decision in its log has, its last serial, whether it doubts its predecessor, whether it is on, and its turn.
pub record Box : Type 0 where
  pub n : ℕ
  pub f : ℕ
  pub seat : ℕ
  pub awaited : ℕ
  pub log : List (List Entry)
  pub unordered : List Entry
  pub last : ℕ
  pub doubt : Bool
  pub on : Bool
  pub turn : Option Turn

-- The ids of a log, decision by decision.
abbrev pub log_ids : List (List Entry) → List ℕ
log_ids = flat_map ids_of

-- The ids of a token, the proposed ones first.
abbrev pub token_ids : Token → List ℕ
token_ids t = ids_of t.proposal ++ log_ids t.decisions

-- The token that a turn passes: of this box, with the awaited round, whose stamp is one more, and with the log as decisions.
abbrev pub passed : Box → Turn → Token
passed b t = record { sender = b.seat; stamp = b.awaited + 1; votes = t.votes; proposal = t.proposal; decisions = b.log }

-- An id of the box's own seat has at most its last serial.
abbrev pub Used : Box → ℕ → Type 0
Used b i = i / 16 ≡ b.seat → i % 16 ≤ b.last

-- Unordered entries beside a log: both lawful, no id in the log twice, and no unordered one in the log.
pub record Lists (p : Plan) (unordered : List Entry) (log : List (List Entry)) : Type 0 where
  pub entries : LawfulList p unordered
  pub apart : AllByRecursion (λ i. has i (log_ids log) ≡ false) (ids_of unordered)
  pub decisions : AllByRecursion (LawfulDecision p) log
  pub once : Once [] (log_ids log)

-- The rules of a record of this plan and this seat.
pub record Keeps (p : Plan) (i : ℕ) (b : Box) : Type 0 where
  pub boxes : b.n ≡ p.n
  pub failing : b.f ≡ p.f
  pub seated : b.seat ≡ i
  pub in_turn : b.awaited % p.n ≡ i
  pub lists : Lists p b.unordered b.log
  pub unordered_used : AllByRecursion (Used b) (ids_of b.unordered)
  pub logged_used : AllByRecursion (Used b) (log_ids b.log)
  pub serials : b.last ≤ 15
  pub turns : (t : Turn) → b.turn ≡ Some t → LawfulToken p (passed b t)

-- A record's lists as a token: its rules for them are those of this token.
abbrev pub listed : List Entry → List (List Entry) → Token
listed unordered log = record { sender = 0; stamp = 1; votes = 1; proposal = unordered; decisions = log }
