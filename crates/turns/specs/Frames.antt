-- What a started box makes of a frame's bytes.
use Rattle.std.specs.Prelude.{◌≡◌, ℕ, false, List, Some, Ok, Err, Result}
use Rattle.std.specs.List.{ContainsAt as Has, AllByRecursion}
use Rattle.frames.specs.declared.plan.Plan.{Plan}
use Rattle.frames.specs.declared.Entry.{Entry}
use Rattle.frames.specs.Contents.{Token, Content, has}
use Rattle.frames.specs.Contents.Content.{token}
use Rattle.frames.specs.Reading.{read_as}
use Rattle.history.specs.Histories.{History, Begins}
use Rattle.boxes.specs.declared.Outcome.{Outcome}
use Rattle.boxes.specs.declared.Outcome.TheVariants as outcome
use Rattle.boxes.specs.declared.BoxFault.{BoxFault}
use Rattle.boxes.specs.Boxes.{Turn, Box, log_ids, passed}
use Rattle.boxes.specs.Laws.{Logged, ComesFrom, LoggedFrom, Offered}
use Rattle.records.specs.declared.BoxRecord.{BoxRecord}
use Rattle.turns.specs.declared.turn.Turn.{Turn as OpenedTurn}

-- The answer without the turn.
abbrev pub outcome_of : {T : Type 0} → Outcome T → Outcome (Unit {0})
outcome_of outcome.Kept = outcome.Kept
outcome_of outcome.Known = outcome.Known
outcome_of outcome.Waits = outcome.Waits
outcome_of outcome.Stale = outcome.Stale
outcome_of (outcome.Learned k) = outcome.Learned k
outcome_of (outcome.Opened t) = outcome.Opened tt

abbrev pub answered : {T : Type 0} → Result (Outcome T) BoxFault → Result (Outcome (Unit {0})) BoxFault
answered (Ok h) = Ok (outcome_of h)
answered (Err e) = Err e

-- A turn that is handed out is of the record's seat and awaited round.
abbrev pub TurnOf : BoxRecord → Result (Outcome OpenedTurn) BoxFault → Type 0
TurnOf r (Ok outcome.Kept) = Unit {0}
TurnOf r (Ok outcome.Known) = Unit {0}
TurnOf r (Ok outcome.Waits) = Unit {0}
TurnOf r (Ok outcome.Stale) = Unit {0}
TurnOf r (Ok (outcome.Learned k)) = Unit {0}
TurnOf r (Ok (outcome.Opened t)) = (t.seat ≡ r.seat) × (t.round ≡ r.awaited)
TurnOf r (Err e) = Unit {0}

-- Only a kept order, a lesson and an opened turn change the record; else every byte of it stays.
abbrev pub Unmoved : Result (Outcome (Unit {0})) BoxFault → (was is : BoxRecord) → Type 0
Unmoved (Ok outcome.Kept) was is = Unit {0}
Unmoved (Ok outcome.Known) was is = is ≡ was
Unmoved (Ok outcome.Waits) was is = is ≡ was
Unmoved (Ok outcome.Stale) was is = is ≡ was
Unmoved (Ok (outcome.Learned k)) was is = Unit {0}
Unmoved (Ok (outcome.Opened u)) was is = Unit {0}
Unmoved (Err e) was is = is ≡ was

-- What holds of every frame that a box is handed which is on and whose record keeps the rules: its log grows at its end only, by decisions of the
-- handed token or by its proposal with f+1 votes; the unordered entries are those kept or sent and not in the log; and the token of
-- an opened turn comes about from the handed one and the box's log in one of the history's four ways.
pub record FrameLaws (p : Plan) (b : Box) (bytes : List ℕ) (r : Result (Outcome (Unit {0})) BoxFault) (b' : Box) : Type 0 where
  pub grows : Begins b.log b'.log
  pub logs : (c : Content) → read_as p bytes ≡ Ok c → LoggedFrom p b c b'.log
  pub were : (c : Content) → read_as p bytes ≡ Ok c → (e : Entry) → Has b'.unordered e → Offered p b c e × (has e.id (log_ids b'.log) ≡ false)
  pub are : (c : Content) → read_as p bytes ≡ Ok c → (e : Entry) → Offered p b c e → has e.id (log_ids b'.log) ≡ false → Has b'.unordered e
  pub makes : (t : Token) → read_as p bytes ≡ Ok (token t) → r ≡ Ok (outcome.Opened tt) → (turn : Turn) → b'.turn ≡ Some turn →
      (sent : List Entry) → AllByRecursion (Has sent) b.unordered → (H : History Entry) → Logged H b → ComesFrom p sent H b t (passed b' turn)
