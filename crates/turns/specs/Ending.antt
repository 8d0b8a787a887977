-- What ends a turn, and what a refusal hands back.
use Rattle.std.specs.Prelude.{◌≡◌, ℕ, ◌≤◌, true, List, take, Some, Ok, Err, Result}
use Rattle.frames.specs.declared.plan.Plan.{Plan}
use Rattle.frames.specs.Contents.{frame_most}
use Rattle.frames.specs.Contents.Content.{token}
use Rattle.frames.specs.Reading.{read_as}
use Rattle.boxes.specs.Boxes.{Box, passed}
use Rattle.boxes.specs.Boxes.{Turn as OpenTurn}
use Rattle.boxes.specs.declared.BoxFault.{BoxFault}
use Rattle.boxes.specs.Calls.{is_turn_of}
use Rattle.records.specs.declared.BoxRecord.{BoxRecord}
use Rattle.records.specs.Records.{box_of, KeepsRules}
use Rattle.turns.specs.declared.turn.Turn.{Turn}

-- The answer without the turn that a refusal hands back.
abbrev pub fault_only : {X : Type 0} → Result X (BoxFault × Turn) → Result X BoxFault
fault_only (Ok x) = Ok x
fault_only (Err (e, t)) = Err e

-- A refusal hands back the turn that was given.
abbrev pub HandsBack : {X : Type 0} → Turn → Result X (BoxFault × Turn) → Type 0
HandsBack t (Ok x) = Unit {0}
HandsBack t (Err (e, u)) = u ≡ t

-- What was passed reads back as the token of the turn.
abbrev pub PassReads : Plan → Box → Result ℕ (BoxFault × Turn) → List ℕ → Type 0
PassReads p b (Ok n) out = (t : OpenTurn) → b.turn ≡ Some t → read_as p (take n out) ≡ Ok (token (passed b t))
PassReads p b (Err x) out = Unit {0}

-- What a pass that is not refused has found.
pub record MayPass (p : Plan) (i : ℕ) (r : BoxRecord) (room seat round : ℕ) : Type 0 where
  pub roomy : frame_most ≤ room
  pub rules : KeepsRules p i r
  pub is_on : r.on ≡ true
  pub own : is_turn_of (box_of r) seat round ≡ true
