-- Frames of an array of three boxes with f = 1, worked out.
use Rattle.std.specs.Prelude.{◌≡◌, ℕ, List, [], ◌∷◌, Ok, Err, Result}
use Rattle.std.proofs.Common.{lit≤}
use Rattle.frames.specs.declared.Cause.TheVariants as cause
use Rattle.frames.specs.declared.PlanFault.{PlanFault}
use Rattle.frames.specs.declared.plan.Plan.{Plan}
use Rattle.frames.specs.Contents.{Content, bytes_of}
use Rattle.frames.specs.Contents.Content.{token}
use Rattle.frames.specs.Rows.{plan_row}
use Rattle.frames.specs.Reading.{read_as, fault_at}

abbrev pub three : Plan
three = record { n = 3; f = 1; least = lit≤ tt; most = lit≤ tt; some = lit≤ tt; few = lit≤ tt; enough = lit≤ tt }

abbrev pub dummy : Content
dummy = token (record { sender = 2; stamp = 0; votes = 0; proposal = []; decisions = [] })

abbrev pub dummy_bytes : List ℕ
dummy_bytes = 0x02 ∷ 0x31 ∷ 0x02 ∷ 0 ∷ 0 ∷ 0 ∷ 0 ∷ 0 ∷ 0 ∷ 0 ∷ []

abbrev pub slew : List ℕ
slew = 0x01 ∷ 0x00 ∷ 0x00 ∷ 0x00 ∷ 0x64 ∷ 0xFF ∷ 0xFF ∷ 0xCE ∷ []

abbrev pub round_one : Content
round_one = token (record { sender = 1; stamp = 2; votes = 1; proposal = record { id = 0x01; body = slew } ∷ []; decisions = [] })

abbrev pub round_one_bytes : (votes : ℕ) → List ℕ
round_one_bytes v = 0x02 ∷ 0x31 ∷ 0x01 ∷ 0 ∷ 0 ∷ 0 ∷ 2 ∷ v ∷ 1 ∷ 0 ∷ 0x01 ∷ slew

pub record Worked : Type 0 where
  pub dummy_written : bytes_of three dummy ≡ dummy_bytes
  pub dummy_read : read_as three dummy_bytes ≡ Ok dummy
  pub round_one_written : bytes_of three round_one ≡ round_one_bytes 1
  pub round_one_read : read_as three (round_one_bytes 1) ≡ Ok round_one
  pub two_votes : read_as three (round_one_bytes 2) ≡ fault_at 7 cause.Range

-- seven boxes of which two may fail are a plan; with six it is row 2
abbrev pub WorkedPlans : Result Plan PlanFault → Result Plan PlanFault → Type 0
WorkedPlans (Ok p) (Err e) = (p.n ≡ 7) × (p.f ≡ 2) × (plan_row e ≡ 2)
WorkedPlans (Ok p) (Ok q) = ⊥
WorkedPlans (Err d) (Ok q) = ⊥
WorkedPlans (Err d) (Err e) = ⊥
