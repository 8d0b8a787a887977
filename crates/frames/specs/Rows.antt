-- The number of each refusal, and the word for each cause of a frame's fault.
use Rattle.std.specs.Prelude.{ℕ, List, ◌++◌, codes, decimal}
use Rattle.frames.specs.declared.PlanFault.{PlanFault}
use Rattle.frames.specs.declared.PlanFault.TheVariants as fault
use Rattle.frames.specs.declared.FrameFault.{FrameFault}
use Rattle.frames.specs.declared.Cause.{Cause}
use Rattle.frames.specs.declared.Cause.TheVariants as cause

abbrev pub plan_row : PlanFault → ℕ
plan_row fault.Plan = 2

-- in each layer that carries a frame's fault; its values are the place and the cause
abbrev pub frame_row : FrameFault → ℕ
frame_row e = 9

abbrev pub cause_name : Cause → List ℕ
cause_name cause.Length = codes "length"
cause_name cause.Kind = codes "kind"
cause_name cause.Plan = codes "plan"
cause_name cause.Range = codes "range"
cause_name cause.Ids = codes "ids"

-- a fault in words: the place and the cause
abbrev pub frame_fault_words : FrameFault → List ℕ
frame_fault_words e = codes "byte " ++ (decimal e.place ++ (codes ", " ++ cause_name e.cause))
