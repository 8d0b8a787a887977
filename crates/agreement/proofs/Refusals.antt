-- In a run each call by another plan than the array's is refused by row 2.
use Rattle.std.proofs.Common.{true, false, Result, inl, inr}
use Rattle.frames.specs.declared.plan.Plan.{Plan}
use Rattle.boxes.specs.Turns.{doubting, off}
use Rattle.agreement.specs.declared.ArrayFault.{ArrayFault}
use Rattle.agreement.specs.Arrays.{Machine, State, Table}
use Rattle.agreement.specs.Runs.{Refused, Refuses, OtherPlansRefused}
use Rattle.agreement.proofs.Plans.{Judged, no_table, sends_judged, hands_judged, loses_judged, repeats_judged, alters_judged}
use Rattle.agreement.proofs.Theorem.{holds}

module _ {R : Type 0} (q : Plan) (machine : Machine R) (s : State R) (untabled : Table q s → ⊥) where
  left_refused : {X : Type 0} (r : Result X ArrayFault) (t : State R) → Judged q machine s t r → Refused machine s r t
  left_refused r t (inl tab) = absurd (untabled tab)
  left_refused r t (inr refused) = refused

  refuses : Refuses machine s q
  refuses = record {
    sends = λ i body r t x. left_refused r t (sends_judged q machine s t i body r x);
    hands = λ i place r t x. left_refused r t (hands_judged q machine s t i place r x);
    loses = λ i place r t x. left_refused r t (loses_judged q machine s t i place r x);
    repeats = λ i place r t x. left_refused r t (repeats_judged q machine s t i place r x);
    doubts = λ i r t x. left_refused r t (alters_judged q machine s t (doubting true) i r x);
    trusts = λ i r t x. left_refused r t (alters_judged q machine s t (doubting false) i r x);
    switches = λ i r t x. left_refused r t (alters_judged q machine s t off i r x);
  }

pub other_plans_refused : (R : Type 0) → OtherPlansRefused R
other_plans_refused R p q machine calls sent s run d = let h = holds p machine run in refuses q machine s (no_table p machine h.0 sent s h.1 q d)
