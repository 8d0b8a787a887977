-- Where the invariant holds, the table is of the array's own plan alone; so calls by another plan are refused.
use Rattle.std.proofs.Common.{◌≡◌, ℕ, ◌<◌, ◌⊎◌, List, Ok, Err, Result, sym, refl, ap, ◌∙◌, subst, inl, inr, ⊎_elim, arith}
use Rattle.std.proofs.lemmas.Bool.{cases_eq}
use Rattle.frames.specs.declared.plan.Plan.{Plan}
use Rattle.frames.specs.declared.Entry.{Entry}
use Rattle.frames.proofs.Ring.{same_plan}
use Rattle.history.specs.Histories.{History}
use Rattle.boxes.specs.declared.Outcome.{Outcome}
use Rattle.boxes.specs.Boxes.{Box}
use Rattle.agreement.specs.declared.ArrayFault.{ArrayFault}
use Rattle.agreement.specs.declared.ArrayFault.TheVariants as fault
use Rattle.agreement.specs.declared.Passed.{Passed}
use Rattle.agreement.specs.Arrays.{Machine, State, Table, Uncallable, Sends, Hands, Nowhere, Loses, Repeats, Alters}
use Rattle.agreement.specs.Runs.{Differ, Refused}
use Rattle.agreement.proofs.Invariant.{Inv}

module _ {R : Type 0} (p : Plan) (machine : Machine R) (H : History Entry) (sent : List Entry) (s : State R) (v : Inv p machine H sent s) where
  pub own_table : Table p s
  own_table = record { fits = v.fits; keeps = λ i low. (v.boxes i low).keeps }

  pub table_plan : (q : Plan) → Table q s → q ≡ p
  table_plan q tab =
      let own : 0 < p.n = omega (arith, p.least) in
      let other : 0 < q.n = omega (arith, q.least) in
      same_plan q p (sym tab.fits.boxes ∙ v.fits.boxes) (sym (tab.keeps 0 other).failing ∙ (v.boxes 0 own).keeps.failing)

  pub no_table : (q : Plan) → Differ q p → Table q s → ⊥
  no_table q d tab = let e = table_plan q tab in ⊎_elim (λ h. h (ap (λ (x : Plan). x.n) e)) (λ h. h (ap (λ (x : Plan). x.f) e)) d

  -- any plan is the array's own, or has no table here
  pub judge : (q : Plan) → Table q s ⊎ (Table q s → ⊥)
  judge q = elim (cases_eq q.n p.n) [
    | inr ne ↦ inr (no_table q (inl ne))
    | inl en ↦ elim (cases_eq q.f p.f) [
      | inr ne ↦ inr (no_table q (inr ne))
      | inl ef ↦ inl (subst (λ (x : Plan). Table x s) (sym (same_plan q p en ef)) own_table)
    ]
  ]

-- each call finds a table of its plan, or is refused by row 2
module _ {R : Type 0} (q : Plan) (machine : Machine R) (s t : State R) where
  abbrev pub Judged : {X : Type 0} → Result X ArrayFault → Type 0
  Judged r = Table q s ⊎ Refused machine s r t

  uncallable_judged : {X : Type 0} (i : ℕ) (e : ArrayFault) → Uncallable q s i e → t ≡ s → Judged {X = X} (Err e)
  uncallable_judged i fault.Plan u same = inr (refl, same)
  uncallable_judged i fault.Box u same = inl u.0
  uncallable_judged i fault.Off u same = inl u.0.table
  uncallable_judged i _ u same = absurd u

  nowhere_judged : {X : Type 0} (i place : ℕ) (e : ArrayFault) → Nowhere q machine s i place e → t ≡ s → Judged {X = X} (Err e)
  nowhere_judged i place fault.Plan u same = inr (refl, same)
  nowhere_judged i place fault.Box u same = inl u.0
  nowhere_judged i place fault.Place u same = inl u.0.table
  nowhere_judged i place _ u same = absurd u

  pub sends_judged : (i : ℕ) (body : List ℕ) (r : Result (ℕ × ℕ) ArrayFault) → Sends q machine s i body r t → Judged r
  sends_judged i body (Ok (id, posts)) x = inl x.may.there.table
  sends_judged i body (Err fault.Serials) x = inl x.0.0.there.table
  sends_judged i body (Err e) x = uncallable_judged i e x.0 x.1

  pub hands_judged : (i place : ℕ) (r : Result (Outcome Passed) ArrayFault) → Hands q machine s i place r t → Judged r
  hands_judged i place (Ok a) x = inl x.0.may.there.table
  hands_judged i place (Err fault.Place) x = inl x.0.0.there.table
  hands_judged i place (Err (fault.Frame e)) x = inl x.0.0.may.there.table
  hands_judged i place (Err fault.Sender) x = inl x.0.0.may.there.table
  hands_judged i place (Err fault.Open) x = inl x.0.0.may.there.table
  hands_judged i place (Err fault.History) x = inl x.0.0.may.there.table
  hands_judged i place (Err fault.Rounds) x = inl x.0.0.may.there.table
  hands_judged i place (Err e) x = uncallable_judged i e x.0 x.1

  pub loses_judged : (i place : ℕ) (r : Result (Unit {0}) ArrayFault) → Loses q machine s i place r t → Judged r
  loses_judged i place (Ok u) x = inl x.0.table
  loses_judged i place (Err e) x = nowhere_judged i place e x.0 x.1

  pub repeats_judged : (i place : ℕ) (r : Result (Unit {0}) ArrayFault) → Repeats q machine s i place r t → Judged r
  repeats_judged i place (Ok u) x = inl x.0.table
  repeats_judged i place (Err fault.Full) x = inl x.0.0.table
  repeats_judged i place (Err (fault.Frame e)) x = inl x.0.0.table
  repeats_judged i place (Err e) x = nowhere_judged i place e x.0 x.1

  pub alters_judged : (change : Box → Box) (i : ℕ) (r : Result (Unit {0}) ArrayFault) → Alters q machine change s i r t → Judged r
  alters_judged change i (Ok u) x = inl x.0.there.table
  alters_judged change i (Err e) x = uncallable_judged i e x.0 x.1
