-- In a run no hand is refused for a plan, a frame, an open turn or a history.
use Rattle.std.proofs.Common.{ℕ, List, Err}
use Rattle.frames.specs.declared.plan.Plan.{Plan}
use Rattle.frames.specs.declared.Entry.{Entry}
use Rattle.frames.specs.Contents.Content.{order, token}
use Rattle.history.specs.Histories.{History}
use Rattle.history.specs.Entries.{carried}
use Rattle.history.proofs.Orders.{orders_agree}
use Rattle.boxes.specs.declared.BoxFault.TheVariants as refused
use Rattle.agreement.specs.declared.ArrayFault.{ArrayFault}
use Rattle.agreement.specs.declared.ArrayFault.TheVariants as fault
use Rattle.agreement.specs.Arrays.{Machine, State, Hands, BoxRefused}
use Rattle.agreement.specs.Runs.{MayRefuse, RunsAreSmooth}
use Rattle.agreement.proofs.Invariant.{Inv}
use Rattle.agreement.proofs.Hand.{genuine_at, member_of}
use Rattle.agreement.proofs.Theorem.{holds}

module _ {R : Type 0} (p : Plan) (machine : Machine R) (H : History Entry) (sent : List Entry) (s : State R) (v : Inv p machine H sent s) (i place : ℕ) where
  never_open : BoxRefused p machine s i place refused.Open → ⊥
  never_open (w, (order e, r, x)) = x
  never_open (w, (token u, r, x)) = x.1 (v.boxes i w.may.there.below).idle

  never_split : BoxRefused p machine s i place refused.History → ⊥
  never_split (w, (order e, r, x)) = x
  never_split (w, (token u, r, x)) =
      let l = (v.boxes i w.may.there.below).logged in
      let m = (member_of p machine H sent s i place (token u) v w r).1 in
      x.2 (rw l.same ((orders_agree p sent H v.law).agree l.from u.stamp l.source (carried u) l.made m))

  smooth : (e : ArrayFault) (t : State R) → Hands p machine s i place (Err e) t → MayRefuse e
  smooth fault.Plan t x = x.0 (record { fits = v.fits; keeps = λ j l. (v.boxes j l).keeps })
  smooth fault.Full t x = x.0
  smooth fault.Serials t x = x.0
  smooth (fault.Frame q) t x = let k = genuine_at p machine H sent s i place v x.0.0 in cc (x.0.1, k.reads)
  smooth fault.Open t x = never_open x.0
  smooth fault.History t x = never_split x.0
  smooth _ t x = tt

pub runs_are_smooth : (R : Type 0) → RunsAreSmooth R
runs_are_smooth R p machine calls sent s run i place e t x = let h = holds p machine run in smooth p machine h.0 sent s h.1 i place e t x
