-- Every run leads only to unsplit states.
use Rattle.std.proofs.Common.{ℕ, Bool, true, false, List, [], ◌∷◌, ◌++◌, Ok, Err, Result, sym, refl, subst}
use Rattle.frames.specs.declared.plan.Plan.{Plan}
use Rattle.frames.specs.declared.Entry.{Entry}
use Rattle.history.specs.Histories.{History, begun}
use Rattle.boxes.specs.declared.Outcome.{Outcome}
use Rattle.boxes.specs.Boxes.{Box}
use Rattle.boxes.specs.Turns.{doubting, off, next_entry}
use Rattle.boxes.proofs.Staying.{keeps_doubting, keeps_off}
use Rattle.agreement.specs.declared.ArrayFault.{ArrayFault}
use Rattle.agreement.specs.declared.Passed.{Passed}
use Rattle.agreement.specs.declared.Call.{Call}
use Rattle.agreement.specs.declared.Call.TheVariants.{Send, Hand, Lose, Repeat, Doubt, Trust, SwitchOff}
use Rattle.agreement.specs.Arrays.{Machine, State, box_at, Sets, Sends, Hands, Loses, Repeats, Doubts, Trusts, Switches}
use Rattle.agreement.specs.Runs.{Run, noted, Reached, Begun, Played, GoesOn, RunsAreUnsplit}
use Rattle.agreement.specs.Runs.Run.{start, sends, hands, loses, repeats, doubts, trusts, switches}
use Rattle.agreement.proofs.Invariant.{SoundBox, Inv, Holds, sound_same}
use Rattle.agreement.proofs.Unsplits.{unsplit}
use Rattle.agreement.proofs.Steps.{alters_inv, loses_inv, repeats_inv, sent_inv}
use Rattle.agreement.proofs.Hand.{hands_inv}
use Rattle.agreement.proofs.Begin.{start_inv}

doubting_sound : (p : Plan) (H : History Entry) (sent : List Entry) (d : Bool) (i : ℕ) (b : Box) → SoundBox p H sent i b → SoundBox p H sent i (doubting d b)
doubting_sound p H sent d i b k = sound_same p H sent i b (doubting d b) k (keeps_doubting p i b k.keeps d) k.idle refl refl k.sent_unordered

off_sound : (p : Plan) (H : History Entry) (sent : List Entry) (i : ℕ) (b : Box) → SoundBox p H sent i b → SoundBox p H sent i (off b)
off_sound p H sent i b k = sound_same p H sent i b (off b) k (keeps_off p i b k.keeps) k.idle refl refl k.sent_unordered

module _ {R : Type 0} (p : Plan) (machine : Machine R) where
  sends_inv : (H : History Entry) (sent : List Entry) (s t : State R) (i : ℕ) (body : List ℕ) (r : Result (ℕ × ℕ) ArrayFault) → Sends p machine s i body r t → Inv p machine H sent s → Inv p machine H (noted r (next_entry (box_at s.boxes i) body) sent) t
  sends_inv H sent s t i body (Ok (id, posts)) x v = sent_inv p machine H sent s t i body id posts x v
  sends_inv H sent s t i body (Err e) x v = subst (Inv p machine H sent) (sym x.1) v

  pub holds : {calls : List Call} {sent : List Entry} {s : State R} → Run p machine calls sent s → Holds p machine sent s
  holds (start {s = s} t posts fresh x) = (begun, start_inv p machine s t posts fresh x)
  holds (sends {sent = sent} {s = s} t i body r run x) = let h = holds run in (h.0, sends_inv h.0 sent s t i body r x h.1)
  holds (hands {sent = sent} {s = s} t i place r run x) = let h = holds run in hands_inv p machine h.0 sent s t i place r x h.1
  holds (loses {sent = sent} {s = s} t i place r run x) = let h = holds run in (h.0, loses_inv p machine h.0 sent s t i place r x h.1)
  holds (repeats {sent = sent} {s = s} t i place r run x) = let h = holds run in (h.0, repeats_inv p machine h.0 sent s t i place r x h.1)
  holds (doubts {sent = sent} {s = s} t i r run x) = let h = holds run in (h.0, alters_inv p machine h.0 sent (doubting true) (doubting_sound p h.0 sent true) (λ b. refl) s t i r x h.1)
  holds (trusts {sent = sent} {s = s} t i r run x) = let h = holds run in (h.0, alters_inv p machine h.0 sent (doubting false) (doubting_sound p h.0 sent false) (λ b. refl) s t i r x h.1)
  holds (switches {sent = sent} {s = s} t i r run x) = let h = holds run in (h.0, alters_inv p machine h.0 sent off (off_sound p h.0 sent) (λ b. refl) s t i r x h.1)

pub runs_are_unsplit : (R : Type 0) → RunsAreUnsplit R
runs_are_unsplit R p machine calls sent s run = let h = holds p machine run in unsplit p machine h.0 sent s h.1

module _ {R : Type 0} (p : Plan) (machine : Machine R) where
  pub reached : {calls : List Call} {sent : List Entry} {s : State R} → Run p machine calls sent s → Reached p machine calls sent s
  reached {calls} {sent} {s} run = (run, runs_are_unsplit R p machine calls sent s run)

  pub sets_begin : (s t : State R) (r : Result ℕ ArrayFault) → Sets p machine s r t → Begun p machine s r t
  sets_begin s t (Ok posts) x = λ fresh. reached (start t posts fresh x)
  sets_begin s t (Err e) x = tt

  pub sends_go_on : (s t : State R) (i : ℕ) (body : List ℕ) (r : Result (ℕ × ℕ) ArrayFault) → Sends p machine s i body r t → GoesOn p machine s (Send i body) (noted r (next_entry (box_at s.boxes i) body)) t
  sends_go_on s t i body r x = λ calls sent run. reached (sends t i body r run x)

  pub hands_go_on : (s t : State R) (i place : ℕ) (r : Result (Outcome Passed) ArrayFault) → Hands p machine s i place r t → GoesOn p machine s (Hand i place) (λ l. l) t
  hands_go_on s t i place r x = λ calls sent run. reached (hands t i place r run x)

  pub loses_go_on : (s t : State R) (i place : ℕ) (r : Result (Unit {0}) ArrayFault) → Loses p machine s i place r t → GoesOn p machine s (Lose i place) (λ l. l) t
  loses_go_on s t i place r x = λ calls sent run. reached (loses t i place r run x)

  pub repeats_go_on : (s t : State R) (i place : ℕ) (r : Result (Unit {0}) ArrayFault) → Repeats p machine s i place r t → GoesOn p machine s (Repeat i place) (λ l. l) t
  repeats_go_on s t i place r x = λ calls sent run. reached (repeats t i place r run x)

  pub doubts_go_on : (s t : State R) (i : ℕ) (r : Result (Unit {0}) ArrayFault) → Doubts p machine s i r t → GoesOn p machine s (Doubt i) (λ l. l) t
  doubts_go_on s t i r x = λ calls sent run. reached (doubts t i r run x)

  pub trusts_go_on : (s t : State R) (i : ℕ) (r : Result (Unit {0}) ArrayFault) → Trusts p machine s i r t → GoesOn p machine s (Trust i) (λ l. l) t
  trusts_go_on s t i r x = λ calls sent run. reached (trusts t i r run x)

  pub switches_go_on : (s t : State R) (i : ℕ) (r : Result (Unit {0}) ArrayFault) → Switches p machine s i r t → GoesOn p machine s (SwitchOff i) (λ l. l) t
  switches_go_on s t i r x = λ calls sent run. reached (switches t i r run x)

  -- one more call of a list
  pub played_more : (calls : List Call) (c : Call) (note : List Entry → List Entry) (s t : State R) → Played p machine calls s → GoesOn p machine s c note t → Played p machine (calls ++ c ∷ []) t
  played_more calls c note s t h g = (note h.0, g calls h.0 h.1.0)
