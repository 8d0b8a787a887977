-- Each call but a hand keeps the invariant.
use Rattle.std.proofs.Common.{◌≡◌, ℕ, ◌<◌, not, eqb, List, [], ◌∷◌, length, get_or, set, Ok, Err, filter, Result, sym, refl, ap, ◌∙◌, subst, arith}
use Rattle.std.specs.List.{range_with_len, ContainsAt as Has, AllByRecursion}
use Rattle.std.proofs.ByRecursion.{All-weaker, All-get_or, All-map, has_append_right, all_kept_by}
use Rattle.frames.specs.declared.plan.Plan.{Plan}
use Rattle.frames.specs.declared.Entry.{Entry}
use Rattle.frames.specs.Contents.{bytes_of}
use Rattle.frames.specs.Contents.Content.{order}
use Rattle.history.specs.Histories.{History, flat}
use Rattle.history.proofs.Orders.{orders_grow}
use Rattle.boxes.specs.Boxes.{Box}
use Rattle.boxes.specs.Turns.{next_entry, sending}
use Rattle.boxes.proofs.Ids.{all_inserted}
use Rattle.boxes.proofs.Staying.{keeps_sending}
use Rattle.boxes.proofs.Sending.{frames_read}
use Rattle.agreement.specs.declared.ArrayFault.{ArrayFault}
use Rattle.agreement.specs.Arrays.{Machine, State, to_others, box_at, frame_at, after, Sent, Loses, Repeats, Alters}
use Rattle.agreement.proofs.Mails.{Mails, appended_kept, taken_kept, posts_kept, mails_same}
use Rattle.agreement.proofs.Invariant.{SoundBox, Genuine, Inv, sound_same, sound_more, known_up, inv_set}
use Rattle.agreement.proofs.Begin.{all_counting, genuine}

module _ {R : Type 0} (p : Plan) (machine : Machine R) where
  -- one box is changed, with its log and its awaited round the same, and the mail too
  pub quiet_inv : (H : History Entry) (sent : List Entry) (s t : State R) (i : ℕ) (b : Box) → Inv p machine H sent s → i < p.n → t.boxes ≡ set s.boxes i b → t.readings ≡ s.readings → SoundBox p H sent i b → b.log ≡ (box_at s.boxes i).log → Mails (Genuine p sent H) t.mail → Inv p machine H sent t
  quiet_inv H sent s t i b v low eb er sb el mail =
      inv_set p machine sent H s t i b v.fits low eb (ap length er ∙ v.fits.machines) v.law sb
      (λ j h ne. v.boxes j h)
      (ap (λ l. get_or l i machine.fresh) er ∙ v.readings i low ∙ ap (λ l. after machine machine.fresh (flat l)) (sym el))
      (λ j h ne. ap (λ l. get_or l j machine.fresh) er ∙ v.readings j h)
      mail

  -- doubt, trust and switch-off
  pub alters_inv : (H : History Entry) (sent : List Entry) (change : Box → Box) → ((i : ℕ) (b : Box) → SoundBox p H sent i b → SoundBox p H sent i (change b)) → ((b : Box) → (change b).log ≡ b.log) → (s t : State R) (i : ℕ) (r : Result (Unit {0}) ArrayFault) → Alters p machine change s i r t → Inv p machine H sent s → Inv p machine H sent t
  alters_inv H sent change sound same s t i (Ok u) x v =
      quiet_inv H sent s t i (change (box_at s.boxes i)) v x.0.there.below x.1.boxes x.1.readings (sound i (box_at s.boxes i) (v.boxes i x.0.there.below)) (same (box_at s.boxes i))
      (mails_same (Genuine p sent H) s.mail t.mail x.1.mail v.mail)
  alters_inv H sent change sound same s t i (Err e) x v = subst (Inv p machine H sent) (sym x.1) v

  still_inv : (H : History Entry) (sent : List Entry) (s t : State R) → Inv p machine H sent s → t.boxes ≡ s.boxes → t.readings ≡ s.readings → Mails (Genuine p sent H) t.mail → Inv p machine H sent t
  still_inv H sent s t v eb er mail = record {
    fits = record { boxes = ap length eb ∙ v.fits.boxes; machines = ap length er ∙ v.fits.machines };
    law = v.law;
    boxes = λ i h. subst (λ l. SoundBox p H sent i (box_at l i)) (sym eb) (v.boxes i h);
    readings = λ i h. ap (λ l. get_or l i machine.fresh) er ∙ v.readings i h ∙ ap (λ l. after machine machine.fresh (flat (box_at l i).log)) (sym eb);
    mail = mail;
  }

  pub loses_inv : (H : History Entry) (sent : List Entry) (s t : State R) (i place : ℕ) (r : Result (Unit {0}) ArrayFault) → Loses p machine s i place r t → Inv p machine H sent s → Inv p machine H sent t
  loses_inv H sent s t i place (Ok u) x v = still_inv H sent s t v x.2.boxes x.2.readings (taken_kept (Genuine p sent H) s.mail t.mail i place x.3 v.mail)
  loses_inv H sent s t i place (Err e) x v = subst (Inv p machine H sent) (sym x.1) v

  pub repeats_inv : (H : History Entry) (sent : List Entry) (s t : State R) (i place : ℕ) (r : Result (Unit {0}) ArrayFault) → Repeats p machine s i place r t → Inv p machine H sent s → Inv p machine H sent t
  repeats_inv H sent s t i place (Ok u) x v = still_inv H sent s t v x.4.boxes x.4.readings (appended_kept (Genuine p sent H) s.mail t.mail i (frame_at s.mail i place) (All-get_or (Genuine p sent H) (s.mail.waiting i) place [] x.1 (v.mail i)) x.5 v.mail)
  repeats_inv H sent s t i place (Err e) x v = subst (Inv p machine H sent) (sym x.1) v

  -- a send
  pub sent_inv : (H : History Entry) (sent : List Entry) (s t : State R) (i : ℕ) (body : List ℕ) (id posts : ℕ) → Sent p machine s i body id posts t → Inv p machine H sent s → Inv p machine H (next_entry (box_at s.boxes i) body ∷ sent) t
  sent_inv H sent s t i body id posts x v =
      inv_set p machine more H s t i (sending b body) v.fits low x.boxes (ap length x.readings ∙ v.fits.machines)
      (orders_grow.sends p sent e p.f H v.law)
      (sound_same p H more i b (sending b body) (sound_more p H sent more up i b sb) (keeps_sending p i b sb.keeps body x.room x.body_fits.eight x.body_fits.bytes) sb.idle refl refl (all_inserted (Has more) e b.unordered (0, omega arith, λ d. refl) (All-weaker (Has sent) (Has more) up b.unordered sb.sent_unordered)))
      (λ j h ne. sound_more p H sent more up j (box_at s.boxes j) (v.boxes j h))
      (ap (λ l. get_or l i machine.fresh) x.readings ∙ v.readings i low)
      (λ j h ne. ap (λ l. get_or l j machine.fresh) x.readings ∙ v.readings j h)
      (posts_kept (Genuine p more H) x.mail posted (λ y. All-weaker (Genuine p sent H) (Genuine p more H) (known_up p sent more H H up (λ st u m. m)) (s.mail.waiting y) (v.mail y)))
    where
      b : Box
      b = box_at s.boxes i

      e : Entry
      e = next_entry b body

      more : List Entry
      more = e ∷ sent

      low : i < p.n
      low = x.may.there.below

      up : (y : Entry) → Has sent y → Has more y
      up = has_append_right (e ∷ []) sent

      sb : SoundBox p H sent i b
      sb = v.boxes i low

      posted : AllByRecursion (λ (q : ℕ × List ℕ). Genuine p more H q.1) (to_others p i (bytes_of p (order e)))
      posted =
          All-map (λ (q : ℕ × List ℕ). Genuine p more H q.1) (λ j. (j, bytes_of p (order e))) (filter (λ j. not (eqb j i)) (range_with_len 0 p.n))
          (all_kept_by (λ j. not (eqb j i)) (λ j. Genuine p more H (bytes_of p (order e))) (range_with_len 0 p.n) (all_counting (λ j. Genuine p more H (bytes_of p (order e))) 0 p.n (λ k l u.
          genuine p more H (order e) (frames_read.orders p i b body sb.keeps x.room x.body_fits.eight x.body_fits.bytes) (0, omega arith, λ d. refl))))
