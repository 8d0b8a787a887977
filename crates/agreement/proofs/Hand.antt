-- A hand keeps the invariant: a turn that opens makes one more token of the history.
use Rattle.std.proofs.Common.{◌≡◌, ℕ, ◌+◌, ◌-◌, ◌%◌, ◌<◌, ◌≤◌, not, ◌≢◌, List, [], ◌∷◌, length, get_or, set, None, Ok, Err, Result, sym, refl, ap, ◌∙◌, subst, inl, inr, arith}
use Rattle.std.specs.List.{range_with_len, ContainsAt as Has, AllByRecursion}
use Rattle.std.proofs.lemmas.List.{get_or-set_same, get_or-set_other, length-set}
use Rattle.std.proofs.ByRecursion.{All-weaker, All-get_or, All-map, all_kept_by}
use Rattle.frames.specs.declared.plan.Plan.{Plan}
use Rattle.frames.specs.declared.Entry.{Entry}
use Rattle.frames.specs.Contents as frame
use Rattle.frames.specs.Contents.{Content, has, bytes_of, LawfulToken}
use Rattle.frames.specs.Contents.Content.{order, token}
use Rattle.history.specs.Tokens.{Token, Lawful}
use Rattle.history.specs.Tokens.Created.{later}
use Rattle.history.specs.Histories.{History, In, Begins}
use Rattle.history.specs.Entries.{Put, carried}
use Rattle.history.proofs.Growth.{next_free}
use Rattle.history.proofs.Listed.{newest, older, newest_or}
use Rattle.history.proofs.Orders.{orders_grow}
use Rattle.boxes.specs.declared.Outcome.{Outcome}
use Rattle.boxes.specs.declared.Outcome.TheVariants as outcome
use Rattle.boxes.specs.declared.BoxFault.{BoxFault}
use Rattle.boxes.specs.Boxes.{Box, Keeps, log_ids, passed}
use Rattle.boxes.specs.Turns.{left, holding, logging, passing, opened_log, opened_turn, opened}
use Rattle.boxes.specs.Cases.{Handled, OrderHandled, TokenHandled}
use Rattle.boxes.specs.Laws.{ComesFrom}
use Rattle.boxes.proofs.Ids.{all_inserted}
use Rattle.boxes.proofs.Answering.{alone}
use Rattle.boxes.proofs.Growing.{logs_grow}
use Rattle.boxes.proofs.Making.{turns_make_tokens}
use Rattle.boxes.proofs.Staying.{records-stay, keeps_passing}
use Rattle.boxes.proofs.Sending.{frames_read}
use Rattle.agreement.specs.declared.ArrayFault.{ArrayFault}
use Rattle.agreement.specs.declared.Passed.{Passed}
use Rattle.agreement.specs.Arrays.{Machine, State, to_successors, box_at, frame_at, Waiting, Reads, Quiet, Learning, Passing, Told, Answered, Hands}
use Rattle.agreement.proofs.Mails.{Mails, taken_kept, posts_kept}
use Rattle.agreement.proofs.Invariant.{SoundBox, Member, Genuine, Inv, Holds, sound_same, sound_grown, known_up, inv_set, told_more}
use Rattle.agreement.proofs.Begin.{all_counting, genuine}
use Rattle.agreement.proofs.Steps.{quiet_inv}

-- a box that has handled lawful contents keeps the rules
handled_keeps : (p : Plan) (i : ℕ) (b : Box) (c : Content) (r : Result (Outcome (Unit {0})) BoxFault) (b' : Box) → Keeps p i b → frame.Lawful p c → Handled p b c r b' → Keeps p i b'
handled_keeps p i b c r b' k l h = subst (Keeps p i) (sym (alone p b c r b' h).1) ((records-stay.stay p i b k).by_contents c l)

handled_grows : (p : Plan) (b : Box) (c : Content) (r : Result (Outcome (Unit {0})) BoxFault) (b' : Box) → Handled p b c r b' → Begins b.log b'.log
handled_grows p b c r b' h = subst (λ (y : Box). Begins b.log y.log) (sym (alone p b c r b' h).1) (logs_grow p b c).0

sent_left : (sent : List Entry) (log : List (List Entry)) (xs : List Entry) → AllByRecursion (Has sent) xs → AllByRecursion (Has sent) (left log xs)
sent_left sent log xs a = all_kept_by (λ (e : Entry). not (has e.id (log_ids log))) (Has sent) xs a

module _ {R : Type 0} (p : Plan) (machine : Machine R) where
  -- the frame handed over is genuine
  pub genuine_at : (H : History Entry) (sent : List Entry) (s : State R) (i place : ℕ) → Inv p machine H sent s → Waiting p machine s i place → Genuine p sent H (frame_at s.mail i place)
  genuine_at H sent s i place v w = All-get_or (Genuine p sent H) (s.mail.waiting i) place [] w.somewhere (v.mail i)

  pub member_of : (H : History Entry) (sent : List Entry) (s : State R) (i place : ℕ) (c : Content) → Inv p machine H sent s → Waiting p machine s i place → Reads p machine s i place c → frame.Lawful p c × Member sent H c
  member_of H sent s i place c v w r =
      let g = genuine_at H sent s i place v w in
      let e : g.contents ≡ c = cc (g.reads, r) in
      (subst (frame.Lawful p) e g.lawful, subst (Member sent H) e g.member)

  -- the box and its reading grow together
  grown_inv : (H H' : History Entry) (sent : List Entry) (s t : State R) (i : ℕ) (b : Box) → Inv p machine H sent s → i < p.n → t.boxes ≡ set s.boxes i b → Told p machine s i b.log t → Begins (box_at s.boxes i).log b.log → Lawful (Put p sent) (In H') p.f → SoundBox p H' sent i b → ((j : ℕ) → j < p.n → j ≢ i → SoundBox p H' sent j (box_at s.boxes j)) → Mails (Genuine p sent H') t.mail → Inv p machine H' sent t
  grown_inv H H' sent s t i b v low eb er grows law sb others mail =
      let size : i < length s.readings = omega (arith, v.fits.machines) in
      inv_set p machine sent H' s t i b v.fits low eb (ap length er ∙ length-set s.readings i _ ∙ v.fits.machines) law sb others
      (ap (λ l. get_or l i machine.fresh) er ∙ get_or-set_same s.readings i _ machine.fresh size ∙ told_more p machine (box_at s.boxes i).log b.log (get_or s.readings i machine.fresh) grows (v.readings i low))
      (λ j h ne. ap (λ l. get_or l j machine.fresh) er ∙ get_or-set_other s.readings i j _ machine.fresh ne ∙ v.readings j h)
      mail

  -- a box learns from a token
  learned_inv : (H : History Entry) (sent : List Entry) (s t : State R) (i place k : ℕ) (u : frame.Token) → Inv p machine H sent s → i < p.n → LawfulToken p u → In H u.stamp (carried u) → TokenHandled p (box_at s.boxes i) u (Ok (outcome.Learned k)) (logging (box_at s.boxes i) u.decisions None) → Learning p machine s i place (logging (box_at s.boxes i) u.decisions None) t → Inv p machine H sent t
  learned_inv H sent s t i place k u v low l m d x =
      let b = box_at s.boxes i in
      let b' = logging b u.decisions None in
      let sb = v.boxes i low in
      grown_inv H H sent s t i b' v low x.boxes x.readings (handled_grows p b (token u) (Ok (outcome.Learned k)) b' d) v.law
      (record {
        keeps = handled_keeps p i b (token u) (Ok (outcome.Learned k)) b' sb.keeps l d;
        idle = refl;
        own = sb.own;
        logged = record { from = u.stamp; source = carried u; made = m; earlier = omega (arith, d.1); same = refl };
        sent_unordered = sent_left sent u.decisions b.unordered sb.sent_unordered;
      })
      (λ j h ne. v.boxes j h)
      (taken_kept (Genuine p sent H) s.mail t.mail i place x.taken v.mail)

  -- a turn opens and is passed
  module _ (H : History Entry) (sent : List Entry) (s t : State R) (i place posts : ℕ) (u : frame.Token) (v : Inv p machine H sent s) (low : i < p.n) (l : LawfulToken p u) (m : In H u.stamp (carried u)) (d : TokenHandled p (box_at s.boxes i) u (Ok (outcome.Opened tt)) (opened p (box_at s.boxes i) u)) where
    abbrev b : Box
    b = box_at s.boxes i

    abbrev b' : Box
    b' = opened p b u

    abbrev tok : Token Entry
    tok = carried (passed b' (opened_turn p b u))

    abbrev H' : History Entry
    H' = (b.awaited + 1, tok) ∷ H

    sb : SoundBox p H sent i b
    sb = v.boxes i low

    keeps : Keeps p i b'
    keeps = handled_keeps p i b (token u) (Ok (outcome.Opened tt)) b' sb.keeps l d

    comes : ComesFrom p sent H b u (passed b' (opened_turn p b u))
    comes = turns_make_tokens p i b u sb.keeps l (sym (alone p b (token u) (Ok (outcome.Opened tt)) b' d).0) sent sb.sent_unordered H sb.logged

    law : Lawful (Put p sent) (In H') p.f
    law =
        (orders_grow.tokens p sent).more p.f H (b.awaited + 1) tok v.law
        (later (record { at = u.stamp; parent = carried u; made = m; before = comes.before; near = comes.near; step = comes.step }))
        (next_free p.n i b.awaited H sb.own sb.keeps.in_turn)

    own : (st : ℕ) (w : Token Entry) → In H' st w → 1 ≤ st → (st - 1) % p.n ≡ i → st ≤ b.awaited + b.n
    own st w z l' q = elim (newest_or H (b.awaited + 1) st tok w z) [
      | inl e ↦ omega (arith, e.0, sb.keeps.boxes, p.least)
      | inr o ↦ omega (arith, sb.own st w o l' q)
    ]

    here : SoundBox p H' sent i (passing b')
    here = record {
      keeps = keeps_passing p i b' keeps;
      idle = refl;
      own = own;
      logged = record { from = b.awaited + 1; source = tok; made = newest H (b.awaited + 1) tok; earlier = omega (arith, sb.keeps.boxes, p.least); same = refl };
      sent_unordered = sent_left sent (opened_log p b u) b.unordered sb.sent_unordered;
    }

    posted : AllByRecursion (λ (q : ℕ × List ℕ). Genuine p sent H' q.1) (to_successors p i (bytes_of p (token (passed b' (opened_turn p b u)))))
    posted =
        All-map (λ (q : ℕ × List ℕ). Genuine p sent H' q.1) (λ k. ((i + k) % p.n, bytes_of p (token (passed b' (opened_turn p b u))))) (range_with_len 1 (p.f + 1))
        (all_counting (λ k. Genuine p sent H' (bytes_of p (token (passed b' (opened_turn p b u))))) 1 (p.f + 1) (λ k l' w.
        genuine p sent H' (token (passed b' (opened_turn p b u))) (frames_read.turns p i b' (opened_turn p b u) keeps refl) (newest H (b.awaited + 1) tok)))

    passed_inv : Passing p machine s i place b' (opened_turn p b u) posts t → Inv p machine H' sent t
    passed_inv x =
        grown_inv H H' sent s t i (passing b') v low x.boxes x.readings (handled_grows p b (token u) (Ok (outcome.Opened tt)) b' d) law here
        (λ j h ne. sound_grown p H sent b.awaited tok i j (box_at s.boxes j) sb.keeps.in_turn ne (v.boxes j h))
        (posts_kept (Genuine p sent H') x.mail posted (taken_kept (Genuine p sent H') s.mail x.between i place x.taken (λ y. All-weaker (Genuine p sent H) (Genuine p sent H') (known_up p sent sent H H' (λ e h. h) (λ st w z. older H (b.awaited + 1) st tok w z)) (s.mail.waiting y) (v.mail y))))

  -- the record stays, and the frame is removed
  gone_inv : (H : History Entry) (sent : List Entry) (s t : State R) (i place : ℕ) (b : Box) → Inv p machine H sent s → i < p.n → b ≡ box_at s.boxes i → Quiet p machine s i place b t → Inv p machine H sent t
  gone_inv H sent s t i place b v low e x =
      quiet_inv p machine H sent s t i b v low x.boxes x.readings (subst (SoundBox p H sent i) (sym e) (v.boxes i low)) (ap (λ (y : Box). y.log) e) (taken_kept (Genuine p sent H) s.mail t.mail i place x.taken v.mail)

  -- an order is kept
  kept_inv : (H : History Entry) (sent : List Entry) (s t : State R) (i place : ℕ) (e : Entry) (b : Box) → Inv p machine H sent s → i < p.n → frame.LawfulEntry p e → Has sent e → OrderHandled (box_at s.boxes i) e (Ok outcome.Kept) b → Quiet p machine s i place b t → Inv p machine H sent t
  kept_inv H sent s t i place e b v low le he d x =
      let c = box_at s.boxes i in
      let sb = v.boxes i low in
      let k = handled_keeps p i c (order e) (Ok outcome.Kept) b sb.keeps le d in
      quiet_inv p machine H sent s t i b v low x.boxes x.readings
      (subst (SoundBox p H sent i) (sym d.3) (sound_same p H sent i c (holding c e c.last) sb (subst (Keeps p i) d.3 k) sb.idle refl refl (all_inserted (Has sent) e c.unordered he sb.sent_unordered)))
      (ap (λ (y : Box). y.log) d.3)
      (taken_kept (Genuine p sent H) s.mail t.mail i place x.taken v.mail)

  answered_inv : (H : History Entry) (sent : List Entry) (s t : State R) (i place : ℕ) (c : Content) (a : Outcome Passed) → Inv p machine H sent s → Waiting p machine s i place → frame.Lawful p c → Member sent H c → Answered p machine s i place c a t → Holds p machine sent t
  answered_inv H sent s t i place (order e) outcome.Kept v w l m (bx, d, q) = (H, kept_inv H sent s t i place e bx v w.may.there.below l m d q)
  answered_inv H sent s t i place (order e) outcome.Known v w l m (bx, d, q) = (H, gone_inv H sent s t i place bx v w.may.there.below d.2 q)
  answered_inv H sent s t i place (order e) outcome.Waits v w l m (bx, d, q) = absurd d
  answered_inv H sent s t i place (order e) outcome.Stale v w l m (bx, d, q) = absurd d
  answered_inv H sent s t i place (order e) (outcome.Learned k) v w l m (bx, d, q) = absurd d
  answered_inv H sent s t i place (order e) (outcome.Opened told) v w l m x = absurd x.2
  answered_inv H sent s t i place (token u) outcome.Kept v w l m (bx, d, q) = absurd d
  answered_inv H sent s t i place (token u) outcome.Known v w l m (bx, d, q) = absurd d
  answered_inv H sent s t i place (token u) outcome.Waits v w l m (bx, d, q) = (H, subst (Inv p machine H sent) (sym q) v)
  answered_inv H sent s t i place (token u) outcome.Stale v w l m (bx, d, q) = (H, gone_inv H sent s t i place bx v w.may.there.below d.4 q)
  answered_inv H sent s t i place (token u) (outcome.Learned k) v w l m (bx, d, q) =
      let c = box_at s.boxes i in
      (H, learned_inv H sent s t i place k u v w.may.there.below l m (subst (λ y. TokenHandled p c u (Ok (outcome.Learned k)) y) d.5 d) (subst (λ y. Learning p machine s i place y t) d.5 q))
  answered_inv H sent s t i place (token u) (outcome.Opened told) v w l m (bx, tn, d, et, e1, e2, e3, q) =
      let c = box_at s.boxes i in
      let eu : tn ≡ opened_turn p c u = cc (et, ap (λ (y : Box). y.turn) d.4) in
      (_, passed_inv H sent s t i place told.posts u v w.may.there.below l m (subst (λ y. TokenHandled p c u (Ok (outcome.Opened tt)) y) d.4 d) (subst (λ y. Passing p machine s i place (opened p c u) y told.posts t) eu (subst (λ y. Passing p machine s i place y tn told.posts t) d.4 q)))

  pub hands_inv : (H : History Entry) (sent : List Entry) (s t : State R) (i place : ℕ) (r : Result (Outcome Passed) ArrayFault) → Hands p machine s i place r t → Inv p machine H sent s → Holds p machine sent t
  hands_inv H sent s t i place (Ok a) x v = let g = member_of H sent s i place x.1.0 v x.0 x.1.1 in answered_inv H sent s t i place x.1.0 a v x.0 g.0 g.1 x.1.2
  hands_inv H sent s t i place (Err e) x v = (H, subst (Inv p machine H sent) (sym x.1) v)
