-- Each call of a run has an answer.
use Rattle.std.proofs.Common.{◌≡◌, ℕ, suc, ◌+◌, Bool, true, false, cond, eqb, ◌≢◌, ◌⊎◌, List, [], ◌∷◌, ◌++◌, length, get_or, take, drop, set, Ok, Err, Result, sym, refl, ap, inl, inr, arith}
use Rattle.std.proofs.lemmas.Bool.{cases_lt, cases_Bool, cond-true, cond-false, eq-eqb, ne_eqb, true≢false}
use Rattle.frames.specs.declared.FrameFault.{FrameFault}
use Rattle.frames.specs.declared.Cause.TheVariants.{Length}
use Rattle.frames.specs.declared.plan.Plan.{Plan}
use Rattle.frames.specs.declared.Entry.{Entry}
use Rattle.frames.specs.Contents.{Token, Content, bytes_of}
use Rattle.frames.specs.Contents.Content.{order, token}
use Rattle.frames.specs.Reading.{read_as}
use Rattle.boxes.specs.declared.Outcome.{Outcome}
use Rattle.boxes.specs.declared.Outcome.TheVariants as outcome
use Rattle.boxes.specs.declared.BoxFault.{BoxFault}
use Rattle.boxes.specs.declared.BoxFault.TheVariants as refused
use Rattle.boxes.specs.Boxes.{Box, passed}
use Rattle.boxes.specs.Turns.{passing, doubting, off, next_id, next_entry, sending, opened_turn}
use Rattle.boxes.specs.Handling as handling
use Rattle.boxes.specs.Handling.{box_after}
use Rattle.boxes.specs.Cases.{OrderHandled, TokenHandled}
use Rattle.boxes.proofs.Answering.{fit}
use Rattle.agreement.specs.declared.ArrayFault.{ArrayFault}
use Rattle.agreement.specs.declared.ArrayFault.TheVariants as fault
use Rattle.agreement.specs.declared.Passed.{Passed}
use Rattle.agreement.specs.declared.Call.{Call}
use Rattle.agreement.specs.declared.Call.TheVariants.{Send, Hand, Lose, Repeat, Doubt, Trust, SwitchOff}
use Rattle.links.specs.Mail.{Mail}
use Rattle.links.specs.Calls.{Appended, Taken}
use Rattle.agreement.specs.Mail.{Posts}
use Rattle.agreement.specs.Mail.Posts.{done, made, missed}
use Rattle.agreement.specs.Arrays.{Machine, State, to_successors, to_others, box_at, frame_at, after, newly, Table, Callable, Uncallable, Body, SendRefused, Sends, Waiting, Reads, HandRefused, Sized, Missized, Quiet, Hands, Loses, Repeats, Alters}
use Rattle.agreement.specs.Runs.{Run, noted, SoundCall, RunsGoOn}
use Rattle.agreement.specs.Runs.Run.{sends, hands, loses, repeats, doubts, trusts, switches}
use Rattle.agreement.proofs.Theorem.{holds}

-- one box's frames are replaced
abbrev put : Mail → ℕ → List (List ℕ) → (ℕ → Bool) → Mail
put m to l f = record { waiting = λ x. cond (eqb x to) l (m.waiting x); full = f }

put_here : (m : Mail) (to : ℕ) (l : List (List ℕ)) (f : ℕ → Bool) → (put m to l f).waiting to ≡ l
put_here m to l f = cond-true (eqb to to) l (m.waiting to) (eq-eqb to to refl)

put_else : (m : Mail) (to : ℕ) (l : List (List ℕ)) (f : ℕ → Bool) (b : ℕ) → b ≢ to → (put m to l f).waiting b ≡ m.waiting b
put_else m to l f b ne = cond-false (eqb b to) l (m.waiting b) (ne_eqb b to ne)

can_append : (m : Mail) (to : ℕ) (frame : List ℕ) → (m' : Mail) × Appended m to frame m'
can_append m to frame = (put m to (m.waiting to ++ frame ∷ []) m.full, record { own = put_here m to (m.waiting to ++ frame ∷ []) m.full; others = put_else m to (m.waiting to ++ frame ∷ []) m.full; frees_none = λ b h. h })

can_take : (m : Mail) (to place : ℕ) → (m' : Mail) × Taken m to place m'
can_take m to place = (put m to (take place (m.waiting to) ++ drop (suc place) (m.waiting to)) (λ x. false), record { own = put_here m to _ (λ x. false); others = put_else m to _ (λ x. false); freed = refl; fills_none = λ b h. absurd (true≢false (sym h)) })

can_post : (xs : List (ℕ × List ℕ)) (m : Mail) → (k : ℕ) × (m' : Mail) × Posts xs m k m'
can_post [] m = (0, m, done)
can_post ((to, frame) ∷ rest) m = elim (cases_Bool (m.full to)) [
  | inl e ↦ let r = can_post rest m in (r.0, r.1, missed {m = m} e r.2)
  | inr e ↦ let a = can_append m to frame in let r = can_post rest a.0 in (r.0 + 1, r.1, made {m = m} {m₁ = a.0} e a.1 r.2)
]

module _ {R : Type 0} (p : Plan) (machine : Machine R) where
  module _ (s : State R) (tab : Table p s) where
    -- box i may be called, or not for a reason
    callable : (i : ℕ) → Callable p s i ⊎ ((e : ArrayFault) × Uncallable p s i e)
    callable i = elim (cases_lt i p.n) [
      | inr h ↦ inr (fault.Box, (tab, h))
      | inl h ↦ elim (cases_Bool (box_at s.boxes i).on) [
        | inl e ↦ inl (record { there = record { table = tab; below = h }; is_on = e })
        | inr e ↦ inr (fault.Off, (record { table = tab; below = h }, e))
      ]
    ]

    can_alter : (change : Box → Box) (i : ℕ) → (r : Result (Unit {0}) ArrayFault) × (t : State R) × Alters p machine change s i r t
    can_alter change i = elim (callable i) [
      | inl c ↦ (Ok tt, record { boxes = set s.boxes i (change (box_at s.boxes i)); readings = s.readings; mail = s.mail }, (c, record { boxes = refl; readings = refl; mail = refl }))
      | inr e ↦ (Err e.0, s, (e.1, refl))
    ]

    can_lose : (i place : ℕ) → (r : Result (Unit {0}) ArrayFault) × (t : State R) × Loses p machine s i place r t
    can_lose i place = elim (cases_lt i p.n) [
      | inr h ↦ (Err fault.Box, s, ((tab, h), refl))
      | inl h ↦ elim (cases_lt place (length (s.mail.waiting i))) [
        | inr l ↦ (Err fault.Place, s, ((record { table = tab; below = h }, l), refl))
        | inl l ↦ let m = can_take s.mail i place in (Ok tt, record { boxes = s.boxes; readings = s.readings; mail = m.0 }, (record { table = tab; below = h }, l, record { boxes = refl; readings = refl }, m.1))
      ]
    ]

    sized : (l : List ℕ) → Sized p machine l ⊎ ((q : FrameFault) × Missized p machine l q)
    sized l = elim (cases_lt 0 (length l)) [
      | inr h ↦ inr (record { place = 0; cause = Length }, inl (omega arith, refl))
      | inl h ↦ elim (cases_lt (length l) 1061) [ inl k ↦ inl (omega arith, omega arith) | inr k ↦ inr (record { place = 1060; cause = Length }, inr (omega arith, refl)) ]
    ]

    can_repeat : (i place : ℕ) → (r : Result (Unit {0}) ArrayFault) × (t : State R) × Repeats p machine s i place r t
    can_repeat i place = elim (cases_lt i p.n) [
      | inr h ↦ (Err fault.Box, s, ((tab, h), refl))
      | inl h ↦ elim (cases_lt place (length (s.mail.waiting i))) [
        | inr l ↦ (Err fault.Place, s, ((record { table = tab; below = h }, l), refl))
        | inl l ↦ elim (cases_Bool (s.mail.full i)) [
          | inl f ↦ (Err fault.Full, s, ((record { table = tab; below = h }, l, f), refl))
          | inr f ↦ elim (sized (frame_at s.mail i place)) [
            | inr z ↦ (Err (fault.Frame z.0), s, ((record { table = tab; below = h }, l, f, z.1), refl))
            | inl z ↦ let m = can_append s.mail i (frame_at s.mail i place) in (Ok tt, record { boxes = s.boxes; readings = s.readings; mail = m.0 }, (record { table = tab; below = h }, l, f, z, record { boxes = refl; readings = refl }, m.1))
          ]
        ]
      ]
    ]

    send_refused : (i : ℕ) (e : ArrayFault) → Uncallable p s i e → SendRefused p machine s i e
    send_refused i fault.Serials u = absurd u
    send_refused i e u = u

    can_send : (i : ℕ) (body : List ℕ) → Body body → (r : Result (ℕ × ℕ) ArrayFault) × (t : State R) × Sends p machine s i body r t
    can_send i body eight = elim (callable i) [
      | inr e ↦ (Err e.0, s, (send_refused i e.0 e.1, refl))
      | inl c ↦ elim (cases_lt (box_at s.boxes i).last 15) [
        | inr h ↦ (Err fault.Serials, s, ((c, h), refl))
        | inl h ↦
            let b = box_at s.boxes i in
            let m = can_post (to_others p i (bytes_of p (order (next_entry b body)))) s.mail in
            (Ok (next_id b, m.0), record { boxes = set s.boxes i (sending b body); readings = s.readings; mail = m.1 }, record { may = c; room = h; body_fits = eight; numbered = refl; boxes = refl; readings = refl; mail = m.2 })
      ]
    ]

    hand_refused : (i place : ℕ) (e : ArrayFault) → Uncallable p s i e → HandRefused p machine s i place e
    hand_refused i place fault.Plan u = u
    hand_refused i place fault.Box u = u
    hand_refused i place fault.Off u = u
    hand_refused i place _ u = absurd u

    module _ (i place : ℕ) (w : Waiting p machine s i place) where
      abbrev Goes : Type 0
      Goes = (r : Result (Outcome Passed) ArrayFault) × (t : State R) × Hands p machine s i place r t

      abbrev quietly : Box → State R
      quietly b = record { boxes = set s.boxes i b; readings = s.readings; mail = (can_take s.mail i place).0 }

      quiet : (b : Box) → Quiet p machine s i place b (quietly b)
      quiet b = record { boxes = refl; readings = refl; taken = (can_take s.mail i place).1 }

      order_goes : (e : Entry) → Reads p machine s i place (order e) → (r : Result (Outcome (Unit {0})) BoxFault) (b : Box) → OrderHandled (box_at s.boxes i) e r b → Goes
      order_goes e rd (Ok outcome.Kept) b x = (Ok outcome.Kept, quietly b, (w, (order e, rd, (b, x, quiet b))))
      order_goes e rd (Ok outcome.Known) b x = (Ok outcome.Known, quietly b, (w, (order e, rd, (b, x, quiet b))))
      order_goes e rd (Ok _) b x = absurd x
      order_goes e rd (Err refused.Sender) b x = (Err fault.Sender, s, ((w, (order e, rd, (x.0, refl))), refl))
      order_goes e rd (Err _) b x = absurd x

      abbrev told : Box → List R
      told b = set s.readings i (after machine (get_or s.readings i machine.fresh) (newly (box_at s.boxes i).log b.log))

      token_goes : (u : Token) → Reads p machine s i place (token u) → (r : Result (Outcome (Unit {0})) BoxFault) (b : Box) → TokenHandled p (box_at s.boxes i) u r b → Goes
      token_goes u rd (Ok outcome.Waits) b x = (Ok outcome.Waits, s, (w, (token u, rd, (b, x, refl))))
      token_goes u rd (Ok outcome.Stale) b x = (Ok outcome.Stale, quietly b, (w, (token u, rd, (b, x, quiet b))))
      token_goes u rd (Ok (outcome.Learned j)) b x = (Ok (outcome.Learned j), record { boxes = set s.boxes i b; readings = told b; mail = (can_take s.mail i place).0 }, (w, (token u, rd, (b, x, record { boxes = refl; readings = refl; taken = (can_take s.mail i place).1 }))))
      token_goes u rd (Ok (outcome.Opened tt)) b x =
          let c = box_at s.boxes i in
          let turn = opened_turn p c u in
          let m = can_take s.mail i place in
          let q = can_post (to_successors p i (bytes_of p (token (passed b turn)))) m.0 in
          (Ok (outcome.Opened (record { votes = turn.votes; proposed = length turn.proposal; decisions = length b.log; posts = q.0 })), record { boxes = set s.boxes i (passing b); readings = told b; mail = q.1 }, (w, (token u, rd, (b, turn, x, ap (λ (y : Box). y.turn) x.4, refl, refl, refl, record { between = m.0; boxes = refl; readings = refl; taken = m.1; mail = q.2 }))))
      token_goes u rd (Ok _) b x = absurd x
      token_goes u rd (Err refused.Sender) b x = (Err fault.Sender, s, ((w, (token u, rd, (x.0, refl))), refl))
      token_goes u rd (Err refused.Open) b x = (Err fault.Open, s, ((w, (token u, rd, (x.0, x.1, refl))), refl))
      token_goes u rd (Err refused.History) b x = (Err fault.History, s, ((w, (token u, rd, (x.0, x.1, x.2, refl))), refl))
      token_goes u rd (Err refused.Rounds) b x = (Err fault.Rounds, s, ((w, (token u, rd, (x.0, x.1, x.2, x.3, refl))), refl))
      token_goes u rd (Err _) b x = absurd x

      by_reading : (o : Result Content FrameFault) → read_as p (frame_at s.mail i place) ≡ o → Goes
      by_reading (Err q) e = (Err (fault.Frame q), s, ((w, e), refl))
      by_reading (Ok (order x)) e = order_goes x e (handling.answer p (box_at s.boxes i) (order x)) (box_after p (box_at s.boxes i) (order x)) (fit p (box_at s.boxes i) (order x))
      by_reading (Ok (token u)) e = token_goes u e (handling.answer p (box_at s.boxes i) (token u)) (box_after p (box_at s.boxes i) (token u)) (fit p (box_at s.boxes i) (token u))

    can_hand : (i place : ℕ) → (r : Result (Outcome Passed) ArrayFault) × (t : State R) × Hands p machine s i place r t
    can_hand i place = elim (callable i) [
      | inr e ↦ (Err e.0, s, (hand_refused i place e.0 e.1, refl))
      | inl c ↦ elim (cases_lt place (length (s.mail.waiting i))) [
        | inr l ↦ (Err fault.Place, s, ((c, l), refl))
        | inl l ↦ by_reading i place (record { may = c; somewhere = l }) (read_as p (frame_at s.mail i place)) refl
      ]
    ]

  goes_on : (calls : List Call) (sent : List Entry) (s : State R) → Run p machine calls sent s → Table p s → (c : Call) → SoundCall c → (sent' : List Entry) × (t : State R) × Run p machine (calls ++ c ∷ []) sent' t
  goes_on calls sent s run tab (Send i body) e = let x = can_send s tab i body e in (noted x.0 (next_entry (box_at s.boxes i) body) sent, x.1, sends x.1 i body x.0 run x.2)
  goes_on calls sent s run tab (Hand i place) e = let x = can_hand s tab i place in (sent, x.1, hands x.1 i place x.0 run x.2)
  goes_on calls sent s run tab (Lose i place) e = let x = can_lose s tab i place in (sent, x.1, loses x.1 i place x.0 run x.2)
  goes_on calls sent s run tab (Repeat i place) e = let x = can_repeat s tab i place in (sent, x.1, repeats x.1 i place x.0 run x.2)
  goes_on calls sent s run tab (Doubt i) e = let x = can_alter s tab (doubting true) i in (sent, x.1, doubts x.1 i x.0 run x.2)
  goes_on calls sent s run tab (Trust i) e = let x = can_alter s tab (doubting false) i in (sent, x.1, trusts x.1 i x.0 run x.2)
  goes_on calls sent s run tab (SwitchOff i) e = let x = can_alter s tab off i in (sent, x.1, switches x.1 i x.0 run x.2)

pub runs_go_on : (R : Type 0) → RunsGoOn R
runs_go_on R p machine calls sent s run c e =
    let h = (holds p machine run).1 in
    goes_on p machine calls sent s run (record { fits = h.fits; keeps = λ i l. (h.boxes i l).keeps }) c e
