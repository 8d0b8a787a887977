-- What every run keeps: a history of the tokens made, and what boxes, mail and readings owe to it.
use Rattle.std.proofs.Common.{◌≡◌, ℕ, ◌+◌, ◌-◌, ◌%◌, ◌<◌, ◌≤◌, ◌≢◌, List, ◌∷◌, length, get_or, drop, set, None, Ok, sym, refl, ap, ◌∙◌, subst, inl, inr, ⊎_elim, arith}
use Rattle.std.specs.List.{ContainsAt as Has, AllByRecursion}
use Rattle.std.proofs.lemmas.List.{get_or-set_same, get_or-set_other, length-set, drop_at}
use Rattle.std.proofs.lemmas.List.Sums.{fold-append}
use Rattle.std.proofs.ByRecursion.{All-weaker}
use Rattle.std.proofs.lemmas.Bool.{cases_eq}
use Rattle.frames.specs.declared.plan.Plan.{Plan}
use Rattle.frames.specs.declared.Entry.{Entry}
use Rattle.frames.specs.Contents as frame
use Rattle.frames.specs.Contents.{Content}
use Rattle.frames.specs.Contents.Content.{order, token}
use Rattle.frames.specs.Reading.{read_as}
use Rattle.history.specs.Tokens.{Token, Lawful}
use Rattle.history.specs.Histories.{History, In, flat, Begins}
use Rattle.history.specs.Entries.{Put, carried}
use Rattle.history.proofs.Listed.{older, newest_or}
use Rattle.history.proofs.Prefix.{begins_flat}
use Rattle.boxes.specs.Boxes.{Box, Keeps}
use Rattle.boxes.specs.Laws.{Logged}
use Rattle.agreement.specs.Arrays.{Machine, State, Fits, box_at, after, newly}
use Rattle.agreement.proofs.Mails.{Mails}

-- box i beside a history: its log is a token's of a round before the awaited one, and so are the tokens that it made
pub record SoundBox (p : Plan) (H : History Entry) (sent : List Entry) (i : ℕ) (b : Box) : Type 0 where
  pub keeps : Keeps p i b
  pub idle : b.turn ≡ None
  pub own : (stamp : ℕ) (t : Token Entry) → In H stamp t → 1 ≤ stamp → (stamp - 1) % p.n ≡ i → stamp ≤ b.awaited
  pub logged : Logged H b
  pub sent_unordered : AllByRecursion (Has sent) b.unordered

-- an order that was sent, or a token that was made
abbrev pub Member : List Entry → History Entry → Content → Type 0
Member sent H (order e) = Has sent e
Member sent H (token t) = In H t.stamp (carried t)

-- a waiting frame reads as lawful contents, an order sent or a token made
pub record Genuine (p : Plan) (sent : List Entry) (H : History Entry) (bytes : List ℕ) : Type 0 where
  pub contents : Content
  pub reads : read_as p bytes ≡ Ok contents
  pub lawful : frame.Lawful p contents
  pub member : Member sent H contents

module _ {R : Type 0} (p : Plan) (machine : Machine R) where
  pub record Inv (H : History Entry) (sent : List Entry) (s : State R) : Type 0 where
    pub fits : Fits p s
    pub law : Lawful (Put p sent) (In H) p.f
    pub boxes : (i : ℕ) → i < p.n → SoundBox p H sent i (box_at s.boxes i)
    pub readings : (i : ℕ) → i < p.n → get_or s.readings i machine.fresh ≡ after machine machine.fresh (flat (box_at s.boxes i).log)
    pub mail : Mails (Genuine p sent H) s.mail

  -- the invariant for some history
  abbrev pub Holds : List Entry → State R → Type 0
  Holds sent s = (H : History Entry) × Inv H sent s

logged_same : (H : History Entry) (b b' : Box) → b'.awaited ≡ b.awaited → b'.log ≡ b.log → Logged H b → Logged H b'
logged_same H b b' ea el l = record { from = l.from; source = l.source; made = l.made; earlier = subst (λ a. l.from ≤ a) (sym ea) l.earlier; same = el ∙ l.same }

-- a box stays sound as its log and awaited round stay
pub sound_same : (p : Plan) (H : History Entry) (sent : List Entry) (i : ℕ) (b b' : Box) → SoundBox p H sent i b → Keeps p i b' → b'.turn ≡ None → b'.awaited ≡ b.awaited → b'.log ≡ b.log → AllByRecursion (Has sent) b'.unordered → SoundBox p H sent i b'
sound_same p H sent i b b' k keeps idle ea el u = record {
  keeps = keeps;
  idle = idle;
  own = λ stamp t m l e. subst (λ a. stamp ≤ a) (sym ea) (k.own stamp t m l e);
  logged = logged_same H b b' ea el k.logged;
  sent_unordered = u;
}

-- a box stays sound as more is sent
pub sound_more : (p : Plan) (H : History Entry) (sent sent' : List Entry) → ((e : Entry) → Has sent e → Has sent' e) → (i : ℕ) (b : Box) → SoundBox p H sent i b → SoundBox p H sent' i b
sound_more p H sent sent' up i b k = record {
  keeps = k.keeps;
  idle = k.idle;
  own = k.own;
  logged = k.logged;
  sent_unordered = All-weaker (Has sent) (Has sent') up b.unordered k.sent_unordered;
}

-- a box stays sound as another makes a token
pub sound_grown : (p : Plan) (H : History Entry) (sent : List Entry) (a : ℕ) (t : Token Entry) (i j : ℕ) (b : Box) → a % p.n ≡ i → j ≢ i → SoundBox p H sent j b → SoundBox p ((a + 1, t) ∷ H) sent j b
sound_grown p H sent a t i j b e ne k = record {
  keeps = k.keeps;
  idle = k.idle;
  own = own;
  logged = let l = k.logged in record { from = l.from; source = l.source; made = older H (a + 1) l.from t l.source l.made; earlier = l.earlier; same = l.same };
  sent_unordered = k.sent_unordered;
}
  where
    own : (stamp : ℕ) (u : Token Entry) → In ((a + 1, t) ∷ H) stamp u → 1 ≤ stamp → (stamp - 1) % p.n ≡ j → stamp ≤ b.awaited
    own stamp u m l q = elim (newest_or H (a + 1) stamp t u m) [
      | inl z ↦
          let d : stamp - 1 ≡ a = omega (arith, z.0) in
          absurd (ne (sym q ∙ ap (λ x. x % p.n) d ∙ e))
      | inr o ↦ k.own stamp u o l q
    ]

member_up : (sent sent' : List Entry) (H H' : History Entry) → ((e : Entry) → Has sent e → Has sent' e) → ((stamp : ℕ) (t : Token Entry) → In H stamp t → In H' stamp t) → (c : Content) → Member sent H c → Member sent' H' c
member_up sent sent' H H' up more (order e) m = up e m
member_up sent sent' H H' up more (token t) m = more t.stamp (carried t) m

-- a frame known stays known
pub known_up : (p : Plan) (sent sent' : List Entry) (H H' : History Entry) → ((e : Entry) → Has sent e → Has sent' e) → ((stamp : ℕ) (t : Token Entry) → In H stamp t → In H' stamp t) → (bytes : List ℕ) → Genuine p sent H bytes → Genuine p sent' H' bytes
known_up p sent sent' H H' up more bytes g = record { contents = g.contents; reads = g.reads; lawful = g.lawful; member = member_up sent sent' H H' up more g.contents g.member }

module _ {R : Type 0} (p : Plan) (machine : Machine R) where
  -- one box, its reading and the mail are changed
  pub inv_set : (sent : List Entry) (H : History Entry) (s t : State R) (i : ℕ) (b : Box) →
      Fits p s →
      i < p.n →
      t.boxes ≡ set s.boxes i b →
      length t.readings ≡ p.n →
      Lawful (Put p sent) (In H) p.f →
      SoundBox p H sent i b →
      ((j : ℕ) → j < p.n → j ≢ i → SoundBox p H sent j (box_at s.boxes j)) →
      get_or t.readings i machine.fresh ≡ after machine machine.fresh (flat b.log) →
      ((j : ℕ) → j < p.n → j ≢ i → get_or t.readings j machine.fresh ≡ after machine machine.fresh (flat (box_at s.boxes j).log)) →
      Mails (Genuine p sent H) t.mail →
      Inv p machine H sent t
  inv_set sent H s t i b fits low eb er law here others told rest mail = record {
    fits = record { boxes = ap length eb ∙ length-set s.boxes i b ∙ fits.boxes; machines = er };
    law = law;
    boxes = λ j h. ⊎_elim
        (λ (e : j ≡ i). subst (λ x. SoundBox p H sent x (box_at t.boxes x)) (sym e) (subst (SoundBox p H sent i) (sym same) here))
        (λ (ne : j ≡ i → ⊥). subst (SoundBox p H sent j) (sym (other j ne)) (others j h ne))
        (cases_eq j i);
    readings = λ j h. ⊎_elim
        (λ (e : j ≡ i). subst (λ x. get_or t.readings x machine.fresh ≡ after machine machine.fresh (flat (box_at t.boxes x).log)) (sym e) (told ∙ ap (λ (x : Box). after machine machine.fresh (flat x.log)) (sym same)))
        (λ (ne : j ≡ i → ⊥). rest j h ne ∙ ap (λ (x : Box). after machine machine.fresh (flat x.log)) (sym (other j ne)))
        (cases_eq j i);
    mail = mail;
  }
    where
      same : box_at t.boxes i ≡ b
      same = ap (λ l. box_at l i) eb ∙ get_or-set_same s.boxes i b _ (omega (arith, fits.boxes))

      other : (j : ℕ) → j ≢ i → box_at t.boxes j ≡ box_at s.boxes j
      other j ne = ap (λ l. box_at l j) eb ∙ get_or-set_other s.boxes i j b _ ne

  -- the new entries of a log that grew bring the reading up to it
  pub told_more : (was now : List (List Entry)) (r : R) → Begins was now → r ≡ after machine machine.fresh (flat was) → after machine r (newly was now) ≡ after machine machine.fresh (flat now)
  told_more was now r g e =
      let h = begins_flat was now g in
      let d = ap (λ l. drop (length (flat was)) l) h.1 ∙ drop_at (flat was) h.0 (length (flat was)) refl in
      ap (λ l. after machine r l) d ∙ ap (λ x. after machine x h.0) e ∙ sym (fold-append (λ (r : R) (e : Entry). machine.told r e.body) machine.fresh (flat was) h.0) ∙ ap (λ l. after machine machine.fresh l) (sym h.1)
