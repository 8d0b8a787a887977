-- Set-up over a fresh link begins with the invariant.
use Rattle.std.proofs.Common.{◌≡◌, ℕ, zero, suc, ◌+◌, ◌-◌, ◌%◌, ◌<◌, ◌≤◌, Bool, true, false, cond, ◌&&◌, eqb, ltb, leb, List, [], ◌∷◌, map, length, get_or, sym, refl, ap, ◌∙◌, subst, ⊎_elim, mod-eq_of_lt, arith}
use Rattle.std.specs.List.{range_with_len, AllByRecursion}
use Rattle.std.proofs.lemmas.List.FromFn.{length-map-range_with_len, get_or-map-range_with_len}
use Rattle.std.proofs.ByRecursion.{All-append, All-map}
use Rattle.std.proofs.lemmas.Bool.{cond_both, eqb-false, and_parts, leb-true, ltb-true}
use Rattle.frames.specs.declared.plan.Plan.{Plan}
use Rattle.frames.specs.declared.Entry.{Entry}
use Rattle.frames.specs.Plans.{dummy_reach}
use Rattle.frames.specs.Contents.{Content, bytes_of}
use Rattle.frames.specs.Contents.Content.{token}
use Rattle.history.specs.Tokens.{Token}
use Rattle.history.specs.Histories.{History, In, begun, empty, flat}
use Rattle.history.proofs.Growth.{in_begun}
use Rattle.history.proofs.Listed.{newest, older}
use Rattle.history.proofs.Orders.{orders_grow}
use Rattle.boxes.specs.Boxes.{Box}
use Rattle.boxes.specs.Turns.{started}
use Rattle.boxes.specs.Calls.{first_token, dummy_of}
use Rattle.boxes.specs.Laws.{Readable}
use Rattle.boxes.proofs.Staying.{records-stay}
use Rattle.boxes.proofs.Sending.{frames_read}
use Rattle.links.specs.Mail.{Fresh}
use Rattle.agreement.specs.Arrays.{Machine, State, to_successors, starting_posts, box_at, after, SetUp}
use Rattle.agreement.proofs.Mails.{posts_kept}
use Rattle.agreement.proofs.Invariant.{SoundBox, Member, Genuine, Inv}

pub all_counting : (P : ℕ → Type 0) (a n : ℕ) → ((k : ℕ) → a ≤ k → k < a + n → P k) → AllByRecursion P (range_with_len a n)
all_counting P a zero h = tt
all_counting P a (suc n) h = (h a (omega arith) (omega arith), all_counting P (a + 1) n (λ k l u. h k (omega arith) (omega arith)))

all_flat_map : {X Y : Type 0} (P : X → Type 0) (f : Y → List X) (ys : List Y) → AllByRecursion (λ y. AllByRecursion P (f y)) ys → AllByRecursion P (flat (map f ys))
all_flat_map P f [] a = tt
all_flat_map P f (y ∷ ys) a = All-append P (f y) (flat (map f ys)) a.0 (all_flat_map P f ys a.1)

-- the start has the token of round 0 and that of the dummies
first_made : In {E = Entry} begun 1 (empty 1)
first_made = newest ((0, empty 0) ∷ []) 1 (empty 1)

dummies_made : In {E = Entry} begun 0 (empty 0)
dummies_made = older ((0, empty 0) ∷ []) 1 0 (empty 1) (empty 0) (newest [] 0 (empty 0))

started_sound : (p : Plan) (i : ℕ) → i < p.n → SoundBox p begun [] i (started p i)
started_sound p i low = record {
  keeps = records-stay.start p i low;
  idle = refl;
  own = own;
  logged = record { from = 0; source = empty 0; made = dummies_made; earlier = omega arith; same = refl };
  sent_unordered = tt;
}
  where
    own : (stamp : ℕ) (t : Token Entry) → In begun stamp t → 1 ≤ stamp → (stamp - 1) % p.n ≡ i → stamp ≤ cond (eqb i 0) p.n i
    own stamp t m l e = ⊎_elim
        (λ h.
        let d : stamp - 1 ≡ 0 = omega (arith, h.0) in
        let z : i ≡ 0 = sym e ∙ ap (λ x. x % p.n) d ∙ mod-eq_of_lt (omega (arith, p.least)) in
        cond_both (eqb i 0) p.n i (λ a. stamp ≤ a) (λ q. omega (arith, h.0, p.least)) (λ q. absurd (eqb-false i 0 q z)))
        (λ h. absurd (omega (arith, h.0)))
        (in_begun stamp t m)

-- a dummy that goes anywhere is from one of the last f boxes
reaching : (p : Plan) (j k : ℕ) → 1 ≤ k → k < 1 + dummy_reach p j → (p.n - p.f ≤ j) × (j < p.n)
reaching p j k l u = go (leb p.n (j + p.f) && ltb j p.n) refl u
  where
    go : (c : Bool) → (leb p.n (j + p.f) && ltb j p.n) ≡ c → k < 1 + cond c (j + p.f + 1 - p.n) 0 → (p.n - p.f ≤ j) × (j < p.n)
    go true e h = let x = and_parts (leb p.n (j + p.f)) (ltb j p.n) e in (omega (arith, leb-true p.n (j + p.f) x.0), ltb-true j p.n x.1)
    go false e h = absurd (omega arith)

-- readable contents of the history are genuine
pub genuine : (p : Plan) (sent : List Entry) (H : History Entry) (c : Content) → Readable p c → Member sent H c → Genuine p sent H (bytes_of p c)
genuine p sent H c r m = record { contents = c; reads = r.back; lawful = r.lawful; member = m }

module _ (p : Plan) where
  Posted : ℕ × List ℕ → Type 0
  Posted q = Genuine p [] begun q.1

  all_known : AllByRecursion Posted (starting_posts p)
  unfolding Posted
  all_known =
      All-append Posted (to_successors p 0 (bytes_of p (token first_token))) _
      (All-map Posted (λ k. ((0 + k) % p.n, bytes_of p (token first_token))) (range_with_len 1 (p.f + 1)) (all_counting (λ k. Genuine p [] begun (bytes_of p (token first_token))) 1 (p.f + 1) (λ k l u. genuine p [] begun (token first_token) (frames_read.first p) first_made)))
      (all_flat_map Posted (λ j. map (λ k. (k, bytes_of p (token (dummy_of j)))) (range_with_len 1 (dummy_reach p j))) (range_with_len 0 p.n)
      (all_counting (λ j. AllByRecursion Posted (map (λ k. (k, bytes_of p (token (dummy_of j)))) (range_with_len 1 (dummy_reach p j)))) 0 p.n (λ j l u.
      All-map Posted (λ k. (k, bytes_of p (token (dummy_of j)))) (range_with_len 1 (dummy_reach p j)) (all_counting (λ k. Genuine p [] begun (bytes_of p (token (dummy_of j)))) 1 (dummy_reach p j) (λ k l' u'.
      let r = reaching p j k l' u' in
      genuine p [] begun (token (dummy_of j)) (frames_read.dummies p j r.0 r.1) dummies_made)))))

module _ {R : Type 0} (p : Plan) (machine : Machine R) where
  pub start_inv : (s t : State R) (posts : ℕ) → Fresh s.mail → SetUp p machine s posts t → Inv p machine begun [] t
  unfolding Posted
  start_inv s t posts fresh x = record {
    fits = record { boxes = ap length x.boxes ∙ length-map-range_with_len (started p) 0 p.n; machines = ap length x.readings ∙ length-map-range_with_len (λ j. machine.fresh) 0 p.n };
    law = (orders_grow.tokens p []).start p.f;
    boxes = λ i h. subst (SoundBox p begun [] i) (sym (at i h)) (started_sound p i h);
    readings = λ i h. ap (λ l. get_or l i machine.fresh) x.readings ∙ get_or-map-range_with_len (λ j. machine.fresh) 0 p.n i i machine.fresh h (omega arith) ∙ ap (λ (b : Box). after machine machine.fresh (flat b.log)) (sym (at i h));
    mail = posts_kept (Genuine p [] begun) x.mail (all_known p) (λ y. subst (AllByRecursion (Genuine p [] begun)) (sym (fresh.none_waits y)) tt);
  }
    where
      at : (i : ℕ) → i < p.n → box_at t.boxes i ≡ started p i
      at i h = ap (λ l. box_at l i) x.boxes ∙ get_or-map-range_with_len (started p) 0 p.n i i _ h (omega arith)
