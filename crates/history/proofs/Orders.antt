-- A lawful history of a plan's orders is sound: its tokens agree and are lawful frames.
use Rattle.std.proofs.Common.{◌≡◌, ℕ, ◌+◌, ◌<◌, ◌≤◌, ◌≢◌, List, [], ◌∷◌, length, sym, refl, ◌∙◌, subst, inl, inr, arith}
use Rattle.std.proofs.lemmas.Bool.{cases_eq}
use Rattle.std.specs.List.{ContainsAt as Has, flat_map, AllByRecursion}
use Rattle.std.proofs.ByRecursion.{All-push, All-weaker, has_append_right}
use Rattle.frames.specs.declared.plan.Plan.{Plan}
use Rattle.frames.specs.declared.Entry.{Entry}
use Rattle.frames.specs.Contents.{ids_of, LawfulList, LawfulDecision, LawfulToken}
use Rattle.history.specs.Tokens.{Token, Relation, Empty, Step, Next, Created, Lawful}
use Rattle.history.specs.Tokens.Step.{old, keep, fresh, decide}
use Rattle.history.specs.Tokens.Created.{dummy, first, later}
use Rattle.history.specs.Histories.{In, Clear, From, Unrepeated, Uninvented}
use Rattle.history.specs.Entries.{Put, framed, Sender, OrdersAgree, OrdersGrow}
use Rattle.history.proofs.Rounds.{Earlier, by_rounds, lawful_weaker}
use Rattle.history.proofs.Agreement.{agree}
use Rattle.history.proofs.Counts.{fewer_once, ascend_most, none_in}
use Rattle.history.proofs.Repeats.{unrepeated}
use Rattle.history.proofs.Sends.{throughout}
use Rattle.history.proofs.Growth.{grows}

-- what a box may put forward is clear
pub put_clear : (p : Plan) (sent : List Entry) (ds : List (List Entry)) (new : List Entry) → Put p sent ds new → Clear (λ (e : Entry). e.id) ds new
put_clear p sent ds new h =
    fewer_once (flat_map ids_of ds) (ids_of new) (λ i. record { most = ascend_most i 0 (ids_of new) h.lawful.ascend; apart = none_in i (flat_map ids_of ds) (ids_of new) h.undecided })

pub some_long : {X : Type 0} (xs : List X) → xs ≢ [] → 0 < length xs
some_long [] h = absurd (h refl)
some_long (x ∷ xs) h = omega arith

-- what a frame asks of a token, but for its sender
pub record Frameable (p : Plan) (s : ℕ) (t : Token Entry) : Type 0 where
  pub dummy_empty : s ≡ 0 → Empty 0 t
  pub voted : s ≢ 0 → 1 ≤ t.votes
  pub few : t.votes ≤ p.f
  pub one_vote : s ≢ 0 → t.proposal ≡ [] → t.votes ≡ 1
  pub proposal_lawful : LawfulList p t.proposal
  pub decisions_lawful : AllByRecursion (LawfulDecision p) t.decisions

module _ (p : Plan) (sent : List Entry) (Made : Relation Entry) (law : Lawful (Put p sent) Made p.f) where
  frameable_on : (s : ℕ) (t : Token Entry) → Made s t → Created (Put p sent) Made p.f s t → Earlier law (Frameable p) s → Frameable p s t
  frameable_on s t m by ih = go by
    where
      none : (v : ℕ) → v ≤ 1 → s ≡ v → Empty v t → Frameable p s t
      none v l e r = record {
        dummy_empty = λ z. let q : v ≡ 0 = omega arith in subst (λ n. Empty n t) q r;
        voted = λ ne. omega (arith, r.voted);
        few = omega (arith, r.voted, p.some);
        one_vote = λ ne _. omega (arith, r.voted);
        proposal_lawful = rw r.unproposed (record { each = tt; ascend = tt });
        decisions_lawful = rw r.undecided tt;
      }

      -- a new proposal with one vote
      renewed : (p' : ℕ) → p' < s → t.votes ≡ 1 → Put p sent t.decisions t.proposal → AllByRecursion (LawfulDecision p) t.decisions → Frameable p s t
      renewed p' l e put ds = record {
        dummy_empty = λ z. absurd (omega arith);
        voted = λ ne. omega arith;
        few = omega (arith, p.some);
        one_vote = λ ne _. e;
        proposal_lawful = put.lawful;
        decisions_lawful = ds;
      }

      back : (x : Next (Put p sent) Made p.f s t) → Frameable p x.at x.parent → Step (Put p sent) Made p.f s x.at t x.parent → Frameable p s t
      back x u (old r) = renewed x.at x.before r.one_vote r.fits (rw r.decided (ih r.from r.other r.earlier r.made).decisions_lawful)
      back x u (keep r) = record {
        dummy_empty = λ z. absurd (omega (arith, x.before));
        voted = λ _. elim (cases_eq s (x.at + 1)) [ inl e ↦ omega (arith, r.joined e) | inr ne ↦ omega (arith, r.skipped ne) ];
        few = r.short;
        one_vote = λ _ e. absurd (r.proposed (sym r.same ∙ e));
        proposal_lawful = rw r.same u.proposal_lawful;
        decisions_lawful = rw r.decided u.decisions_lawful;
      }
      back x u (fresh r) = renewed x.at x.before r.one_vote r.fits (rw r.decided u.decisions_lawful)
      back x u (decide r) =
          renewed x.at x.before r.one_vote r.fits
          (rw r.decided (All-push (LawfulDecision p) x.parent.decisions x.parent.proposal u.decisions_lawful (record { entries = u.proposal_lawful; some = some_long x.parent.proposal r.proposed })))

      go : Created (Put p sent) Made p.f s t → Frameable p s t
      go (dummy e r) = none 0 (omega arith) e r
      go (first e r) = none 1 (omega arith) e r
      go (later x) = back x (ih x.at x.parent x.before x.made) x.step

  pub frameable : (s : ℕ) (t : Token Entry) → Made s t → Frameable p s t
  frameable = by_rounds law (Frameable p) frameable_on

  pub orders_once : Unrepeated (λ (e : Entry). e.id) Made
  orders_once = unrepeated (λ (e : Entry). e.id) Made p.f (lawful_weaker (Put p sent) (Clear (λ (e : Entry). e.id)) Made p.f (put_clear p sent) law)

  pub orders_sent : Uninvented sent Made
  orders_sent = throughout (Has sent) Made p.f (lawful_weaker (Put p sent) (From sent) Made p.f (λ ds new h. h.were_sent) law)

  pub lawful_frame : (s : ℕ) (t : Token Entry) → Made s t → (sender : ℕ) → Sender p s sender → s ≤ 1000000 → LawfulToken p (framed sender (s, t))
  lawful_frame s t m sender from bounded =
      let h = frameable s t m in
      record {
        sender_fits = from.in_ring;
        stamp_fits = bounded;
        dummy = λ z. let e = h.dummy_empty z in record { late_sender = from.of_dummy z; no_votes = e.voted; no_proposal = e.unproposed; no_decisions = e.undecided };
        round = λ ne. record { in_turn = from.of_round ne; voted = h.voted ne; votes_fit = h.few; one_vote = h.one_vote ne };
        proposal_lawful = h.proposal_lawful;
        decisions_lawful = h.decisions_lawful;
        no_id_twice = orders_once s t m;
      }

pub orders_agree : OrdersAgree
orders_agree p sent H law = record {
  agree = agree (Put p sent) (In H) p.f law;
  once = orders_once p sent (In H) law;
  uninvented = orders_sent p sent (In H) law;
  frames = lawful_frame p sent (In H) law;
}

pub sent_more : (p : Plan) (sent : List Entry) (e : Entry) (Made : Relation Entry) (f : ℕ) → Lawful (Put p sent) Made f → Lawful (Put p (e ∷ sent)) Made f
sent_more p sent e Made f =
    lawful_weaker (Put p sent) (Put p (e ∷ sent)) Made f (λ ds new h. record {
      lawful = h.lawful;
      undecided = h.undecided;
      were_sent = All-weaker (Has sent) (Has (e ∷ sent)) (has_append_right (e ∷ []) sent) new h.were_sent;
    })

pub orders_grow : OrdersGrow
orders_grow = record { tokens = λ p sent. grows (Put p sent); sends = λ p sent e f H. sent_more p sent e (In H) f }
