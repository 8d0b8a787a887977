-- The turn that opens has one of four shapes; its log and its token are lawful.
use Rattle.std.proofs.Common.{◌≡◌, ℕ, ◌+◌, ◌-◌, ◌%◌, ◌<◌, ◌≤◌, Bool, true, false, cond, not, ◌&&◌, eqb, ◌≢◌, List, [], ◌∷◌, ◌++◌, length, sym, refl, ap, ◌∙◌, ⊎_elim, append-nil, mod-lt, arith}
use Rattle.history.proofs.Orders.{some_long}
use mathlib.Core.List.{cons≢nil}
use native.Mathlib.Decide.{ℕ_discrete}
use Rattle.std.specs.List.{AllByRecursion}
use Rattle.std.proofs.ByRecursion.{All-append, All-push}
use Rattle.std.proofs.lemmas.Bool.{eqb-true, eqb-false, ltb-true, ltb-false, and_parts, and_cases, cases_eq, not-true, not-false}
use Rattle.frames.specs.declared.plan.Plan.{Plan}
use Rattle.frames.specs.declared.Entry.{Entry}
use Rattle.frames.specs.Contents.{Token, ids_of, Once, LawfulList, LawfulDecision, LawfulToken}
use Rattle.history.specs.Histories.{Begins, Agree}
use Rattle.history.proofs.Prefix.{shorter_begins, begins_more}
use Rattle.boxes.specs.Boxes.{Turn, Box, Used, Keeps, log_ids, token_ids, passed}
use Rattle.boxes.specs.Turns.{left, gap, short, decides, opened_log, opened_turn, opened, refilled}
use Rattle.boxes.proofs.Ids.{all_front, all_back, ids_more, apart_left, lawful_left, once_beside, once_back, once_swap}

-- the proposal is renewed: all unordered entries that the log leaves, with 1 vote
abbrev pub renewed : Box → List (List Entry) → Turn
renewed b log = record { votes = 1; proposal = left log b.unordered }

pub record OldTurn (b : Box) (t : Token) (log : List (List Entry)) (turn : Turn) : Type 0 where
  pub behind : length t.decisions < length b.log
  pub logged : log ≡ b.log
  pub turns : turn ≡ renewed b log

pub record KeepTurn (p : Plan) (b : Box) (t : Token) (log : List (List Entry)) (turn : Turn) : Type 0 where
  pub ahead : length b.log ≤ length t.decisions
  pub proposed : t.proposal ≢ []
  pub logged : log ≡ t.decisions
  pub kept : turn.proposal ≡ t.proposal
  pub joined : gap b t ≡ 1 → turn.votes ≡ t.votes + 1
  pub skipped : gap b t ≢ 1 → turn.votes ≡ 1
  pub undecided : turn.votes ≢ p.f + 1

pub record FreshTurn (b : Box) (t : Token) (log : List (List Entry)) (turn : Turn) : Type 0 where
  pub ahead : length b.log ≤ length t.decisions
  pub unproposed : t.proposal ≡ []
  pub logged : log ≡ t.decisions
  pub turns : turn ≡ renewed b log

pub record DecideTurn (p : Plan) (b : Box) (t : Token) (log : List (List Entry)) (turn : Turn) : Type 0 where
  pub ahead : length b.log ≤ length t.decisions
  pub proposed : t.proposal ≢ []
  pub next : gap b t ≡ 1
  pub full : t.votes ≡ p.f
  pub logged : log ≡ t.decisions ++ t.proposal ∷ []
  pub turns : turn ≡ renewed b log

pub data Shape (p : Plan) (b : Box) (t : Token) (log : List (List Entry)) (turn : Turn) : Type 0 where
  is_old : OldTurn b t log turn → Shape p b t log turn
  is_keep : KeepTurn p b t log turn → Shape p b t log turn
  is_fresh : FreshTurn b t log turn → Shape p b t log turn
  is_decide : DecideTurn p b t log turn → Shape p b t log turn

-- what the test of votes says
count_true : (g l : ℕ) → (eqb g 1 && not (eqb l 0)) ≡ true → (g ≡ 1) × (l ≢ 0)
count_true g l e = let h = and_parts (eqb g 1) (not (eqb l 0)) e in (eqb-true g 1 h.0, eqb-false l 0 (not-true (eqb l 0) h.1))

count_false : (g l : ℕ) → (eqb g 1 && not (eqb l 0)) ≡ false → l ≢ 0 → g ≢ 1
count_false g l e ne q = ⊎_elim (λ h. eqb-false g 1 h q) (λ h. ne (eqb-true l 0 (not-false (eqb l 0) h))) (and_cases (eqb g 1) (not (eqb l 0)) e)

long_none : {X : Type 0} (x : X) (xs : List X) → length (x ∷ xs) ≢ 0
long_none x xs = omega arith

module _ (p : Plan) (b : Box) (t : Token) where
  go : (q d c : Bool) (prop : List Entry) → t.proposal ≡ prop → short b t ≡ q → eqb (cond c t.votes 0 + 1) (p.f + 1) ≡ d → (eqb (gap b t) 1 && not (eqb (length prop) 0)) ≡ c →
      Shape p b t (cond q b.log (cond d (t.decisions ++ prop ∷ []) t.decisions))
      (refilled (cond c t.votes 0 + 1) (cond q [] (cond d [] prop)) (left (cond q b.log (cond d (t.decisions ++ prop ∷ []) t.decisions)) b.unordered))
  go true d c prop ep eq ed ec = is_old (record { behind = ltb-true (length t.decisions) (length b.log) eq; logged = refl; turns = refl })
  go false true true prop ep eq ed ec =
      let h = count_true (gap b t) (length prop) ec in
      is_decide (record {
        ahead = ltb-false (length t.decisions) (length b.log) eq;
        proposed = λ z. h.1 (ap length (sym ep ∙ z));
        next = h.0;
        full = omega (arith, eqb-true (t.votes + 1) (p.f + 1) ed);
        logged = ap (λ l. t.decisions ++ l ∷ []) (sym ep);
        turns = refl;
      })
  go false true false prop ep eq ed ec = absurd (omega (arith, eqb-true (0 + 1) (p.f + 1) ed, p.some))
  go false false c [] ep eq ed ec = is_fresh (record { ahead = ltb-false (length t.decisions) (length b.log) eq; unproposed = ep; logged = refl; turns = refl })
  go false false true (x ∷ xs) ep eq ed ec =
      let h = count_true (gap b t) (length (x ∷ xs)) ec in
      is_keep (record {
        ahead = ltb-false (length t.decisions) (length b.log) eq;
        proposed = λ z. h.1 (ap length (sym ep ∙ z));
        logged = refl;
        kept = sym ep;
        joined = λ _. refl;
        skipped = λ ne. absurd (ne h.0);
        undecided = eqb-false (t.votes + 1) (p.f + 1) ed;
      })
  go false false false (x ∷ xs) ep eq ed ec =
      is_keep (record {
        ahead = ltb-false (length t.decisions) (length b.log) eq;
        proposed = λ z. cons≢nil (sym ep ∙ z);
        logged = refl;
        kept = sym ep;
        joined = λ e. absurd (count_false (gap b t) (length (x ∷ xs)) ec (long_none x xs) e);
        skipped = λ _. refl;
        undecided = eqb-false (0 + 1) (p.f + 1) ed;
      })

  -- the turn that opens has one of the four shapes
  pub shape : Shape p b t (opened_log p b t) (opened_turn p b t)
  shape = go (short b t) (decides p b t) (eqb (gap b t) 1 && not (eqb (length t.proposal) 0)) t.proposal refl refl refl refl

-- the log goes on at its end
pub grows : (p : Plan) (b : Box) (t : Token) (log : List (List Entry)) (turn : Turn) → Agree b.log t.decisions → Shape p b t log turn → Begins b.log log
grows p b t log turn ag (is_old r) = rw r.logged ([], sym (append-nil b.log))
grows p b t log turn ag (is_keep r) = rw r.logged (shorter_begins b.log t.decisions r.ahead ag)
grows p b t log turn ag (is_fresh r) = rw r.logged (shorter_begins b.log t.decisions r.ahead ag)
grows p b t log turn ag (is_decide r) = rw r.logged (begins_more b.log t.decisions (t.proposal ∷ []) (shorter_begins b.log t.decisions r.ahead ag))

-- what a log must have for a box to take it
pub record Fine (p : Plan) (b : Box) (log : List (List Entry)) : Type 0 where
  pub decided : AllByRecursion (LawfulDecision p) log
  pub once : Once [] (log_ids log)
  pub used : AllByRecursion (Used b) (log_ids log)

-- what a turn must have beside its log for its token to be lawful
pub record SoundTurn (p : Plan) (log : List (List Entry)) (turn : Turn) : Type 0 where
  pub voted : 1 ≤ turn.votes
  pub at_most : turn.votes ≤ p.f
  pub one_if_none : turn.proposal ≡ [] → turn.votes ≡ 1
  pub proposed : LawfulList p turn.proposal
  pub once : Once [] (ids_of turn.proposal ++ log_ids log)

-- a lawful token has at most f votes
few_votes : (p : Plan) (t : Token) → LawfulToken p t → t.votes ≤ p.f
few_votes p t l = elim (ℕ_discrete t.stamp 0) [ yes e ↦ omega (arith, (l.dummy e).no_votes) | no e ↦ (l.round e).votes_fit ]

pub votes_kept : (v w f g : ℕ) → 1 ≤ f → w ≤ f → (g ≡ 1 → v ≡ w + 1) → (g ≢ 1 → v ≡ 1) → v ≢ f + 1 → (1 ≤ v) × (v ≤ f)
votes_kept v w f g one most joined skipped ne = ⊎_elim
    (λ e. let h = joined e in (omega arith, omega arith))
    (λ e. let h = skipped e in (omega arith, omega arith))
    (cases_eq g 1)

module _ (p : Plan) (i : ℕ) (b : Box) (t : Token) (k : Keeps p i b) (l : LawfulToken p t) (u : AllByRecursion (Used b) (token_ids t)) where
  fine_log : Fine p b b.log
  fine_log = record { decided = k.lists.decisions; once = k.lists.once; used = k.logged_used }

  pub fine_decisions : Fine p b t.decisions
  fine_decisions = record {
    decided = l.decisions_lawful;
    once = once_back (ids_of t.proposal) (log_ids t.decisions) l.no_id_twice;
    used = all_back (Used b) (ids_of t.proposal) (log_ids t.decisions) u;
  }

  fine_decided : t.proposal ≢ [] → Fine p b (t.decisions ++ t.proposal ∷ [])
  fine_decided ne = record {
    decided = All-push (LawfulDecision p) t.decisions t.proposal l.decisions_lawful (record { entries = l.proposal_lawful; some = some_long t.proposal ne });
    once = rw ids_more (once_swap (ids_of t.proposal) (log_ids t.decisions) l.no_id_twice);
    used = rw ids_more (All-append (Used b) (log_ids t.decisions) (ids_of t.proposal) (all_back (Used b) (ids_of t.proposal) (log_ids t.decisions) u) (all_front (Used b) (ids_of t.proposal) (log_ids t.decisions) u));
  }

  pub fine : (log : List (List Entry)) (turn : Turn) → Shape p b t log turn → Fine p b log
  fine log turn (is_old r) = rw r.logged fine_log
  fine log turn (is_keep r) = rw r.logged fine_decisions
  fine log turn (is_fresh r) = rw r.logged fine_decisions
  fine log turn (is_decide r) = rw r.logged (fine_decided r.proposed)

  renew : (log : List (List Entry)) (turn : Turn) → Fine p b log → turn ≡ renewed b log → SoundTurn p log turn
  renew log turn fine e =
      let lawful = lawful_left p log b.unordered k.lists.entries in
      rw e (record {
        voted = omega arith;
        at_most = p.some;
        one_if_none = λ _. refl;
        proposed = lawful;
        once = once_beside (ids_of (left log b.unordered)) (log_ids log) lawful.ascend (apart_left log b.unordered) fine.once;
      })

  pub sound : (log : List (List Entry)) (turn : Turn) → Shape p b t log turn → SoundTurn p log turn
  sound log turn (is_old r) = renew log turn (fine log turn (is_old r)) r.turns
  sound log turn (is_keep r) =
      let votes = votes_kept turn.votes t.votes p.f (gap b t) p.some (few_votes p t l) r.joined r.skipped r.undecided in
      record {
        voted = votes.0;
        at_most = votes.1;
        one_if_none = λ e. absurd (r.proposed (sym r.kept ∙ e));
        proposed = rw r.kept l.proposal_lawful;
        once = rw (r.kept, r.logged) l.no_id_twice;
      }
  sound log turn (is_fresh r) = renew log turn (fine log turn (is_fresh r)) r.turns
  sound log turn (is_decide r) = renew log turn (fine log turn (is_decide r)) r.turns

  -- the token of the turn is lawful
  pub lawful_turn : b.awaited ≤ 999999 → LawfulToken p (passed (opened p b t) (opened_turn p b t))
  lawful_turn time =
      let s = sound (opened_log p b t) (opened_turn p b t) (shape p b t) in
      let m = mod-lt b.awaited {m = p.n} (omega (arith, p.least)) in
      record {
        sender_fits = omega (arith, k.seated, k.in_turn);
        stamp_fits = omega (arith, time);
        dummy = λ z. absurd (omega arith);
        round = λ _. record { in_turn = (let d : b.awaited + 1 - 1 ≡ b.awaited = omega arith in ap (λ x. x % p.n) d ∙ k.in_turn ∙ sym k.seated); voted = s.voted; votes_fit = s.at_most; one_vote = s.one_if_none };
        proposal_lawful = s.proposed;
        decisions_lawful = (fine (opened_log p b t) (opened_turn p b t) (shape p b t)).decided;
        no_id_twice = s.once;
      }
