-- A started record keeps the rules, and every call keeps them.
use Rattle.std.proofs.Common.{◌≡◌, ℕ, ◌+◌, ◌%◌, ◌<◌, ◌≤◌, Bool, true, false, cond, not, ◌&&◌, eqb, leb, List, [], ◌∷◌, length, Some, None, Ok, Err, Option, Result, sym, refl, ap, ◌∙◌, subst, mod-lt, mod-eq_of_lt, arith}
use native.Mathlib.Nat.{mod_self, add-mod_right}
use Rattle.std.specs.List.{AllByRecursion}
use Rattle.std.proofs.ByRecursion.{All-weaker}
use Rattle.std.proofs.lemmas.Bool.{cond_both, ne_eqb, eqb-true, or_from, leb-false}
use Rattle.frames.specs.declared.plan.Plan.{Plan}
use Rattle.frames.specs.declared.Entry.{Entry}
use Rattle.frames.specs.declared.FrameFault.{FrameFault}
use Rattle.frames.specs.Contents.{Token, Content, has, ids_of, LawfulEntry, LawfulToken, Lawful}
use Rattle.frames.specs.Contents.Content.{order, token}
use Rattle.frames.specs.Reading.{read_as}
use Rattle.frames.proofs.Back.{back}
use Rattle.boxes.specs.declared.Outcome.{Outcome}
use Rattle.boxes.specs.declared.Outcome.TheVariants as outcome
use Rattle.boxes.specs.declared.BoxFault.{BoxFault}
use Rattle.boxes.specs.declared.BoxFault.TheVariants as fault
use Rattle.boxes.specs.Boxes.{Turn, Box, Used, Keeps, log_ids, token_ids, passed}
use Rattle.boxes.specs.Turns.{holding, logging, doubting, off, passing, forfeiting, started, next_id, next_entry, sending, opened_log, opened_turn, opened}
use Rattle.boxes.specs.Handling.{answer, box_after}
use Rattle.boxes.specs.Calls.{stayed_or, off_fault, send_fault, read_after, pass_fault, forfeit_fault}
use Rattle.boxes.specs.Cases.{OrderHandled, TokenHandled}
use Rattle.boxes.specs.Laws.{Stays, RecordsStay}
use Rattle.boxes.proofs.Ids.{ids_left, apart_left, lawful_left, ids_inserted, lawful_inserted}
use Rattle.std.proofs.lemmas.Option.{none-some}
use Rattle.boxes.proofs.Answering.{fit}
use Rattle.boxes.proofs.Shapes.{Fine, fine, fine_decisions, shape, lawful_turn}

-- a closed turn owes no token
pub closed : (P : Turn → Type 0) (t : Turn) → None ≡ Some t → P t
closed P t e = absurd (none-some t e)

module _ (p : Plan) (i : ℕ) (b : Box) (k : Keeps p i b) where
  pub seat_below : b.seat < p.n
  seat_below = omega (arith, mod-lt b.awaited {m = p.n} (omega (arith, p.least)), k.seated, k.in_turn)

  -- one more entry, its id new here
  pub keeps_holding : (e : Entry) (last : ℕ) → b.last ≤ last → last ≤ 15 → LawfulEntry p e → Used (holding b e last) e.id → has e.id (ids_of b.unordered) ≡ false → has e.id (log_ids b.log) ≡ false → Keeps p i (holding b e last)
  keeps_holding e last more most l u h g = record {
    boxes = k.boxes;
    failing = k.failing;
    seated = k.seated;
    in_turn = k.in_turn;
    lists = record {
      entries = lawful_inserted p e b.unordered l h k.lists.entries;
      apart = ids_inserted (λ j. has j (log_ids b.log) ≡ false) e b.unordered g k.lists.apart;
      decisions = k.lists.decisions;
      once = k.lists.once;
    };
    unordered_used = ids_inserted (Used (holding b e last)) e b.unordered u (All-weaker (Used b) (Used (holding b e last)) weaker (ids_of b.unordered) k.unordered_used);
    logged_used = All-weaker (Used b) (Used (holding b e last)) weaker (log_ids b.log) k.logged_used;
    serials = most;
    turns = k.turns;
  }
    where
      weaker : (j : ℕ) → Used b j → Used (holding b e last) j
      weaker j h' q = let z = h' q in omega arith

  -- another log, with what it has taken from the unordered entries
  pub keeps_logging : (log : List (List Entry)) (turn : Option Turn) → Fine p b log → ((t : Turn) → turn ≡ Some t → LawfulToken p (passed (logging b log turn) t)) → Keeps p i (logging b log turn)
  keeps_logging log turn f ts = record {
    boxes = k.boxes;
    failing = k.failing;
    seated = k.seated;
    in_turn = k.in_turn;
    lists = record { entries = lawful_left p log b.unordered k.lists.entries; apart = apart_left log b.unordered; decisions = f.decided; once = f.once };
    unordered_used = ids_left (Used b) log b.unordered k.unordered_used;
    logged_used = f.used;
    serials = k.serials;
    turns = ts;
  }

  keeps_opened : (t : Token) → LawfulToken p t → AllByRecursion (Used b) (token_ids t) → b.awaited ≤ 999999 → Keeps p i (opened p b t)
  keeps_opened t l u time =
      keeps_logging (opened_log p b t) (Some (opened_turn p b t)) (fine p i b t k l u (opened_log p b t) (opened_turn p b t) (shape p b t))
      (λ y e. let q : opened_turn p b t ≡ y = cc in subst (λ z. LawfulToken p (passed (opened p b t) z)) q (lawful_turn p i b t k l u time))

  same : (b' : Box) → b' ≡ b → Keeps p i b'
  same b' e = subst (Keeps p i) (sym e) k

  by_order : (e : Entry) → LawfulEntry p e → (r : Result (Outcome (Unit {0})) BoxFault) (b' : Box) → OrderHandled b e r b' → Keeps p i b'
  by_order e l (Ok outcome.Kept) b' x = subst (Keeps p i) (sym x.3) (keeps_holding e b.last (omega arith) k.serials l x.0 x.1 x.2)
  by_order e l (Ok outcome.Known) b' x = same b' x.2
  by_order e l (Ok outcome.Waits) b' x = absurd x
  by_order e l (Ok outcome.Stale) b' x = absurd x
  by_order e l (Ok (outcome.Learned j)) b' x = absurd x
  by_order e l (Ok (outcome.Opened tt)) b' x = absurd x
  by_order e l (Err fault.Short) b' x = absurd x
  by_order e l (Err fault.Plan) b' x = absurd x
  by_order e l (Err fault.Off) b' x = absurd x
  by_order e l (Err fault.Serials) b' x = absurd x
  by_order e l (Err (fault.Frame q)) b' x = absurd x
  by_order e l (Err fault.Sender) b' x = same b' x.1
  by_order e l (Err fault.Open) b' x = absurd x
  by_order e l (Err fault.History) b' x = absurd x
  by_order e l (Err fault.Rounds) b' x = absurd x
  by_order e l (Err fault.Turn) b' x = absurd x

  by_token : (t : Token) → LawfulToken p t → (r : Result (Outcome (Unit {0})) BoxFault) (b' : Box) → TokenHandled p b t r b' → Keeps p i b'
  by_token t l (Ok outcome.Kept) b' x = absurd x
  by_token t l (Ok outcome.Known) b' x = absurd x
  by_token t l (Ok outcome.Waits) b' x = same b' x.3
  by_token t l (Ok outcome.Stale) b' x = same b' x.4
  by_token t l (Ok (outcome.Learned j)) b' x = subst (Keeps p i) (sym x.5) (keeps_logging t.decisions None (fine_decisions p i b t k l x.0.0.1) (λ y e. closed (λ z. LawfulToken p (passed (logging b t.decisions None) z)) y e))
  by_token t l (Ok (outcome.Opened tt)) b' x = subst (Keeps p i) (sym x.4) (keeps_opened t l x.0.0.1 x.3)
  by_token t l (Err fault.Short) b' x = absurd x
  by_token t l (Err fault.Plan) b' x = absurd x
  by_token t l (Err fault.Off) b' x = absurd x
  by_token t l (Err fault.Serials) b' x = absurd x
  by_token t l (Err (fault.Frame q)) b' x = absurd x
  by_token t l (Err fault.Sender) b' x = same b' x.1
  by_token t l (Err fault.Open) b' x = same b' x.2
  by_token t l (Err fault.History) b' x = same b' x.3
  by_token t l (Err fault.Rounds) b' x = same b' x.4
  by_token t l (Err fault.Turn) b' x = absurd x

  by_contents : (c : Content) → Lawful p c → Keeps p i (box_after p b c)
  by_contents (order e) l = by_order e l (answer p b (order e)) (box_after p b (order e)) (fit p b (order e))
  by_contents (token t) l = by_token t l (answer p b (token t)) (box_after p b (token t)) (fit p b (token t))

  -- the box's next id is new to it
  pub unused : (is : List ℕ) → b.last < 15 → AllByRecursion (Used b) is → has (next_id b) is ≡ false
  unused [] l a = refl
  unused (j ∷ is) l a = or_from (eqb (next_id b) j) (has (next_id b) is) (ne_eqb (next_id b) j (λ e. clash j e a.0)) (unused is l a.1)
    where
      clash : (j : ℕ) → next_id b ≡ j → Used b j → ⊥
      clash j e u = let h = u (omega arith) in omega arith

  pub next_lawful : (body : List ℕ) → b.last < 15 → length body ≡ 8 → AllByRecursion (λ x. x < 256) body → LawfulEntry p (next_entry b body)
  next_lawful body l n bytes = record { id_in_range = (let s = seat_below in omega arith, λ z. omega arith); eight = n; bytes = bytes }

  pub keeps_sending : (body : List ℕ) → b.last < 15 → length body ≡ 8 → AllByRecursion (λ x. x < 256) body → Keeps p i (sending b body)
  keeps_sending body l n bytes =
      keeps_holding (next_entry b body) (b.last + 1) (omega arith) (omega arith) (next_lawful body l n bytes) (λ _. omega arith)
      (unused (ids_of b.unordered) l k.unordered_used) (unused (log_ids b.log) l k.logged_used)

  -- the round that is awaited after a pass, and a turn that is closed
  pub keeps_passing : Keeps p i (passing b)
  keeps_passing = record {
    boxes = k.boxes;
    failing = k.failing;
    seated = k.seated;
    in_turn = ap (λ x. (b.awaited + x) % p.n) k.boxes ∙ add-mod_right b.awaited p.n ∙ k.in_turn;
    lists = k.lists;
    unordered_used = k.unordered_used;
    logged_used = k.logged_used;
    serials = k.serials;
    turns = λ t e. closed (λ z. LawfulToken p (passed (passing b) z)) t e;
  }

  keeps_forfeiting : Keeps p i (forfeiting b)
  keeps_forfeiting = record {
    boxes = k.boxes;
    failing = k.failing;
    seated = k.seated;
    in_turn = k.in_turn;
    lists = k.lists;
    unordered_used = k.unordered_used;
    logged_used = k.logged_used;
    serials = k.serials;
    turns = λ t e. closed (λ z. LawfulToken p (passed (forfeiting b) z)) t e;
  }

  pub keeps_doubting : (d : Bool) → Keeps p i (doubting d b)
  keeps_doubting d = record { boxes = k.boxes; failing = k.failing; seated = k.seated; in_turn = k.in_turn; lists = k.lists; unordered_used = k.unordered_used; logged_used = k.logged_used; serials = k.serials; turns = k.turns }

  pub keeps_off : Keeps p i (off b)
  keeps_off = record { boxes = k.boxes; failing = k.failing; seated = k.seated; in_turn = k.in_turn; lists = k.lists; unordered_used = k.unordered_used; logged_used = k.logged_used; serials = k.serials; turns = k.turns }

  -- a refused call leaves the record
  or_stayed : (o : Option BoxFault) (b' : Box) → (o ≡ None → Keeps p i b') → Keeps p i (stayed_or o b b')
  or_stayed None b' h = h refl
  or_stayed (Some e) b' h = k

  room_left : (kept on full : Bool) → cond (not kept) (Some fault.Plan) (cond (not on) (Some fault.Off) (cond full (Some fault.Serials) None)) ≡ None → full ≡ false
  room_left true true false e = refl
  room_left true true true e = absurd (none-some _ (sym e))
  room_left true false full e = absurd (none-some _ (sym e))
  room_left false on full e = absurd (none-some _ (sym e))

  by_read : (bytes : List ℕ) → AllByRecursion (λ x. x < 256) bytes → (r : Result Content FrameFault) → read_as p bytes ≡ r → Keeps p i (read_after p b r)
  by_read bytes a (Ok c) e = by_contents c (back p bytes c a e).1
  by_read bytes a (Err f) e = k

  stays : Stays p i b
  stays = record {
    by_contents = by_contents;
    by_frame = λ kept bytes a. cond_both (kept && b.on) (read_after p b (read_as p bytes)) b (Keeps p i) (λ _. by_read bytes a (read_as p bytes) refl) (λ _. k);
    by_send = λ kept body n a. or_stayed (send_fault b kept) (sending b body) (λ e. keeps_sending body (leb-false 15 b.last (room_left kept b.on (leb 15 b.last) e)) n a);
    by_doubt = λ d kept. or_stayed (off_fault b kept) (doubting d b) (λ _. keeps_doubting d);
    by_off = λ kept. or_stayed (off_fault b kept) (off b) (λ _. keeps_off);
    by_pass = λ kept room seat round. or_stayed (pass_fault b kept room seat round) (passing b) (λ _. keeps_passing);
    by_forfeit = λ kept seat round. or_stayed (forfeit_fault b kept seat round) (forfeiting b) (λ _. keeps_forfeiting);
  }

start : (p : Plan) (i : ℕ) → i < p.n → Keeps p i (started p i)
start p i l = record {
  boxes = refl;
  failing = refl;
  seated = refl;
  in_turn = cond_both (eqb i 0) p.n i (λ a. a % p.n ≡ i) (λ e. mod_self p.n ∙ sym (eqb-true i 0 e)) (λ _. mod-eq_of_lt l);
  lists = record { entries = record { each = tt; ascend = tt }; apart = tt; decisions = tt; once = tt };
  unordered_used = tt;
  logged_used = tt;
  serials = omega arith;
  turns = λ t e. closed (λ z. LawfulToken p (passed (started p i) z)) t e;
}

pub records-stay : RecordsStay
records-stay = record { start = start; stay = stays }
