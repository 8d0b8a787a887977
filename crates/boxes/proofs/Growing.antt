-- Logs grow at their end, and by what the handed token has decided or decides.
use Rattle.std.proofs.Common.{◌≡◌, List, [], Ok, Err, Result, sym, refl, subst, inl, inr, append-nil, arith}
use Rattle.frames.specs.declared.plan.Plan.{Plan}
use Rattle.frames.specs.declared.Entry.{Entry}
use Rattle.frames.specs.Contents.{Token, Content}
use Rattle.frames.specs.Contents.Content.{order, token}
use Rattle.history.specs.Histories.{Begins}
use Rattle.history.proofs.Prefix.{shorter_begins}
use Rattle.boxes.specs.declared.Outcome.{Outcome}
use Rattle.boxes.specs.declared.Outcome.TheVariants as outcome
use Rattle.boxes.specs.declared.BoxFault.{BoxFault}
use Rattle.boxes.specs.declared.BoxFault.TheVariants as fault
use Rattle.boxes.specs.Boxes.{Turn, Box}
use Rattle.boxes.specs.Turns.{opened_log, opened_turn}
use Rattle.boxes.specs.Handling.{answer, box_after}
use Rattle.boxes.specs.Cases.{OrderHandled, TokenHandled}
use Rattle.boxes.specs.Laws.{LoggedFrom, LogsGrow}
use Rattle.boxes.proofs.Answering.{fit}
use Rattle.boxes.proofs.Shapes.{Shape, shape, grows}
use Rattle.boxes.proofs.Shapes.Shape.{is_old, is_keep, is_fresh, is_decide}

-- what the log of a record becomes
abbrev Grown : Plan → Box → Content → Box → Type 0
Grown p b c b' = Begins b.log b'.log × LoggedFrom p b c b'.log

itself : {A : Type 0} (xs : List A) → Begins xs xs
itself xs = ([], sym (append-nil xs))

logged_from : (p : Plan) (b : Box) (t : Token) (log : List (List Entry)) (turn : Turn) → Shape p b t log turn → LoggedFrom p b (token t) log
logged_from p b t log turn (is_old r) = inl r.logged
logged_from p b t log turn (is_keep r) = inr (inl r.logged)
logged_from p b t log turn (is_fresh r) = inr (inl r.logged)
logged_from p b t log turn (is_decide r) = inr (inr (record { next = omega (arith, r.next); full = omega (arith, r.full); proposed = r.proposed; is = r.logged }))

module _ (p : Plan) (b : Box) where
  order_same : (e : Entry) (b' : Box) → b' ≡ b → Grown p b (order e) b'
  order_same e b' q = subst (Grown p b (order e)) (sym q) (itself b.log, refl)

  token_same : (t : Token) (b' : Box) → b' ≡ b → Grown p b (token t) b'
  token_same t b' q = subst (Grown p b (token t)) (sym q) (itself b.log, inl refl)

  by_order : (e : Entry) (r : Result (Outcome (Unit {0})) BoxFault) (b' : Box) → OrderHandled b e r b' → Grown p b (order e) b'
  by_order e (Ok outcome.Kept) b' x = subst (Grown p b (order e)) (sym x.3) (itself b.log, refl)
  by_order e (Ok outcome.Known) b' x = order_same e b' x.2
  by_order e (Ok outcome.Waits) b' x = absurd x
  by_order e (Ok outcome.Stale) b' x = absurd x
  by_order e (Ok (outcome.Learned j)) b' x = absurd x
  by_order e (Ok (outcome.Opened tt)) b' x = absurd x
  by_order e (Err fault.Short) b' x = absurd x
  by_order e (Err fault.Plan) b' x = absurd x
  by_order e (Err fault.Off) b' x = absurd x
  by_order e (Err fault.Serials) b' x = absurd x
  by_order e (Err (fault.Frame q)) b' x = absurd x
  by_order e (Err fault.Sender) b' x = order_same e b' x.1
  by_order e (Err fault.Open) b' x = absurd x
  by_order e (Err fault.History) b' x = absurd x
  by_order e (Err fault.Rounds) b' x = absurd x
  by_order e (Err fault.Turn) b' x = absurd x

  by_token : (t : Token) (r : Result (Outcome (Unit {0})) BoxFault) (b' : Box) → TokenHandled p b t r b' → Grown p b (token t) b'
  by_token t (Ok outcome.Kept) b' x = absurd x
  by_token t (Ok outcome.Known) b' x = absurd x
  by_token t (Ok outcome.Waits) b' x = token_same t b' x.3
  by_token t (Ok outcome.Stale) b' x = token_same t b' x.4
  by_token t (Ok (outcome.Learned j)) b' x = subst (Grown p b (token t)) (sym x.5) (shorter_begins b.log t.decisions (omega (arith, x.3)) x.2, inr (inl refl))
  by_token t (Ok (outcome.Opened tt)) b' x = subst (Grown p b (token t)) (sym x.4) (grows p b t (opened_log p b t) (opened_turn p b t) x.2 (shape p b t), logged_from p b t (opened_log p b t) (opened_turn p b t) (shape p b t))
  by_token t (Err fault.Short) b' x = absurd x
  by_token t (Err fault.Plan) b' x = absurd x
  by_token t (Err fault.Off) b' x = absurd x
  by_token t (Err fault.Serials) b' x = absurd x
  by_token t (Err (fault.Frame q)) b' x = absurd x
  by_token t (Err fault.Sender) b' x = token_same t b' x.1
  by_token t (Err fault.Open) b' x = token_same t b' x.2
  by_token t (Err fault.History) b' x = token_same t b' x.3
  by_token t (Err fault.Rounds) b' x = token_same t b' x.4
  by_token t (Err fault.Turn) b' x = absurd x

pub logs_grow : LogsGrow
logs_grow p b (order e) = by_order p b e (answer p b (order e)) (box_after p b (order e)) (fit p b (order e))
logs_grow p b (token t) = by_token p b t (answer p b (token t)) (box_after p b (token t)) (fit p b (token t))
