-- The token of an opened turn comes about in one of the four ways of a history.
use Rattle.std.proofs.Common.{◌≡◌, ℕ, ◌+◌, ◌<◌, ◌≤◌, not, List, length, Ok, refl, ap, ◌∙◌, subst, inl, inr, arith}
use Rattle.std.specs.List.{ContainsAt as Has, AllByRecursion}
use Rattle.std.proofs.ByRecursion.{all_kept_by}
use Rattle.frames.specs.declared.plan.Plan.{Plan}
use Rattle.frames.specs.declared.Entry.{Entry}
use Rattle.frames.specs.Contents.{Token, has}
use Rattle.frames.specs.Contents.Content.{token}
use Rattle.history.specs.Tokens as made
use Rattle.history.specs.Tokens.{Step}
use Rattle.history.specs.Tokens.Step.{old, keep, fresh, decide}
use Rattle.history.specs.Histories.{History, In}
use Rattle.history.specs.Entries.{Put, carried}
use Rattle.boxes.specs.declared.Outcome.TheVariants as outcome
use Rattle.boxes.specs.Boxes.{Turn, Box, Keeps, log_ids}
use Rattle.boxes.specs.Turns.{gap, opened_log, opened_turn}
use Rattle.boxes.specs.Handling.{answer, box_after}
use Rattle.boxes.specs.Cases.{Opens, TokenHandled}
use Rattle.boxes.specs.Laws.{Logged, TurnsMakeTokens}
use Rattle.boxes.proofs.Ids.{apart_left, lawful_left}
use Rattle.boxes.proofs.Answering.{fit}
use Rattle.boxes.proofs.Shapes.{Shape, shape, renewed, sound}
use Rattle.boxes.proofs.Shapes.Shape.{is_old, is_keep, is_fresh, is_decide}

-- what is known as a turn opens
pub opened_when : (p : Plan) (b : Box) (t : Token) → answer p b (token t) ≡ Ok (outcome.Opened tt) → TokenHandled p b t (Ok (outcome.Opened tt)) (box_after p b (token t))
opened_when p b t e = subst (λ r. TokenHandled p b t r (box_after p b (token t))) e (fit p b (token t))

-- a turn opens on a token of one of the f+1 rounds before
pub opens_near : (p : Plan) (b : Box) (t : Token) → Opens p b t → (t.stamp < b.awaited + 1) × (b.awaited + 1 ≤ t.stamp + p.f + 1)
opens_near p b t (inl e) = (omega arith, omega arith)
opens_near p b t (inr x) = let l = x.1 in let u = x.2 in (omega arith, omega arith)

module _ (p : Plan) (i : ℕ) (b : Box) (t : Token) (k : Keeps p i b) (sent : List Entry) (s : AllByRecursion (Has sent) b.unordered) (H : History Entry) (from : Logged H b) where
  -- what a log leaves may be put forward beside it
  puts : (log : List (List Entry)) (turn : Turn) → turn ≡ renewed b log → Put p sent log turn.proposal
  puts log turn e = rw e (record {
    lawful = lawful_left p log b.unordered k.lists.entries;
    undecided = apart_left log b.unordered;
    were_sent = all_kept_by (λ (x : Entry). not (has x.id (log_ids log))) (Has sent) b.unordered s;
  })

  -- the token that a turn makes beside a log, as a history keeps it
  abbrev makes : List (List Entry) → Turn → made.Token Entry
  makes log turn = record { votes = turn.votes; proposal = turn.proposal; decisions = log }

  gap_next : gap b t ≡ 1 → b.awaited + 1 ≡ t.stamp + 1
  gap_next e = omega arith

  next_gap : b.awaited + 1 ≡ t.stamp + 1 → gap b t ≡ 1
  next_gap e = omega arith

  by_shape : (log : List (List Entry)) (turn : Turn) → turn.votes ≤ p.f → Shape p b t log turn → Step (Put p sent) (In H) p.f (b.awaited + 1) t.stamp (makes log turn) (carried t)
  by_shape log turn few (is_old r) = old (record {
    from = from.from;
    other = from.source;
    earlier = omega (arith, from.earlier);
    made = from.made;
    longer = omega (arith, r.behind, ap length from.same);
    decided = r.logged ∙ from.same;
    one_vote = ap (λ (x : Turn). x.votes) r.turns;
    fits = puts log turn r.turns;
  })
  by_shape log turn few (is_keep r) = keep (record {
    decided = r.logged;
    proposed = r.proposed;
    same = r.kept;
    joined = λ e. r.joined (next_gap e);
    skipped = λ ne. r.skipped (λ e. ne (gap_next e));
    short = few;
  })
  by_shape log turn few (is_fresh r) = fresh (record { unproposed = r.unproposed; decided = r.logged; one_vote = ap (λ (x : Turn). x.votes) r.turns; fits = puts log turn r.turns })
  by_shape log turn few (is_decide r) = decide (record {
    next = gap_next r.next;
    full = r.full;
    proposed = r.proposed;
    decided = r.logged;
    one_vote = ap (λ (x : Turn). x.votes) r.turns;
    fits = puts log turn r.turns;
  })

pub turns_make_tokens : TurnsMakeTokens
turns_make_tokens p i b t k l e sent s H from =
    let x = opened_when p b t e in
    let n = opens_near p b t x.1 in
    let few = (sound p i b t k l x.0.0.1 (opened_log p b t) (opened_turn p b t) (shape p b t)).at_most in
    record { awaited = refl; before = n.0; near = n.1; step = by_shape p i b t k sent s H from (opened_log p b t) (opened_turn p b t) few (shape p b t) }
