-- Histories of a plan's orders, and their tokens as frames.
use Rattle.std.specs.Prelude.{◌≡◌, ℕ, ◌-◌, ◌%◌, ◌<◌, ◌≤◌, false, ◌≢◌, List, ◌∷◌}
use Rattle.std.specs.List.{ContainsAt as Has, flat_map, AllByRecursion}
use Rattle.frames.specs.declared.plan.Plan.{Plan}
use Rattle.frames.specs.declared.Entry.{Entry}
use Rattle.frames.specs.Contents as frame
use Rattle.frames.specs.Contents.{has, ids_of, LawfulList, LawfulToken}
use Rattle.history.specs.Tokens.{Token, Lawful}
use Rattle.history.specs.Histories.{History, In, empty, Agreeing, Unrepeated, Uninvented}
use Rattle.history.specs.Laws.{Grows}

-- What a box may put forward beside decisions once these orders were sent: lawful entries in ascending id, each of them sent
-- and none decided.
pub record Put (p : Plan) (sent : List Entry) (ds : List (List Entry)) (new : List Entry) : Type 0 where
  pub lawful : LawfulList p new
  pub undecided : AllByRecursion (λ i. has i (flat_map ids_of ds) ≡ false) (ids_of new)
  pub were_sent : AllByRecursion (Has sent) new

-- What a frame's token carries, as a history keeps it.
abbrev pub carried : frame.Token → Token Entry
carried t = record { votes = t.votes; proposal = t.proposal; decisions = t.decisions }

-- A frame's token in a history: its stamp beside what it carries.
abbrev pub kept : frame.Token → ℕ × Token Entry
kept t = (t.stamp, carried t)

-- The frame's token in which a sender passes on a token of a history.
abbrev pub framed : (sender : ℕ) → ℕ × Token Entry → frame.Token
framed sender x = record { sender = sender; stamp = x.0; votes = x.1.votes; proposal = x.1.proposal; decisions = x.1.decisions }

-- A frame's token is its sender and what a history keeps of it, and all lawful dummies are kept as the one token of stamp 0.
pub record FramesFit : Type 0 where
  pub there : (t : frame.Token) → framed t.sender (kept t) ≡ t
  pub back : (sender : ℕ) (x : ℕ × Token Entry) → kept (framed sender x) ≡ x
  pub dummies : (p : Plan) (t : frame.Token) → LawfulToken p t → t.stamp ≡ 0 → kept t ≡ (0, empty 0)

-- Whose token it may be: a dummy comes from one of the last f boxes, and any other token from the box that is its round modulo n.
pub record Sender (p : Plan) (stamp sender : ℕ) : Type 0 where
  pub in_ring : sender < p.n
  pub of_dummy : stamp ≡ 0 → p.n - p.f ≤ sender
  pub of_round : stamp ≢ 0 → (stamp - 1) % p.n ≡ sender

-- What holds of a lawful history of orders: its tokens agree, no id stands twice in one, nothing is invented, and each is a
-- lawful frame of its sender up to round 999,999.
pub record Sound (p : Plan) (sent : List Entry) (H : History Entry) : Type 0 where
  pub agree : Agreeing (In H)
  pub once : Unrepeated (λ (e : Entry). e.id) (In H)
  pub uninvented : Uninvented sent (In H)
  pub frames : (s : ℕ) (t : Token Entry) → In H s t → (sender : ℕ) → Sender p s sender → s ≤ 1000000 → LawfulToken p (framed sender (s, t))

-- Every lawful history of a plan's orders is sound.
abbrev pub OrdersAgree : Type 0
OrdersAgree = (p : Plan) (sent : List Entry) (H : History Entry) → Lawful (Put p sent) (In H) p.f → Sound p sent H

-- Histories of orders grow by tokens, and stay lawful as orders are sent.
pub record OrdersGrow : Type 0 where
  pub tokens : (p : Plan) (sent : List Entry) → Grows (Put p sent)
  pub sends : (p : Plan) (sent : List Entry) (e : Entry) (f : ℕ) (H : History Entry) → Lawful (Put p sent) (In H) f → Lawful (Put p (e ∷ sent)) (In H) f
