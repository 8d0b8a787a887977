-- What a token carries, and the ways in which one comes about.
-- A round is told by its stamp, which is one more: stamp 0 is the dummies' round -1, and stamp 1 is round 0.
use Rattle.std.specs.Prelude.{◌≡◌, ℕ, ◌+◌, ◌<◌, ◌≤◌, ◌≢◌, List, [], ◌∷◌, ◌++◌, length}

-- A token, apart from its sender and its stamp: the entries that are proposed to be decided next, the votes for them,
-- which are the boxes in a row that proposed them beside these decisions, and the decisions, the oldest first.
pub record Token (E : Type 0) : Type 0 where
  pub votes : ℕ
  pub proposal : List E
  pub decisions : List (List E)

-- Which tokens were made: whether t is the token of the stamp s.
abbrev pub Relation : Type 0 → Type 1
Relation E = ℕ → Token E → Type 0

-- What a box may put forward: whether a new proposal may stand beside these decisions in its token.
abbrev pub Rule : Type 0 → Type 1
Rule E = List (List E) → List E → Type 0

-- Anything may be put forward.
abbrev pub Any : {E : Type 0} → Rule E
Any ds new = Unit {0}

-- A token with so many votes and nothing else.
pub record Empty {E : Type 0} (votes : ℕ) (t : Token E) : Type 0 where
  pub voted : t.votes ≡ votes
  pub unproposed : t.proposal ≡ []
  pub undecided : t.decisions ≡ []

-- Old: the box's log, which is the decisions of an earlier token, is longer than the parent's decisions.
-- The token has the log, one vote and a new proposal; what the parent u proposed is dropped.
pub record Old {E : Type 0} (Fit : Rule E) (Made : Relation E) (s : ℕ) (t u : Token E) : Type 0 where
  pub from : ℕ
  pub other : Token E
  pub earlier : from < s
  pub made : Made from other
  pub longer : length u.decisions < length other.decisions
  pub decided : t.decisions ≡ other.decisions
  pub one_vote : t.votes ≡ 1
  pub fits : Fit t.decisions t.proposal

-- Keep: the parent's proposal is carried on beside its decisions, with one vote more if the parent is of the round just before,
-- and with one vote if rounds lie between; there are never more than f.
pub record Keep {E : Type 0} (f s p : ℕ) (t u : Token E) : Type 0 where
  pub decided : t.decisions ≡ u.decisions
  pub proposed : u.proposal ≢ []
  pub same : t.proposal ≡ u.proposal
  pub joined : s ≡ p + 1 → t.votes ≡ u.votes + 1
  pub skipped : s ≢ p + 1 → t.votes ≡ 1
  pub short : t.votes ≤ f

-- Fresh: the parent proposes nothing. The token has its decisions, one vote and a new proposal.
pub record Fresh {E : Type 0} (Fit : Rule E) (t u : Token E) : Type 0 where
  pub unproposed : u.proposal ≡ []
  pub decided : t.decisions ≡ u.decisions
  pub one_vote : t.votes ≡ 1
  pub fits : Fit t.decisions t.proposal

-- Decide: the parent is of the round just before and its proposal has f votes; this box's makes f+1. The proposal becomes
-- one more decision, and the token has one vote and a new proposal.
pub record Decide {E : Type 0} (Fit : Rule E) (f s p : ℕ) (t u : Token E) : Type 0 where
  pub next : s ≡ p + 1
  pub full : u.votes ≡ f
  pub proposed : u.proposal ≢ []
  pub decided : t.decisions ≡ u.decisions ++ u.proposal ∷ []
  pub one_vote : t.votes ≡ 1
  pub fits : Fit t.decisions t.proposal

-- The four ways in which a box makes the token t of the stamp s from the parent u of the stamp p.
pub data Step {E : Type 0} (Fit : Rule E) (Made : Relation E) (f s p : ℕ) (t u : Token E) : Type 0 where
  old : Old Fit Made s t u → Step Fit Made f s p t u
  keep : Keep f s p t u → Step Fit Made f s p t u
  fresh : Fresh Fit t u → Step Fit Made f s p t u
  decide : Decide Fit f s p t u → Step Fit Made f s p t u

-- A token made from a parent of one of the f+1 rounds before.
pub record Next {E : Type 0} (Fit : Rule E) (Made : Relation E) (f s : ℕ) (t : Token E) : Type 0 where
  pub at : ℕ
  pub parent : Token E
  pub made : Made at parent
  pub before : at < s
  pub near : s ≤ at + f + 1
  pub step : Step Fit Made f s at t parent

-- How the token t of the stamp s may come about: as the dummies' token, which has no vote, as the token of round 0, which has
-- one, or from a parent.
pub data Created {E : Type 0} (Fit : Rule E) (Made : Relation E) (f s : ℕ) (t : Token E) : Type 0 where
  dummy : s ≡ 0 → Empty 0 t → Created Fit Made f s t
  first : s ≡ 1 → Empty 1 t → Created Fit Made f s t
  later : Next Fit Made f s t → Created Fit Made f s t

-- At most one token to a round.
abbrev pub Single : {E : Type 0} → Relation E → Type 0
Single {E} Made = (s : ℕ) (t t' : Token E) → Made s t → Made s t' → t ≡ t'

-- A lawful history: at most one token to a round, each made in one of these ways.
pub record Lawful {E : Type 0} (Fit : Rule E) (Made : Relation E) (f : ℕ) : Type 0 where
  pub single : Single Made
  pub by_rule : (s : ℕ) (t : Token E) → Made s t → Created Fit Made f s t
