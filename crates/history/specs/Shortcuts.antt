-- What each rule is for: histories in which one token was made by a shortcut, all others by the rules, or in which one round has
-- two tokens; and what comes of it.
-- Entries are numbers here, each its own id.
use Rattle.std.specs.Prelude.{◌≡◌, ℕ, ◌+◌, ◌-◌, ◌<◌, ◌≤◌, ◌≢◌, [], ◌∷◌, length}
use Rattle.frames.specs.Contents.{Once}
use Rattle.history.specs.Tokens.{Token, Relation, Rule, Any, Step, Created, Single}
use Rattle.history.specs.Histories.{History, In, begun, Agree, Clear, ids_in}

-- The history is lawful but for the token t of the stamp s. That one is made from its parent u of the stamp p, which is at most
-- `reach` rounds back, in the way `Short s p t u` in place of the four ways.
pub record LawfulBut (Fit : Rule ℕ) (f reach : ℕ) (Short : (s p : ℕ) (t u : Token ℕ) → Type 0) (H : History ℕ) : Type 0 where
  pub single : Single (In H)
  pub s : ℕ
  pub t : Token ℕ
  pub made : In H s t
  pub p : ℕ
  pub u : Token ℕ
  pub parent_made : In H p u
  pub before : p < s
  pub near : s ≤ p + reach
  pub short : Short s p t u
  pub others : (x : ℕ) (w : Token ℕ) → In H x w → x ≢ s → Created Fit (In H) f x w

-- The history has two tokens that do not agree.
pub record Split (H : History ℕ) : Type 0 where
  pub s : ℕ
  pub s' : ℕ
  pub t : Token ℕ
  pub t' : Token ℕ
  pub made : In H s t
  pub made' : In H s' t'
  pub apart : Agree t.decisions t'.decisions → ⊥

-- The history has a token with an id twice.
pub record Repeat (H : History ℕ) : Type 0 where
  pub s : ℕ
  pub t : Token ℕ
  pub made : In H s t
  pub twice : Once [] (ids_in (λ i. i) t) → ⊥

-- Votes are kept over a gap: the token is made as if its parent were of the round just before.
abbrev pub GapOverlooked : Relation ℕ → (f s : ℕ) (t u : Token ℕ) → Type 0
GapOverlooked Made f s t u = Step Any Made f s (s - 1) t u

-- A vote too few is taken for enough: the token is made as if f were one less.
abbrev pub VoteSaved : Relation ℕ → (f s p : ℕ) (t u : Token ℕ) → Type 0
VoteSaved Made f s p t u = Step Any Made (f - 1) s p t u

-- The parent's proposal is dropped for a new one though the box's log is no longer than the parent's decisions.
pub record Dropped (t u : Token ℕ) : Type 0 where
  pub decided : t.decisions ≡ u.decisions
  pub one_vote : t.votes ≡ 1

-- The parent's proposal is kept beside the box's longer log.
pub record Kept (Made : Relation ℕ) (s : ℕ) (t u : Token ℕ) : Type 0 where
  pub from : ℕ
  pub other : Token ℕ
  pub earlier : from < s
  pub made : Made from other
  pub longer : length u.decisions < length other.decisions
  pub decided : t.decisions ≡ other.decisions
  pub same : t.proposal ≡ u.proposal
  pub one_vote : t.votes ≡ 1

-- one entry is proposed with so many votes, and nothing is decided
abbrev pub proposed : (votes entry : ℕ) → Token ℕ
proposed votes entry = record { votes = votes; proposal = entry ∷ []; decisions = [] }

-- one entry is decided, and nothing is proposed
abbrev pub decided : (entry : ℕ) → Token ℕ
decided entry = record { votes = 1; proposal = []; decisions = (entry ∷ []) ∷ [] }

-- 7 is decided, and proposed beside that
abbrev pub beside : Token ℕ
beside = record { votes = 1; proposal = 7 ∷ []; decisions = (7 ∷ []) ∷ [] }

-- 7 is decided twice
abbrev pub again : Token ℕ
again = record { votes = 1; proposal = []; decisions = (7 ∷ []) ∷ (7 ∷ []) ∷ [] }

-- f = 1: stamp 4 decides 7 with the vote of stamp 2 over the gap at stamp 3, which proposes 8
abbrev pub gap_history : History ℕ
gap_history = (6, decided 8) ∷ (5, proposed 1 8) ∷ (4, decided 7) ∷ (3, proposed 1 8) ∷ (2, proposed 1 7) ∷ begun

-- f = 2: stamp 3 decides 7 with two votes, and stamp 4, from the parent of stamp 1, has not heard of it
abbrev pub vote_history : History ℕ
vote_history = (6, decided 8) ∷ (5, proposed 2 8) ∷ (4, proposed 1 8) ∷ (3, decided 7) ∷ (2, proposed 1 7) ∷ begun

-- f = 1: stamp 3 decides 7, and stamp 4 proposes 8, either from the parent of stamp 1, three rounds back, or from that of stamp 2,
-- whose proposal it drops
abbrev pub blind_history : History ℕ
blind_history = (5, decided 8) ∷ (4, proposed 1 8) ∷ (3, decided 7) ∷ (2, proposed 1 7) ∷ begun

-- f = 1: there are two tokens of stamp 2; stamp 3 decides the proposal of one, and stamp 5 that of the other
abbrev pub twice_history : History ℕ
twice_history = (5, decided 8) ∷ (4, proposed 1 8) ∷ (3, decided 7) ∷ (2, proposed 1 8) ∷ (2, proposed 1 7) ∷ begun

-- f = 1: stamp 6 has the log of stamp 3 beside the proposal of stamp 4, and stamp 7 decides 7 again
abbrev pub kept_history : History ℕ
kept_history = (7, again) ∷ (6, beside) ∷ (3, decided 7) ∷ (4, proposed 1 7) ∷ (2, proposed 1 7) ∷ begun

-- Each shortcut, once taken, splits the array or decides an id twice.
pub record ShortcutsFail : Type 0 where
  pub gap : LawfulBut Any 1 2 (λ s p. GapOverlooked (In gap_history) 1 s) gap_history × Split gap_history
  pub vote : LawfulBut Any 2 3 (VoteSaved (In vote_history) 2) vote_history × Split vote_history
  pub far : LawfulBut Any 1 3 (Step Any (In blind_history) 1) blind_history × Split blind_history
  pub dropped : LawfulBut Any 1 2 (λ s p. Dropped) blind_history × Split blind_history
  pub twice : ((s : ℕ) (t : Token ℕ) → In twice_history s t → Created Any (In twice_history) 1 s t) × Split twice_history
  pub kept : LawfulBut (Clear (λ i. i)) 1 2 (λ s p. Kept (In kept_history) s) kept_history × Repeat kept_history
