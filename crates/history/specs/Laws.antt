-- What holds of every lawful history.
use Rattle.std.specs.Prelude.{ℕ, List, ◌∷◌, Option}
use Rattle.history.specs.Tokens.{Token, Relation, Rule, Any, Created, Lawful}
use Rattle.history.specs.Histories.{At, History, In, Free, begun, Agreeing, Unrepeated, Clear, Uninvented, From}

-- The claim holds of every lawful history, be it a map or a list.
pub record Always {E : Type 0} (Fit : Rule E) (Claim : Relation E → Type 0) : Type 0 where
  pub of_maps : (f : ℕ) (T : ℕ → Option (Token E)) → Lawful Fit (At T) f → Claim (At T)
  pub of_lists : (f : ℕ) (H : History E) → Lawful Fit (In H) f → Claim (In H)

-- Any two tokens agree, whatever boxes put forward.
abbrev pub HistoriesAgree : Type 0 → Type 0
HistoriesAgree E = Always {E = E} Any Agreeing

-- Where new proposals are clear, no token has an id twice.
abbrev pub NoIdTwice : Type 0 → Type 0
NoIdTwice E = (id : E → ℕ) → Always (Clear id) (Unrepeated id)

-- Where boxes put forward only what was sent, nothing else is proposed or decided.
abbrev pub NothingInvented : Type 0 → Type 0
NothingInvented E = (sent : List E) → Always (From sent) (Uninvented sent)

-- The start is a lawful history. A lawful one stays so as a token is added that comes about from it, at a stamp that has none;
-- there may be tokens of higher stamps already.
pub record Grows {E : Type 0} (Fit : Rule E) : Type 0 where
  pub start : (f : ℕ) → Lawful Fit (In begun) f
  pub more : (f : ℕ) (H : History E) (s : ℕ) (t : Token E) → Lawful Fit (In H) f → Created Fit (In H) f s t → Free H s → Lawful Fit (In ((s, t) ∷ H)) f

-- Histories grow, under each rule for new proposals.
pub record HistoriesGrow (E : Type 0) : Type 0 where
  pub any : Grows {E = E} Any
  pub clear : (id : E → ℕ) → Grows (Clear id)
  pub from : (sent : List E) → Grows (From sent)
