-- Histories kept as maps and as lists, and what is claimed of them.
use Rattle.std.specs.Prelude.{◌≡◌, ℕ, ◌⊎◌, List, [], ◌∷◌, ◌++◌, map, Some, Option}
use Rattle.std.specs.List.{Contains, ContainsAt as Has, flat_map, AllByRecursion}
use Rattle.frames.specs.Contents.{Once}
use Rattle.history.specs.Tokens.{Token, Relation, Rule}

-- A history as a map: the token of each stamp, if it has one.
abbrev pub At : {E : Type 0} → (ℕ → Option (Token E)) → Relation E
At T s t = T s ≡ Some t

-- A history as a list of stamps and tokens, in the order in which they were made, the newest first.
abbrev pub History : Type 0 → Type 0
History E = List (ℕ × Token E)

-- The tokens that are in the list.
abbrev pub In : {E : Type 0} → History E → Relation E
In H s t = Contains H (s, t)

-- No token of this stamp is in the list.
abbrev pub Free : {E : Type 0} → History E → ℕ → Type 0
Free {E} H s = (t : Token E) → In H s t → ⊥

-- The token that has so many votes and nothing else.
abbrev pub empty : {E : Type 0} → ℕ → Token E
empty votes = record { votes = votes; proposal = []; decisions = [] }

-- The history at the start: the dummies' token and the token of round 0.
abbrev pub begun : {E : Type 0} → History E
begun = (1, empty 1) ∷ (0, empty 0) ∷ []

-- The first list begins the second.
abbrev pub Begins : {A : Type 0} → List A → List A → Type 0
Begins {A} xs ys = (rest : List A) × (ys ≡ xs ++ rest)

-- One of the two lists begins the other.
abbrev pub Agree : {A : Type 0} → List A → List A → Type 0
Agree xs ys = Begins xs ys ⊎ Begins ys xs

-- Of any two tokens, the decisions of one begin those of the other.
abbrev pub Agreeing : {E : Type 0} → Relation E → Type 0
Agreeing {E} Made = (s s' : ℕ) (t t' : Token E) → Made s t → Made s' t' → Agree t.decisions t'.decisions

-- The ids in a token, one for each entry of its proposal and of its decisions.
abbrev pub ids_in : {E : Type 0} → (E → ℕ) → Token E → List ℕ
ids_in id t = map id t.proposal ++ flat_map (map id) t.decisions

-- No token has an id twice: none is decided twice, and none is proposed beside a decision that has it.
abbrev pub Unrepeated : {E : Type 0} → (E → ℕ) → Relation E → Type 0
Unrepeated {E} id Made = (s : ℕ) (t : Token E) → Made s t → Once [] (ids_in id t)

-- A new proposal has no id twice, and none of the decisions.
abbrev pub Clear : {E : Type 0} → (E → ℕ) → Rule E
Clear id ds new = Once (flat_map (map id) ds) (map id new)

-- The entries of all decisions in a row.
abbrev pub flat : {A : Type 0} → List (List A) → List A
flat ds = flat_map (λ d. d) ds

-- All entries of a token are among those sent.
abbrev pub Sent : {E : Type 0} → List E → Token E → Type 0
Sent sent t = AllByRecursion (Has sent) t.proposal × AllByRecursion (Has sent) (flat t.decisions)

-- Nothing is invented: all entries of all tokens are among those sent.
abbrev pub Uninvented : {E : Type 0} → List E → Relation E → Type 0
Uninvented {E} sent Made = (s : ℕ) (t : Token E) → Made s t → Sent sent t

-- A new proposal has only entries that were sent.
abbrev pub From : {E : Type 0} → List E → Rule E
From sent ds new = AllByRecursion (Has sent) new
