-- Of any two tokens of a lawful history, the decisions of one begin those of the other.
use Rattle.std.proofs.Common.{◌≡◌, ℕ, ◌+◌, ◌<◌, ◌≤◌, ◌≢◌, List, [], length, sym, ap, ◌∙◌, subst, inl, inr, arith, length-append, slice_get, Some}
use Rattle.std.proofs.lemmas.Bool.{cases_eq, cases_lt}
use Rattle.history.specs.Tokens.{Token, Rule, Relation, Step, Next, Created, Lawful}
use Rattle.history.specs.Tokens.Step.{old, keep, fresh, decide}
use Rattle.history.specs.Tokens.Created.{dummy, first, later}
use Rattle.history.specs.Histories.{Agreeing}
use Rattle.history.proofs.Rounds.{Earlier, by_rounds}
use Rattle.history.proofs.Prefix.{at_snoc, begins}

-- two tokens that have the same decisions and the same proposal
pub record Alike {E : Type 0} (t u : Token E) : Type 0 where
  pub decided : t.decisions ≡ u.decisions
  pub proposed : t.proposal ≡ u.proposal

-- where decision k was made, and was v: the parent with all f votes, and the token that decides
pub record Origin {E : Type 0} (Made : Relation E) (f k : ℕ) (v : List E) : Type 0 where
  pub at : ℕ
  pub parent : Token E
  pub child : Token E
  pub parent_made : Made at parent
  pub child_made : Made (at + 1) child
  pub full : parent.votes ≡ f
  pub proposes : parent.proposal ≡ v
  pub proposed : v ≢ []
  pub count : length parent.decisions ≡ k
  pub more : k < length child.decisions

-- what holds of each token from the first vote for decision k on: it has the decisions before, and if it has no more, it proposes v
pub record Above {E : Type 0} (k : ℕ) (v : List E) (t : Token E) : Type 0 where
  pub enough : k ≤ length t.decisions
  pub locked : length t.decisions ≡ k → t.proposal ≡ v

module _ {E : Type 0} (Fit : Rule E) (Made : Relation E) (f : ℕ) (law : Lawful Fit Made f) where
  one : {s s' : ℕ} {t t' : Token E} → s ≡ s' → Made s t → Made s' t' → t ≡ t'
  one {s} {s'} {t} {t'} e m m' = law.single s' t t' (subst (λ x. Made x t) e m) m'

  -- the token t of the stamp s is like each token whose vote it counts
  abbrev Counts : ℕ → Token E → Type 0
  Counts s t = (y : ℕ) (u : Token E) → Made y u → y ≤ s → s < y + t.votes → Alike t u

  counts_on : (s : ℕ) (t : Token E) → Made s t → Created Fit Made f s t → Earlier law Counts s → Counts s t
  counts_on s t m by ih y u mu le lt =
      elim (cases_eq y s) [
        | inl e ↦ let q = one e mu m in record { decided = cc; proposed = cc }
        | inr ne ↦ go ne by
      ]
    where
      back : y ≢ s → (x : Next Fit Made f s t) → Step Fit Made f s x.at t x.parent → Alike t u
      back ne x (old r) = absurd (omega arith)
      back ne x (keep r) =
          let e : s ≡ x.at + 1 = elim (cases_eq s (x.at + 1)) [ inl e ↦ e | inr skip ↦ absurd (omega (arith, r.skipped skip)) ] in
          let a = ih x.at x.parent x.before x.made y u mu (omega arith) (omega (arith, r.joined e)) in
          record { decided = cc; proposed = cc }
      back ne x (fresh r) = absurd (omega arith)
      back ne x (decide r) = absurd (omega arith)

      go : y ≢ s → Created Fit Made f s t → Alike t u
      go ne (dummy e r) = absurd (omega arith)
      go ne (first e r) = absurd (omega arith)
      go ne (later x) = back ne x x.step

  counts : (s : ℕ) (t : Token E) → Made s t → Counts s t
  counts = by_rounds law Counts counts_on

  -- each decision of a token was made somewhere
  abbrev MadeSomewhere : ℕ → Token E → Type 0
  MadeSomewhere s t = (k : ℕ) (v : List E) → slice_get t.decisions k ≡ Some v → Origin Made f k v

  made_on : (s : ℕ) (t : Token E) → Made s t → Created Fit Made f s t → Earlier law MadeSomewhere s → MadeSomewhere s t
  made_on s t m by ih k v e = go by
    where
      none-yet : t.decisions ≡ [] → Origin Made f k v
      none-yet u = cc (rw u at e)

      back : (x : Next Fit Made f s t) → Step Fit Made f s x.at t x.parent → Origin Made f k v
      back x (old r) = ih r.from r.other r.earlier r.made k v (rw r.decided at e)
      back x (keep r) = ih x.at x.parent x.before x.made k v (rw r.decided at e)
      back x (fresh r) = ih x.at x.parent x.before x.made k v (rw r.decided at e)
      back x (decide r) =
          elim (at_snoc x.parent.decisions x.parent.proposal k v (rw r.decided at e)) [
            | inl before ↦ ih x.at x.parent x.before x.made k v before
            | inr here ↦ record {
              at = x.at;
              parent = x.parent;
              child = t;
              parent_made = x.made;
              child_made = subst (λ y. Made y t) r.next m;
              full = r.full;
              proposes = here.1;
              proposed = λ q. r.proposed (here.1 ∙ q);
              count = here.0;
              more = rw r.decided (simp length-append (omega arith));
            }
          ]

      go : Created Fit Made f s t → Origin Made f k v
      go (dummy z r) = none-yet r.undecided
      go (first z r) = none-yet r.undecided
      go (later x) = back x x.step

  origin : (s : ℕ) (t : Token E) → Made s t → MadeSomewhere s t
  origin = by_rounds law MadeSomewhere made_on

  -- from the first vote for a decision on, each token is above it
  module _ (k : ℕ) (v : List E) (o : Origin Made f k v) where
    abbrev Voted : ℕ → Token E → Type 0
    Voted y t = o.at < y + f → Above k v t

    above_on : (y : ℕ) (t : Token E) → Made y t → Created Fit Made f y t → Earlier law Voted y → Voted y t
    above_on y t m by ih voted =
        elim (cases_lt o.at y) [
          | inr le ↦
              let a = counts o.at o.parent o.parent_made y t m (omega arith) (omega arith) in
              record { enough = omega (arith, ap length a.decided); locked = λ _. sym a.proposed ∙ o.proposes }
          | inl lt ↦
              elim (cases_eq (o.at + 1) y) [
                | inl e ↦ let q = one e o.child_made m in let l = ap (λ (w : Token E). length w.decisions) q in more (omega arith)
                | inr ne ↦ go lt ne by
              ]
        ]
      where
        more : k < length t.decisions → Above k v t
        more l = record { enough = omega arith; locked = λ z. absurd (omega arith) }

        back : (x : Next Fit Made f y t) → Above k v x.parent → Step Fit Made f y x.at t x.parent → Above k v t
        back x a (old r) = more (omega (arith, ap length r.decided))
        back x a (keep r) =
            let l = ap length r.decided in
            record { enough = omega arith; locked = λ z. r.same ∙ a.locked (omega arith) }
        back x a (fresh r) =
            more (elim (cases_lt k (length x.parent.decisions)) [
              | inl l ↦ omega (arith, ap length r.decided)
              | inr l ↦ absurd (o.proposed (sym (a.locked (omega arith)) ∙ r.unproposed))
            ])
        back x a (decide r) = more (rw r.decided (simp length-append (omega arith)))

        go : o.at < y → o.at + 1 ≢ y → Created Fit Made f y t → Above k v t
        go lt ne (dummy e r) = absurd (omega arith)
        go lt ne (first e r) = absurd (omega arith)
        go lt ne (later x) = back x (ih x.at x.parent x.before x.made (omega arith)) x.step

    above : (y : ℕ) (t : Token E) → Made y t → Voted y t
    above = by_rounds law Voted above_on

  -- what the second of two origins decides is what the first does
  later_same : (k : ℕ) (v w : List E) (o : Origin Made f k v) (q : Origin Made f k w) → o.at < q.at → v ≡ w
  later_same k v w o q lt =
      let a = above k v o q.at q.parent q.parent_made (omega arith) in
      sym (a.locked q.count) ∙ q.proposes

  same : (k : ℕ) (v w : List E) → Origin Made f k v → Origin Made f k w → v ≡ w
  same k v w o q =
      elim (cases_lt o.at q.at) [
        | inl lt ↦ later_same k v w o q lt
        | inr le ↦
            elim (cases_lt q.at o.at) [
              | inl lt ↦ sym (later_same k w v q o lt)
              | inr ge ↦ let e = one (omega arith) o.parent_made q.parent_made in cc (o.proposes, q.proposes)
            ]
      ]

  pub agree : Agreeing Made
  agree s s' t t' m m' = begins t.decisions t'.decisions (λ k v w e e'. same k v w (origin s t m k v e) (origin s' t' m' k w e'))
