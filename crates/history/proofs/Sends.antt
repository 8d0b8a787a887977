-- What holds of every entry put forward holds of every entry proposed or decided.
use Rattle.std.proofs.Common.{ℕ}
use Rattle.std.specs.List.{AllByRecursion}
use Rattle.std.proofs.ByRecursion.{All-append}
use Rattle.history.specs.Tokens.{Token, Relation, Empty, Step, Next, Created, Lawful}
use Rattle.history.specs.Tokens.Step.{old, keep, fresh, decide}
use Rattle.history.specs.Tokens.Created.{dummy, first, later}
use Rattle.history.specs.Histories.{flat}
use Rattle.history.proofs.Rounds.{Earlier, by_rounds}
use Rattle.history.proofs.Prefix.{flat_snoc}

module _ {E : Type 0} (P : E → Type 0) where
  -- P holds of all entries of the token
  abbrev pub Throughout : Token E → Type 0
  Throughout t = AllByRecursion P t.proposal × AllByRecursion P (flat t.decisions)

  module _ (Made : Relation E) (f : ℕ) (law : Lawful (λ ds new. AllByRecursion P new) Made f) where
    on : (s : ℕ) (t : Token E) → Made s t → Created (λ ds new. AllByRecursion P new) Made f s t → Earlier law (λ _. Throughout) s → Throughout t
    on s t m by ih = go by
      where
        none : {v : ℕ} → Empty v t → Throughout t
        none r = (rw r.unproposed tt, rw r.undecided tt)

        back : (x : Next (λ ds new. AllByRecursion P new) Made f s t) → Throughout x.parent → Step (λ ds new. AllByRecursion P new) Made f s x.at t x.parent → Throughout t
        back x u (old r) = (r.fits, rw r.decided (ih r.from r.other r.earlier r.made).1)
        back x u (keep r) = (rw r.same u.0, rw r.decided u.1)
        back x u (fresh r) = (r.fits, rw r.decided u.1)
        back x u (decide r) = (r.fits, rw (r.decided, flat_snoc) (All-append P (flat x.parent.decisions) x.parent.proposal u.1 u.0))

        go : Created (λ ds new. AllByRecursion P new) Made f s t → Throughout t
        go (dummy e r) = none r
        go (first e r) = none r
        go (later x) = back x (ih x.at x.parent x.before x.made) x.step

    pub throughout : (s : ℕ) (t : Token E) → Made s t → Throughout t
    throughout = by_rounds law (λ _. Throughout) on
