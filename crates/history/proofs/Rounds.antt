-- Arguments go by the rounds: what a token is made from has smaller stamps.
use Rattle.std.proofs.Common.{ℕ, zero, suc, ◌<◌, List, arith}
use Rattle.history.specs.Tokens.{Token, Rule, Relation, Step, Created, Lawful}
use Rattle.history.specs.Tokens.Step.{old, keep, fresh, decide}
use Rattle.history.specs.Tokens.Created.{dummy, first, later}

-- what every token hands on from those of smaller stamps holds of all
module _ {E : Type 0} {Fit : Rule E} {Made : Relation E} {f : ℕ} (law : Lawful Fit Made f) (P : ℕ → Token E → Type 0) where
  -- P holds of every token of a smaller stamp
  abbrev pub Earlier : ℕ → Type 0
  Earlier s = (p : ℕ) (u : Token E) → p < s → Made p u → P p u

  module _ (hand_on : (s : ℕ) (t : Token E) → Made s t → Created Fit Made f s t → Earlier s → P s t) where
    below : (n s : ℕ) (t : Token E) → s < n → Made s t → P s t
    below zero s t h m = absurd (omega arith)
    below (suc n) s t h m = hand_on s t m (law.by_rule s t m) (λ p u hp mu. below n p u (omega arith) mu)

    pub by_rounds : (s : ℕ) (t : Token E) → Made s t → P s t
    by_rounds s t m = below (suc s) s t (omega arith) m

-- a token may come about in a larger history, and by a weaker rule, as it may in a smaller one by a stronger
module _ {E : Type 0} (Fit Fit' : Rule E) (Made More : Relation E) (weaker : (ds : List (List E)) (new : List E) → Fit ds new → Fit' ds new) (up : (s : ℕ) (t : Token E) → Made s t → More s t) (f : ℕ) where
  step_up : {s p : ℕ} {t u : Token E} → Step Fit Made f s p t u → Step Fit' More f s p t u
  step_up {t = t} (old r) = old (record {
    from = r.from;
    other = r.other;
    earlier = r.earlier;
    made = up r.from r.other r.made;
    longer = r.longer;
    decided = r.decided;
    one_vote = r.one_vote;
    fits = weaker t.decisions t.proposal r.fits;
  })
  step_up (keep r) = keep r
  step_up {t = t} (fresh r) = fresh (record { unproposed = r.unproposed; decided = r.decided; one_vote = r.one_vote; fits = weaker t.decisions t.proposal r.fits })
  step_up {t = t} (decide r) = decide (record {
    next = r.next;
    full = r.full;
    proposed = r.proposed;
    decided = r.decided;
    one_vote = r.one_vote;
    fits = weaker t.decisions t.proposal r.fits;
  })

  pub created_up : {s : ℕ} {t : Token E} → Created Fit Made f s t → Created Fit' More f s t
  created_up (dummy e r) = dummy e r
  created_up (first e r) = first e r
  created_up (later x) = later (record {
    at = x.at;
    parent = x.parent;
    made = up x.at x.parent x.made;
    before = x.before;
    near = x.near;
    step = step_up x.step;
  })

-- a history that is lawful by a rule is so by a weaker one
pub lawful_weaker : {E : Type 0} (Fit Fit' : Rule E) (Made : Relation E) (f : ℕ) → ((ds : List (List E)) (new : List E) → Fit ds new → Fit' ds new) → Lawful Fit Made f → Lawful Fit' Made f
lawful_weaker Fit Fit' Made f weaker law = record {
  single = law.single;
  by_rule = λ s t m. created_up Fit Fit' Made Made weaker (λ x w h. h) f (law.by_rule s t m);
}
