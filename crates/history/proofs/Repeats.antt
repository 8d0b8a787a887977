-- Where each new proposal is clear, no token has an id twice.
use Rattle.std.proofs.Common.{◌≡◌, ℕ, ◌+◌, ◌≤◌, List, [], ◌∷◌, ◌++◌, map, sym, refl, ap, ◌∙◌, arith}
use Rattle.std.specs.List.{flat_map}
use Rattle.std.proofs.lemmas.List.{flat_map_more, map-append}
use Rattle.frames.specs.Contents.{Once}
use Rattle.history.specs.Tokens.{Token, Relation, Empty, Step, Next, Created, Lawful}
use Rattle.history.specs.Tokens.Step.{old, keep, fresh, decide}
use Rattle.history.specs.Tokens.Created.{dummy, first, later}
use Rattle.history.specs.Histories.{ids_in, flat, Clear, Unrepeated}
use Rattle.history.proofs.Rounds.{Earlier, by_rounds}
use Rattle.history.proofs.Counts.{count, count_append, once_fewer, fewer_once}

module _ {E : Type 0} (id : E → ℕ) where
  -- how often i is an id of these entries, and of these decisions
  abbrev among : ℕ → List E → ℕ
  among i es = count i (map id es)

  abbrev decided : ℕ → List (List E) → ℕ
  decided i ds = count i (flat_map (map id) ds)

  counted : (i : ℕ) (t : Token E) → count i (ids_in id t) ≡ among i t.proposal + decided i t.decisions
  counted i t = count_append i (map id t.proposal) (flat_map (map id) t.decisions)

  one-more : (i : ℕ) (ds : List (List E)) (new : List E) → decided i (ds ++ new ∷ []) ≡ decided i ds + among i new
  one-more i ds new = ap (count i) (sym (flat_map_more (map id) [] ds new)) ∙ count_append i (flat_map (map id) ds) (map id new)

  -- i stands in the token at most once
  abbrev Most : ℕ → Token E → Type 0
  Most i t = among i t.proposal + decided i t.decisions ≤ 1

  -- a clear proposal beside decisions that have i at most once
  beside : (i : ℕ) (t : Token E) → Clear id t.decisions t.proposal → decided i t.decisions ≤ 1 → Most i t
  beside i t c l = let h = once_fewer (flat_map (map id) t.decisions) (map id t.proposal) c i in let m = h.most in let a = h.apart in grind arith

  module _ (Made : Relation E) (f : ℕ) (law : Lawful (Clear id) Made f) where
    most_on : (i s : ℕ) (t : Token E) → Made s t → Created (Clear id) Made f s t → Earlier law (λ _. Most i) s → Most i t
    most_on i s t m by ih = go by
      where
        none : {v : ℕ} → Empty v t → Most i t
        none r = rw (r.unproposed, r.undecided) (omega arith)

        same : (u : Token E) → t.decisions ≡ u.decisions → Most i u → Clear id t.decisions t.proposal → Most i t
        same u e l c = beside i t c (omega (arith, ap (decided i) e))

        back : (x : Next (Clear id) Made f s t) → Most i x.parent → Step (Clear id) Made f s x.at t x.parent → Most i t
        back x l (old r) = same r.other r.decided (ih r.from r.other r.earlier r.made) r.fits
        back x l (keep r) = omega (arith, ap (decided i) r.decided, ap (among i) r.same)
        back x l (fresh r) = same x.parent r.decided l r.fits
        back x l (decide r) = beside i t r.fits (omega (arith, ap (decided i) r.decided, one-more i x.parent.decisions x.parent.proposal))

        go : Created (Clear id) Made f s t → Most i t
        go (dummy e r) = none r
        go (first e r) = none r
        go (later x) = back x (ih x.at x.parent x.before x.made) x.step

    pub unrepeated : Unrepeated id Made
    unrepeated s t m =
        fewer_once [] (ids_in id t) (λ i. record {
          most = omega (arith, counted i t, by_rounds law (λ _. Most i) (most_on i) s t m);
          apart = λ h. absurd (omega arith);
        })

-- a token that has no id twice has none twice in its decisions
pub decided_once : {E : Type 0} (id : E → ℕ) (t : Token E) → Once [] (ids_in id t) → Once [] (flat_map (map id) t.decisions)
decided_once id t o =
    fewer_once [] (flat_map (map id) t.decisions) (λ i.
    let h = once_fewer [] (ids_in id t) o i in
    record { most = omega (arith, h.most, counted id i t); apart = λ l. absurd (omega arith) })

-- the ids of the decisions, decision by decision, are those of their entries in a row
pub ids_flat : {E : Type 0} (id : E → ℕ) (ds : List (List E)) → flat_map (map id) ds ≡ map id (flat ds)
ids_flat id [] = refl
ids_flat id (d ∷ ds) = rw (ids_flat id ds, ← map-append)
