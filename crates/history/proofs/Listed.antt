-- Histories that are written out: their members, their stamps, and tokens made from a parent at a place of the list.
use Rattle.std.proofs.Common.{◌≡◌, ℕ, zero, suc, ◌+◌, ◌<◌, ◌≤◌, Bool, true, false, not, ◌&&◌, eqb, ◌≢◌, ◌⊎◌, List, [], ◌∷◌, map, sym, refl, ap, ◌∙◌, subst, inl, inr, arith, slice_get, Some}
use Rattle.std.specs.List.{Contains, AllByRecursion}
use Rattle.std.proofs.lemmas.List.Elements.{All-from_recursion, All-contains, Contains-append_right}
use Rattle.std.proofs.lemmas.Option.{slice_get_within, get_or_from_slice_get}
use Rattle.std.proofs.lemmas.Bool.{or_parts, and_parts, not-true, eqb-false}
use Rattle.frames.specs.Contents.{has}
use Rattle.history.specs.Tokens.{Token, Rule, Keep, Step, Created, Single}
use Rattle.history.specs.Tokens.Created.{later}
use Rattle.history.specs.Histories.{History, In, Free}

-- what stands at a place is in the list
pub at_place : {X : Type 0} (xs : List X) (k : ℕ) (x : X) → slice_get xs k ≡ Some x → Contains xs x
at_place xs k x e = (k, slice_get_within xs k x e, get_or_from_slice_get xs k x x e)

-- what holds of each element holds of each that is in the list
pub each_in : {X : Type 0} (P : X → Type 0) (xs : List X) → AllByRecursion P xs → (x : X) → Contains xs x → P x
each_in P xs a x m = All-contains P xs x (All-from_recursion P xs a) m

-- the newest token is in the history, and so are the older ones
pub newest : {E : Type 0} (H : History E) (s : ℕ) (t : Token E) → In ((s, t) ∷ H) s t
newest H s t = (0, omega arith, refl)

pub older : {E : Type 0} (H : History E) (s x : ℕ) (t w : Token E) → In H x w → In ((s, t) ∷ H) x w
older H s x t w m = Contains-append_right ((s, t) ∷ []) H (x, w) m

-- and there are no others
pub newest_or : {E : Type 0} (H : History E) (s x : ℕ) (t w : Token E) → In ((s, t) ∷ H) x w → ((x ≡ s) × (w ≡ t)) ⊎ In H x w
newest_or {E = E} H s x t w (zero, l, e) = inl (ap (λ (z : ℕ × Token E). z.0) (sym e), ap (λ (z : ℕ × Token E). z.1) (sym e))
newest_or H s x t w (suc k, l, e) = inr (k, omega arith, e)

pub none_in_nil : {E : Type 0} (s : ℕ) (t : Token E) → In [] s t → ⊥
none_in_nil s t m = omega (arith, m.1)

-- the stamps of a list, the newest first
abbrev pub stamps : {E : Type 0} → History E → List ℕ
stamps {E} H = map (λ (x : ℕ × Token E). x.0) H

-- a stamp that is none of these is free
pub free_of : {E : Type 0} (s : ℕ) (H : History E) → has s (stamps H) ≡ false → Free H s
free_of s [] h t m = none_in_nil s t m
free_of s ((x, w) ∷ H) h t m =
    let apart = or_parts (eqb s x) (has s (stamps H)) h in
    elim (newest_or H x s w t m) [ inl e ↦ eqb-false s x apart.0 e.0 | inr a ↦ free_of s H apart.1 t a ]

-- one more token at a free stamp leaves at most one to a round
pub single_more : {E : Type 0} (H : History E) (s : ℕ) (t : Token E) → Single (In H) → Free H s → Single (In ((s, t) ∷ H))
single_more H s t single free x w w' m m' =
    elim (newest_or H s x t w m) [
      | inl a ↦ elim (newest_or H s x t w' m') [
        | inl b ↦ a.1 ∙ sym b.1
        | inr b ↦ absurd (free w' (subst (λ y. In H y w') a.0 b))
      ]
      | inr a ↦ elim (newest_or H s x t w' m') [
        | inl b ↦ absurd (free w (subst (λ y. In H y w) b.0 a))
        | inr b ↦ single x w w' a b
      ]
    ]

-- whether no stamp is there twice
abbrev pub apart : {E : Type 0} → History E → Bool
apart [] = true
apart (x ∷ H) = not (has x.0 (stamps H)) && apart H

-- then there is at most one token to a round
pub single_of : {E : Type 0} (H : History E) → apart H ≡ true → Single (In H)
single_of [] h = λ s t t' m m'. absurd (none_in_nil s t m)
single_of ((x, w) ∷ H) h =
    let parts = and_parts (not (has x (stamps H))) (apart H) h in
    single_more H x w (single_of H parts.1) (free_of x H (not-true (has x (stamps H)) parts.0))

-- a token made from the parent at a place
pub from_place : {E : Type 0} (Fit : Rule E) (H : History E) (f s p place : ℕ) (t u : Token E) → slice_get H place ≡ Some (p, u) → (p < s) × (s ≤ p + f + 1) → Step Fit (In H) f s p t u → Created Fit (In H) f s t
from_place Fit H f s p place t u q near step = later (record { at = p; parent = u; made = at_place H place (p, u) q; before = near.0; near = near.1; step = step })

-- the parent's proposal is kept, with one vote more or over a gap
pub keep_next : {E : Type 0} (f p : ℕ) (u : Token E) → u.proposal ≢ [] → u.votes + 1 ≤ f → Keep f (p + 1) p (record { votes = u.votes + 1; proposal = u.proposal; decisions = u.decisions }) u
keep_next f p u h few = record { decided = refl; proposed = h; same = refl; joined = λ _. refl; skipped = λ ne. absurd (ne refl); short = few }

pub keep_over : {E : Type 0} (f s p : ℕ) (u : Token E) → u.proposal ≢ [] → s ≢ p + 1 → 1 ≤ f → Keep f s p (record { votes = 1; proposal = u.proposal; decisions = u.decisions }) u
keep_over f s p u h ne l = record { decided = refl; proposed = h; same = refl; joined = λ e. absurd (ne e); skipped = λ _. refl; short = l }
