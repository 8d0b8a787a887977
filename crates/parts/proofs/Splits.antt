-- One decision after another.
use Rattle.std.proofs.Common.{◌≡◌, ℕ, zero, suc, ◌+◌, ◌-◌, ◌*◌, ◌<◌, ◌≤◌, Bool, true, false, cond, leb, List, [], ◌∷◌, ◌++◌, length, Some, None, Option, sym, refl, ap, ◌∙◌, arith, length-append, length-drop}
use Rattle.std.specs.List.{flat_map, AllByRecursion, slice_get}
use Rattle.std.specs.Option.{option_map, unwrap_or}
use Rattle.std.proofs.lemmas.List.{drop_at, take_at}
use Rattle.std.proofs.lemmas.Bool.{cond-true, le-leb}
use Rattle.frames.specs.declared.Entry.{Entry}
use Rattle.frames.specs.Contents.{Whole, entry_bytes, decision_bytes}
use Rattle.parts.specs.Going.{split_as, decision_at, also, entries_of, decisions_within, decisions_of}
use Rattle.frames.proofs.Written.{joined_length}
use Rattle.parts.proofs.At.{entries_held}

pub split_of : (d : List Entry) (ds : List (List Entry)) → AllByRecursion Whole d → split_as (flat_map decision_bytes (d ∷ ds)) ≡ Some (flat_map entry_bytes d, flat_map decision_bytes ds)
split_of d ds w =
    let n = joined_length d w in
    let all = length-append (flat_map entry_bytes d) (flat_map decision_bytes ds) in
    let t = le-leb (9 * length d) (length (flat_map entry_bytes d ++ flat_map decision_bytes ds)) (omega arith) in
    let first = take_at (flat_map entry_bytes d) (flat_map decision_bytes ds) (9 * length d) n in
    let rest = drop_at (flat_map entry_bytes d) (flat_map decision_bytes ds) (9 * length d) n in
    cond-true _ _ _ t ∙ (λ i. Some (first i, rest i))

pub decision_of : (ds : List (List Entry)) (k : ℕ) → AllByRecursion (AllByRecursion Whole) ds → decision_at k (flat_map decision_bytes ds) ≡ option_map (flat_map entry_bytes) (slice_get ds k)
decision_of [] zero w = refl
decision_of [] (suc k) w = refl
decision_of (d ∷ ds) zero w = ap (option_map (λ s. s.0)) (split_of d ds w.0)
decision_of (d ∷ ds) (suc k) w = ap (λ z. also z (λ s. decision_at k s.1)) (split_of d ds w.0) ∙ decision_of ds k w.1

-- one more of those to pass over
pub past_one : (k j : ℕ) (bs : List ℕ) (s : List ℕ × List ℕ) (w : Option (List ℕ)) → j < k → split_as bs ≡ Some s → decision_at (k - j) bs ≡ w → decision_at (k - (j + 1)) s.1 ≡ w
past_one k j bs s w h q e =
    let n : k - j ≡ suc (k - (j + 1)) = omega arith in
    sym (ap (λ z. also z (λ s. decision_at (k - (j + 1)) s.1)) q) ∙ ap (λ z. decision_at z bs) (sym n) ∙ e

-- Each decision by its entries

kept : {A : Type 0} (b : Bool) (x y : A) → cond b (Some x) None ≡ Some y → x ≡ y
kept true x y q = cc
kept false x y q = let z : ◌≡◌ {A = ℕ} 0 1 = cc in absurd (omega arith)

shorter : (bs : List ℕ) (s : List ℕ × List ℕ) → split_as bs ≡ Some s → length s.1 < length bs
shorter [] s q = let z : ◌≡◌ {A = ℕ} 0 1 = cc in absurd (omega arith)
shorter (c ∷ bs) s q = let rest = ap (λ z. length z.1) (kept (leb (9 * c) (length bs)) _ s q) in omega (arith, length-drop (9 * c) bs)

-- what follows the first decision decides
rest_same : (f g : List ℕ → List (List Entry)) (bs : List ℕ) → ((r : List ℕ) → length r < length bs → f r ≡ g r) →
    unwrap_or (option_map (λ s. entries_of s.0 ∷ f s.1) (split_as bs)) [] ≡ unwrap_or (option_map (λ s. entries_of s.0 ∷ g s.1) (split_as bs)) []
rest_same f g bs same = go (split_as bs) refl
  where
    go : (o : Option (List ℕ × List ℕ)) → split_as bs ≡ o → unwrap_or (option_map (λ s. entries_of s.0 ∷ f s.1) o) [] ≡ unwrap_or (option_map (λ s. entries_of s.0 ∷ g s.1) o) []
    go None q = refl
    go (Some s) q = ap (λ z. entries_of s.0 ∷ z) (same s.1 (shorter bs s q))

-- none is left out where as many decisions as bytes are allowed
within : (j k : ℕ) (bs : List ℕ) → length bs ≤ j → length bs ≤ k → decisions_within j bs ≡ decisions_within k bs
within zero zero bs h g = refl
within zero (suc k) [] h g = refl
within zero (suc k) (c ∷ bs) h g = absurd (omega arith)
within (suc j) zero [] h g = refl
within (suc j) zero (c ∷ bs) h g = absurd (omega arith)
within (suc j) (suc k) bs h g = rest_same (decisions_within j) (decisions_within k) bs (λ r l. within j k r (omega arith) (omega arith))

pub decisions_more : (bs : List ℕ) (s : List ℕ × List ℕ) → split_as bs ≡ Some s → decisions_of bs ≡ entries_of s.0 ∷ decisions_of s.1
decisions_more [] s q = let z : ◌≡◌ {A = ℕ} 0 1 = cc in absurd (omega arith)
decisions_more (c ∷ bs) s q =
    let less = shorter (c ∷ bs) s q in
    ap (λ z. unwrap_or (option_map (λ s. entries_of s.0 ∷ decisions_within (length bs) s.1) z) []) q
    ∙ ap (λ z. entries_of s.0 ∷ z) (within (length bs) (length s.1) s.1 (omega arith) (omega arith))

pub decisions_end : (bs : List ℕ) → split_as bs ≡ None → decisions_of bs ≡ []
decisions_end [] q = refl
decisions_end (c ∷ bs) q = ap (λ z. unwrap_or (option_map (λ s. entries_of s.0 ∷ decisions_within (length bs) s.1) z) []) q

pub decisions_held : (bs : List ℕ) (ds : List (List Entry)) → AllByRecursion (AllByRecursion Whole) ds → bs ≡ flat_map decision_bytes ds → decisions_of bs ≡ ds
decisions_held bs ds w q = ap decisions_of q ∙ held ds w
  where
    held : (ds : List (List Entry)) → AllByRecursion (AllByRecursion Whole) ds → decisions_of (flat_map decision_bytes ds) ≡ ds
    held [] w = refl
    held (d ∷ ds) w =
        let entries = entries_held (flat_map entry_bytes d) d w.0 refl in
        let rest = held ds w.1 in
        decisions_more (flat_map decision_bytes (d ∷ ds)) (flat_map entry_bytes d, flat_map decision_bytes ds) (split_of d ds w.0) ∙ (λ i. entries i ∷ rest i)

rest_few : (f : List ℕ → List (List Entry)) (k : ℕ) (o : Option (List ℕ × List ℕ)) → ((r : List ℕ) → length (f r) ≤ k) → length (unwrap_or (option_map (λ s. entries_of s.0 ∷ f s.1) o) []) ≤ k + 1
rest_few f k None few = omega arith
rest_few f k (Some s) few = let rest = few s.1 in omega arith

few_within : (k : ℕ) (bs : List ℕ) → length (decisions_within k bs) ≤ k
few_within zero bs = omega arith
few_within (suc k) bs = let rest = rest_few (decisions_within k) k (split_as bs) (few_within k) in omega arith

-- there are no more decisions than bytes
pub length-decisions : (bs : List ℕ) → length (decisions_of bs) ≤ length bs
length-decisions bs = few_within (length bs) bs
