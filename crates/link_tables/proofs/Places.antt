-- Lists, and one item of a list taken out.
use Rattle.std.proofs.Common.{◌≡◌, ℕ, suc, List, [], ◌∷◌, ◌++◌, Some, map, length, take, drop, refl, sym, ap, ap₂, ◌∙◌, add-one}
use Rattle.std.specs.List.{remove, slice_get}
use Rattle.std.proofs.lemmas.Option.{slice_get_within, get_or_from_slice_get}
use Rattle.std.proofs.lemmas.List.{take-map, drop-map, map-append, take-append-drop, drop_more}

pub removed_at : {X : Type 0} (p : List X) (x : X) (q : List X) → remove (p ++ x ∷ q) (length p) ≡ p ++ q
removed_at [] x q = refl
removed_at (y ∷ p) x q = ap (λ l. y ∷ l) (removed_at p x q)

pub map_removed : {X Y : Type 0} (f : X → Y) (xs : List X) (k : ℕ) → map f (remove xs k) ≡ remove (map f xs) k
map_removed f xs k = map-append f (take k xs) (drop (suc k) xs) ∙ sym (ap (λ l. l ++ drop (suc k) (map f xs)) (take-map f k xs) ∙ ap (λ l. map f (take k xs) ++ l) (drop-map f (suc k) xs))

-- what stands before an item, the item, and what stands behind it
pub around_item : {X : Type 0} (xs : List X) (k : ℕ) (x : X) → slice_get xs k ≡ Some x → xs ≡ take k xs ++ (x ∷ drop (suc k) xs)
around_item xs k x found =
    sym (take-append-drop k xs) ∙ ap (λ l. take k xs ++ l) (drop_more xs k x (slice_get_within xs k x found) ∙ ap₂ (λ y n. y ∷ drop n xs) (get_or_from_slice_get xs k x x found) (add-one k))
