-- The ids of entries that were met, and looking for one.
use Rattle.std.proofs.Common.{◌≡◌, ℕ, ◌+◌, ◌<◌, Bool, ◌||◌, eqb, List, [], ◌∷◌, ◌++◌, length, get_or, take, refl, sym, ap, ◌∙◌, arith}
use Rattle.std.specs.List.{list_any}
use Rattle.std.proofs.lemmas.List.{map_more}
use Rattle.frames.specs.declared.Entry.{Entry}
use Rattle.frames.specs.Contents.{has, ids_of, Marks}

has_push : (i : ℕ) (xs : List ℕ) (y : ℕ) → has i (xs ++ y ∷ []) ≡ has i (y ∷ xs)
has_push i [] y = refl
has_push i (x ∷ xs) y = let rest = has_push i xs y in grind arith

-- flags that mark one id more, at the end
pub marks_next : (flags : List Bool) (es : List Entry) (k : ℕ) (d : Entry) → k < length es →
    Marks flags ((get_or es k d).id ∷ ids_of (take k es)) → Marks flags (ids_of (take (k + 1) es))
marks_next flags es k d h marks i small =
    marks i small ∙ sym (has_push i (ids_of (take k es)) (get_or es k d).id) ∙ ap (has i) (sym (map_more (λ (x : Entry). x.id) es k d h))

-- looking for an id among entries
pub any_has : (id : ℕ) (es : List Entry) → list_any (λ (e : Entry). eqb id e.id) es ≡ has id (ids_of es)
any_has id [] = refl
any_has id (x ∷ xs) = ap (λ b. eqb id x.id || b) (any_has id xs)
