-- An entry put into its place, and what that keeps.
use Rattle.std.proofs.Common.{◌≡◌, ℕ, ◌+◌, ◌-◌, ◌<◌, true, false, cond, not, ◌||◌, eqb, ltb, List, [], ◌∷◌, ◌++◌, length, get_or, take, drop, set, Some, None, Option, sym, refl, ap, ◌∙◌, ap₂, inl, inr, one-add, arith}
use borrow.Rule.Slice.PartMut.{put_mid}
use Rattle.std.specs.List.{between, insert, position, position_or_len}
use Rattle.std.specs.Option.{unwrap_or}
use Rattle.std.proofs.lemmas.Bool.Decides.{nat_tests}
use Rattle.std.proofs.lemmas.Bool.{cases_lt, le-ltb, lt-ltb, or_parts}
use Rattle.std.proofs.lemmas.List.Sums.{prefix_len-le-length}
use Rattle.std.proofs.lemmas.List.{append-nil, drop_all, drop_more, drop-drop, drop-take, length-drop, length-take-le, set_at, take_rest, take-take}
use Rattle.frames.specs.declared.Entry.{Entry}
use Rattle.frames.specs.Contents.{has, ids_of, Ascend}
use Rattle.lists.specs.Tables.{inserted, AscendsStill}

-- Looking for the place

place : (e : Entry) (es : List Entry) → let n = position_or_len (λ (x : Entry). ltb e.id x.id) es in inserted e es ≡ take n es ++ e ∷ drop n es
place e [] = refl
place e (x ∷ xs) =
    let n = position_or_len (λ (y : Entry). ltb e.id y.id) xs in
    elim (ltb e.id x.id) as (λ b. cond b (e ∷ x ∷ xs) (x ∷ inserted e xs) ≡ take (cond (not b) (1 + n) 0) (x ∷ xs) ++ e ∷ drop (cond (not b) (1 + n) 0) (x ∷ xs)) [
      | true ↦ refl
      | false ↦ rw one-add (ap (λ l. x ∷ l) (place e xs))
    ]

-- the place is that of the first greater id, or the end where there is none
pub place_found : (e : Entry) (es : List Entry) (r : Option ℕ) → r ≡ position (λ (x : Entry). ltb e.id x.id) es →
    inserted e es ≡ take (unwrap_or r (length es)) es ++ e ∷ drop (unwrap_or r (length es)) es
place_found e es r is =
    let n = position_or_len (λ (x : Entry). ltb e.id x.id) es in
    let at : unwrap_or (cond (ltb n (length es)) (Some n) None) (length es) ≡ n =
    elim (cases_lt n (length es)) [
      | inl y ↦ let t = lt-ltb n (length es) y in rw t
      | inr y ↦ let t = le-ltb n (length es) y in let m = prefix_len-le-length (λ (x : Entry). not (ltb e.id x.id)) es in rw t (omega arith)
    ] in
    rw is (rw at (place e es))

-- Moving the later ones up

pub moved_up : {X : Type 0} (xs : List X) (p : ℕ) (e : X) (ys : List X) → p < length xs →
    ys ≡ drop (length (between p (length xs) xs) - 1) (between p (length xs) xs) ++ take (length (between p (length xs) xs) - 1) (between p (length xs) xs) →
    set (put_mid p (length xs - p) xs ys) p e ≡ insert (take (length xs - 1) xs) p e
moved_up {X = X} xs p e ys lt is =
    let n = length xs in
    let z = get_or xs (n - 1) e in
    let rest = drop p (take (n - 1) xs) in
    let part : between p n xs ≡ drop p xs = take_rest xs p in
    let m : length (drop p xs) - 1 ≡ n - 1 - p = omega (arith, length-drop p xs) in
    let reach : p + (n - 1 - p) ≡ n - 1 = omega arith in
    let last : drop (n - 1 - p) (drop p xs) ≡ z ∷ [] =
    drop-drop (n - 1 - p) p xs ∙ ap (λ k. drop k xs) reach ∙ drop_more xs (n - 1) e (omega arith) ∙ ap (λ l. z ∷ l) (drop_all (n - 1 + 1) xs (omega arith)) in
    let front : take (n - 1 - p) (drop p xs) ≡ rest = sym (drop-take p (n - 1 - p) xs) ∙ ap (λ k. drop p (take k xs)) reach in
    let turned : ys ≡ z ∷ rest = is ∙ ap (λ (l : List X). drop (length l - 1) l ++ take (length l - 1) l) part ∙ ap (λ k. drop k (drop p xs) ++ take k (drop p xs)) m ∙ ap₂ (λ (a b : List X). a ++ b) last front in
    let past : drop (n - p) (drop p xs) ≡ [] = drop_all (n - p) (drop p xs) (omega (arith, length-drop p xs)) in
    let whole : put_mid p (n - p) xs ys ≡ take p xs ++ z ∷ rest = ap₂ (λ (a b : List X). take p xs ++ (a ++ b)) turned past ∙ ap (λ l. take p xs ++ l) (append-nil (z ∷ rest)) in
    ap (λ l. set l p e) whole ∙ set_at (take p xs) z rest e p (length-take-le p xs (omega arith)) ∙ ap (λ l. l ++ e ∷ rest) (sym (take-take p (n - 1) xs (omega arith)))

-- What an insertion keeps

pub length_inserted : (e : Entry) (es : List Entry) → length (inserted e es) ≡ length es + 1
length_inserted e [] = refl
length_inserted e (x ∷ xs) = let rest = length_inserted e xs in grind (arith, nat_tests)

pub ids_inserted : (e : Entry) (es : List Entry) (i : ℕ) → has i (ids_of (inserted e es)) ≡ (eqb i e.id || has i (ids_of es))
ids_inserted e [] i = refl
ids_inserted e (x ∷ xs) i = let rest = ids_inserted e xs i in grind (arith, nat_tests)

pub inserted_ascends : (e : Entry) (es : List Entry) → AscendsStill e es (inserted e es)
inserted_ascends e [] last asc lt new = (lt, tt)
inserted_ascends e (x ∷ xs) last asc lt new =
    let apart = or_parts (eqb e.id x.id) (has e.id (ids_of xs)) new in
    let rest : x.id < e.id → Ascend x.id (ids_of (inserted e xs)) = λ above. inserted_ascends e xs x.id asc.1 above apart.1 in
    grind (arith, nat_tests)

-- the same of a list that is known to be the one with the entry
pub ids_with : (e : Entry) (es es' : List Entry) → es' ≡ inserted e es → (i : ℕ) → has i (ids_of es') ≡ (eqb i e.id || has i (ids_of es))
ids_with e es es' is i = rw is (ids_inserted e es i)

pub ascends_with : (e : Entry) (es es' : List Entry) → es' ≡ inserted e es → AscendsStill e es es'
ascends_with e es es' is = rw is (inserted_ascends e es)
