-- Entries that stay, moved to the front in one pass.
use Rattle.std.proofs.Common.{◌≡◌, ℕ, ◌+◌, ◌<◌, ◌≤◌, Bool, true, false, not, List, [], ◌∷◌, ◌++◌, length, get_or, take, drop, set, filter, sym, refl, ap, ◌∙◌, arith}
use Rattle.std.proofs.lemmas.Bool.{and_right}
use Rattle.std.proofs.lemmas.Bool.Decides.{nat_tests}
use Rattle.std.proofs.lemmas.List.{drop-drop, drop-set-lt, take-append-drop, length-take-le}
use Rattle.std.proofs.lemmas.List.Filters.{FiltersInPlace, FiltersInPlace-more_set, FiltersInPlace-more_no}
use Rattle.frames.specs.declared.Entry.{Entry}
use Rattle.frames.specs.Contents.{ids_of, Ascend}
use Rattle.lists.specs.Tables.{LeavesMarked, staying, KeepsAscending, Unflagged}

-- what is kept so far, with all from there on as it was
pub record Moving {X : Type 0} (p : X → Bool) (xs ys : List X) (k i : ℕ) : Type 0 where
  pub keeping : FiltersInPlace p xs ys k i
  pub beyond : drop k ys ≡ drop k xs

module _ {X : Type 0} {p : X → Bool} {xs ys : List X} {k i : ℕ} {x : X} (m : Moving p xs ys k i) (h : i < length ys) (is : x ≡ get_or ys i x) where
  pub moving_no : p x ≡ false → Moving p xs ys k (i + 1)
  moving_no q = record { keeping = FiltersInPlace-more_no m.keeping h q is; beyond = m.beyond }

  pub moving_yes : p x ≡ true → Moving p xs (set ys k x) (k + 1) (i + 1)
  moving_yes q =
      record {
        keeping = FiltersInPlace-more_set m.keeping h q is;
        beyond = drop-set-lt (k + 1) ys k x (omega arith) ∙ sym (drop-drop 1 k ys) ∙ ap (drop 1) m.beyond ∙ drop-drop 1 k xs;
      }

module _ {X : Type 0} {p : X → Bool} {xs ys : List X} {k i : ℕ} (m : Moving p xs ys k i) where
  pub moved_all : ys ≡ filter p (take i xs) ++ drop k xs
  moved_all =
      let whole = take-append-drop k ys in
      let front = m.keeping.front in
      let back = m.beyond in
      cc

  pub moved_count : k ≡ length (filter p (take i xs))
  moved_count =
      let b = m.keeping.behind in
      let w = m.keeping.within in
      let l = m.keeping.long in
      sym (length-take-le k ys (omega arith)) ∙ ap length m.keeping.front

-- What stays

pub staying_ids : (flags : List Bool) (es : List Entry) → Unflagged flags es (staying flags es)
staying_ids flags [] i = sym (and_right (not (get_or flags i false)) false refl)
staying_ids flags (x ∷ xs) i = let rest = staying_ids flags xs i in grind (arith, nat_tests)

-- what ascends above an id ascends above a smaller one
lower : (a b : ℕ) (is : List ℕ) → a ≤ b → Ascend b is → Ascend a is
lower a b [] le asc = asc
lower a b (i ∷ is) le asc = (omega (arith, asc.0), asc.1)

pub staying_ascends : (flags : List Bool) (es : List Entry) → KeepsAscending es (staying flags es)
staying_ascends flags [] last asc = asc
staying_ascends flags (x ∷ xs) last asc =
    let rest = staying_ascends flags xs x.id asc.1 in
    let less = lower last x.id (ids_of (staying flags xs)) (omega (arith, asc.0)) rest in
    grind (arith, nat_tests)

-- flags that mark ids keep what those ids keep
pub leaves_marked : (flags : List Bool) (es : List Entry) → LeavesMarked flags es (staying flags es)
leaves_marked flags [] ids marks small = refl
leaves_marked flags (x ∷ xs) ids marks small =
    let here = marks x.id small.0 in
    let rest = leaves_marked flags xs ids marks small.1 in
    cc

-- the same of a list that is known to be the one of those that stay

module _ (flags : List Bool) (es es' : List Entry) (is : es' ≡ staying flags es) where
  pub ids_left : Unflagged flags es es'
  ids_left = rw is (staying_ids flags es)

  pub ascends_left : KeepsAscending es es'
  ascends_left = rw is (staying_ascends flags es)

  pub marked_left : LeavesMarked flags es es'
  marked_left = rw is (leaves_marked flags es)
