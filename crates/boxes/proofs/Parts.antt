-- A log begins another just where its entries and its decisions' lengths begin the other's.
use Rattle.std.proofs.Common.{◌≡◌, ℕ, Bool, List, [], ◌∷◌, ◌++◌, map, length, Decides, refl, ap, ◌∙◌, append_assoc, arith}
use Rattle.std.proofs.lemmas.List.{map-append}
use Rattle.frames.specs.declared.plan.Plan.{Plan}
use Rattle.frames.specs.declared.Entry.{Entry}
use Rattle.history.specs.Histories.{Begins, flat}
use Rattle.history.proofs.Prefix.{begins_flat}
use Rattle.boxes.specs.Boxes.{Box, Keeps}
use Rattle.boxes.specs.Calls.{Judged, frame_call}
use Rattle.boxes.specs.Laws.{ByParts, TestsDecide}
use Rattle.boxes.proofs.Answering.{is_false, decides_all_used, decides_log, decides_agree}

-- fronts of equal length are equal where the lists are
cut : {X : Type 0} (x y a b : List X) → length x ≡ length y → x ++ a ≡ y ++ b → (x ≡ y) × (a ≡ b)
cut [] [] a b l e = (refl, e)
cut [] (v ∷ y) a b l e = absurd (omega arith)
cut (u ∷ x) [] a b l e = absurd (omega arith)
cut (u ∷ x) (v ∷ y) a b l e = let h = cut x y a b (omega arith) (cc) in let q = h.0 in (cc, h.1)

parts : (xs ys : List (List Entry)) → Begins xs ys → ByParts xs ys
parts xs ys b = record { entries = begins_flat xs ys b; lengths = (map length b.0, ap (map length) b.1 ∙ map-append length xs b.0) }

whole : (xs ys : List (List Entry)) → ByParts xs ys → Begins xs ys
whole [] ys h = (ys, refl)
whole (x ∷ xs) [] h = let e = h.lengths.1 in let z : ◌≡◌ {A = ℕ} 0 1 = cc in absurd (omega arith)
whole (x ∷ xs) (y ∷ ys) h =
    let l = h.lengths.1 in
    let same : length y ≡ length x = cc in
    let lengths : map length ys ≡ map length xs ++ h.lengths.0 = cc in
    let c = cut y x (flat ys) (flat xs ++ h.entries.0) same (h.entries.1 ∙ append_assoc x (flat xs) h.entries.0) in
    let rest = whole xs ys (record { entries = (h.entries.0, c.1); lengths = (h.lengths.0, lengths) }) in
    let front = c.0 in
    let tail = rest.1 in
    (rest.0, cc)

-- a test that decides the rules judges by them
pub judged_by : {X : Type 0} (p : Plan) (i : ℕ) (b : Box) (f : Bool → X) (kept : Bool) → Decides kept (Keeps p i b) → Judged p i b f (f kept)
judged_by p i b f kept d = (λ k. ap f (d.1 k), λ n. ap f (is_false kept d n))

pub tests_decide : TestsDecide
tests_decide = record { ids = decides_all_used; begins = decides_log; agree = decides_agree; parts = parts; whole = whole; judged = λ p i b kept bytes d. judged_by p i b (λ k. frame_call p b k bytes) kept d }
