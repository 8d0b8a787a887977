-- Walking over a list or decisions, beside reading their bytes.
use Rattle.std.proofs.Common.{◌≡◌, ℕ, ◌+◌, ◌<◌, ◌||◌, leb, List, ◌∷◌, ◌++◌, length, get_or, take, drop, Ok, Err, Result, sym, refl, ap, ◌∙◌, subst, arith, length-append}
use Rattle.std.specs.List.{flat_map, AllByRecursion}
use Rattle.std.proofs.lemmas.List.{append_assoc, drop_at, take_more}
use Rattle.std.proofs.lemmas.Bool.{cond-false, le-ltb}
use Rattle.std.proofs.ByRecursion.{All-push}
use Rattle.frames.specs.declared.Entry.{Entry}
use Rattle.frames.specs.declared.FrameFault.{FrameFault}
use Rattle.frames.specs.declared.plan.Plan.{Plan}
use Rattle.frames.specs.Contents.{Whole, has, entry_bytes}
use Rattle.frames.specs.Ids.{Holds}
use Rattle.frames.specs.Reading.{Rest, entries_as, and_then, out_of_range}
use Rattle.frames.proofs.Steps.{no_fault}
use Rattle.reading.specs.Ids.{Met, id_as}
use Rattle.reading.proofs.Heads.{number_test}
use Rattle.writing.specs.declared.walk.Walk.{Walk}
use Rattle.writing.specs.Walking.{rest_of, StandsAt, Walks}

-- where reading is, once a walk answered that all is right
pub record Stood (p : Plan) (w : Result Rest FrameFault) (left : List ℕ) (after : Walk) : Type 0 where
  pub rest : Rest
  pub is : w ≡ Ok rest
  pub here : StandsAt p rest left after

pub stood : (p : Plan) (w : Result Rest FrameFault) (left : List ℕ) (after : Walk) → Walks p w left (Ok tt) after → Stood p w left after
stood p (Ok s) left after h = record { rest = s; is = refl; here = h.1 }
stood p (Err e) left after h = absurd (no_fault e tt (sym h))

pub fell : (p : Plan) (w : Result Rest FrameFault) (left : List ℕ) (e : FrameFault) (after : Walk) → Walks p w left (Err e) after → w ≡ Err e
fell p (Ok s) left e after h = absurd (no_fault e tt h.0)
fell p (Err f) left e after h = let q : f ≡ e = cc in ap Err q

pub stands : (p : Plan) (w : Result Rest FrameFault) (s : Rest) (left : List ℕ) (after : Walk) → w ≡ Ok s → StandsAt p s left after → Walks p w left (Ok tt) after
stands p w s left after q h = rw q (refl, h)

pub falls : (p : Plan) (w : Result Rest FrameFault) (left : List ℕ) (e : FrameFault) (after : Walk) → w ≡ Err e → Walks p w left (Err e) after
falls p w left e after q = rw q refl

-- the bytes of an entry are read as its id is tested
entry_is : (p : Plan) (last at id : ℕ) (body left met : List ℕ) → length body ≡ 8 →
    entries_as p 1 last (record { at = at; bytes = id ∷ (body ++ left); met = met }) ≡ and_then (id_as p last met id at) (λ _. Ok (record { at = at + 9; bytes = left; met = id ∷ met }))
entry_is p last at id body left met eight =
    let n = length-append body left in
    cond-false _ _ _ (le-ltb (length (id ∷ (body ++ left))) 1 (omega arith))
    ∙ number_test (out_of_range p id) (leb id last || has id met) _ _ _
    ∙ ap (λ z. and_then (id_as p last met id at) (λ _. z)) (cond-false _ _ _ (le-ltb (length (id ∷ (body ++ left))) 9 (omega arith)) ∙ ap (λ z. Ok (record { at = at + 9; bytes = z; met = id ∷ met })) (drop_at body left 8 eight))

pub entry_walks : (p : Plan) (w after : Walk) (id : ℕ) (body left met : List ℕ) → Met p met w.ids → length body ≡ 8 → Ok tt ≡ id_as w.ids.plan.now w.ids.last met id w.at →
    after.at ≡ w.at + 9 → after.ids.plan.now ≡ w.ids.plan.now → Holds after.ids.met (id ∷ met) → Walks p (entries_as p 1 w.ids.last (rest_of w (id ∷ (body ++ left)) met)) left (Ok tt) after
entry_walks p w after id body left met m eight good place same held =
    let test : id_as p w.ids.last met id w.at ≡ Ok tt = ap (λ z. id_as z w.ids.last met id w.at) (sym m.for_plan) ∙ sym good in
    stands p _ _ left after (entry_is p w.ids.last w.at id body left met eight ∙ ap (λ z. and_then z (λ _. Ok (record { at = w.at + 9; bytes = left; met = id ∷ met }))) test) (record {
      rest = λ i. record { at = (sym place) i; bytes = left; met = id ∷ met };
      met = record { for_plan = same ∙ m.for_plan; holds = held };
    })

-- the bytes of the entries from i on
pub front_entry : (es : List Entry) (i : ℕ) (e : Entry) (left : List ℕ) → drop i es ≡ e ∷ drop (i + 1) es →
    flat_map entry_bytes (drop i es) ++ left ≡ entry_bytes e ++ (flat_map entry_bytes (drop (i + 1) es) ++ left)
front_entry es i e left here = ap (λ z. flat_map entry_bytes z ++ left) here ∙ append_assoc (entry_bytes e) (flat_map entry_bytes (drop (i + 1) es)) left

pub all_more : (es : List Entry) (i : ℕ) (d : Entry) → AllByRecursion Whole (take i es) → Whole (get_or es i d) → i < length es → AllByRecursion Whole (take (i + 1) es)
all_more es i d a w h = subst (AllByRecursion Whole) (sym (take_more es i d h)) (All-push Whole (take i es) (get_or es i d) a w)
