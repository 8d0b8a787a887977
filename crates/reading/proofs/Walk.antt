-- Reading a list or decisions one at a time.
use Rattle.std.proofs.Common.{◌≡◌, ℕ, suc, ◌+◌, ◌-◌, ◌<◌, ◌≤◌, Bool, true, false, cond, ◌||◌, eqb, ltb, leb, List, [], length, drop, Ok, Err, Result, sym, refl, ap, ◌∙◌, subst, arith}
use Rattle.frames.specs.declared.FrameFault.{FrameFault}
use Rattle.frames.specs.declared.plan.Plan.{Plan}
use Rattle.frames.specs.Contents.{has}
use Rattle.frames.specs.Reading.{Rest, entries_as, decisions_as, and_then, out_of_range, next_byte, past_entry, past_count, start_at}
use Rattle.frames.proofs.Steps.{no_fault}
use Rattle.reading.specs.declared.reader.Reader.{Reader}
use Rattle.reading.specs.Walking.{rest_of, StandsAt, Reads}

-- where reading is, once a step of the reader answered that all is right
pub record Stood (p : Plan) (w : Result Rest FrameFault) (r : Reader) : Type 0 where
  pub rest : Rest
  pub is : w ≡ Ok rest
  pub here : StandsAt p rest r

pub stood : (p : Plan) (w : Result Rest FrameFault) (r : Reader) → Reads p w (Ok tt) r → Stood p w r
stood p (Ok s) r h = record { rest = s; is = refl; here = h.1 }
stood p (Err e) r h = absurd (no_fault e tt (sym h))

pub fell : (p : Plan) (w : Result Rest FrameFault) (e : FrameFault) (r : Reader) → Reads p w (Err e) r → w ≡ Err e
fell p (Ok s) e r h = absurd (no_fault e tt h.0)
fell p (Err f) e r h = let q : f ≡ e = cc in ap Err q

pub stands : (p : Plan) (w : Result Rest FrameFault) (s : Rest) (r : Reader) → w ≡ Ok s → StandsAt p s r → Reads p w (Ok tt) r
stands p w s r q h = rw q (refl, h)

pub falls : (p : Plan) (w : Result Rest FrameFault) (e : FrameFault) (r : Reader) → w ≡ Err e → Reads p w (Err e) r
falls p w e r q = rw q refl

-- a list that a reader reads at a place of a frame
module _ (p : Plan) (k at : ℕ) (bs : List ℕ) (w after : Reader) (place : w.at ≡ at) (left : w.rest.now ≡ drop at bs) where
  starts : rest_of w [] ≡ start_at at bs
  starts = λ i. record { at = place i; bytes = left i; met = [] }

  pub listed : Reads p (entries_as p k 0 (rest_of w [])) (Ok tt) after → Stood p (entries_as p k 0 (start_at at bs)) after
  listed h = stood p _ after (subst (λ z. Reads p (entries_as p k 0 z) (Ok tt) after) starts h)

  pub unlisted : (e : FrameFault) → Reads p (entries_as p k 0 (rest_of w [])) (Err e) after → entries_as p k 0 (start_at at bs) ≡ Err e
  unlisted e h = fell p _ e after (subst (λ z. Reads p (entries_as p k 0 z) (Err e) after) starts h)

-- decisions that a reader reads from where it stands
module _ (p : Plan) (n : ℕ) (s : Rest) (w after : Reader) (here : s ≡ rest_of w s.met) where
  pub settled : Reads p (decisions_as p n (rest_of w s.met)) (Ok tt) after → Stood p (decisions_as p n s) after
  settled h = stood p _ after (subst (λ z. Reads p (decisions_as p n z) (Ok tt) after) (sym here) h)

  pub unsettled : (e : FrameFault) → Reads p (decisions_as p n (rest_of w s.met)) (Err e) after → decisions_as p n s ≡ Err e
  unsettled e h = ap (decisions_as p n) here ∙ fell p _ e after h

four_tests : (a b c d : Bool) (e f g h : FrameFault) (s : Rest) (k : Rest → Result Rest FrameFault) →
    cond a (Err e) (cond b (Err f) (cond c (Err g) (cond d (Err h) (k s)))) ≡ and_then (cond a (Err e) (cond b (Err f) (cond c (Err g) (cond d (Err h) (Ok s))))) k
four_tests true b c d e f g h s k = refl
four_tests false true c d e f g h s k = refl
four_tests false false true d e f g h s k = refl
four_tests false false false true e f g h s k = refl
four_tests false false false false e f g h s k = refl

pub entries_one : (p : Plan) (n last : ℕ) (r : Rest) → entries_as p (suc n) last r ≡ and_then (entries_as p 1 last r) (entries_as p n (next_byte r))
entries_one p n last r =
    four_tests (ltb (length r.bytes) 1) (out_of_range p (next_byte r)) (leb (next_byte r) last || has (next_byte r) r.met) (ltb (length r.bytes) 9) _ _ _ _ (past_entry r) (entries_as p n (next_byte r))

two_tests : (p : Plan) (a b : Bool) (e f : FrameFault) (m : Result Rest FrameFault) (k : Rest → Result Rest FrameFault) →
    cond a (Err e) (cond b (Err f) (and_then m k)) ≡ and_then (cond a (Err e) (cond b (Err f) (and_then m (decisions_as p 0)))) k
two_tests p true b e f m k = refl
two_tests p false true e f m k = refl
two_tests p false false e f (Ok s) k = refl
two_tests p false false e f (Err g) k = refl

pub decisions_one : (p : Plan) (n : ℕ) (r : Rest) → decisions_as p (suc n) r ≡ and_then (decisions_as p 1 r) (decisions_as p n)
decisions_one p n r = two_tests p (ltb (length r.bytes) 1) (eqb (next_byte r) 0) _ _ (entries_as p (next_byte r) 0 (past_count r)) (decisions_as p n)

-- the decision's entries read, it is read
pub decided : (p : Plan) (w : Result Rest FrameFault) (a : Result (Unit {0}) FrameFault) (r : Reader) → Reads p w a r → Reads p (and_then w (decisions_as p 0)) a r
decided p (Ok s) a r h = h
decided p (Err e) a r h = h

-- none are left
module _ (p : Plan) (count k : ℕ) (h : count ≤ k) where
  none : count - k ≡ 0
  none = omega arith

  pub entries_none : (last : ℕ) (r : Rest) → entries_as p (count - k) last r ≡ Ok r
  entries_none last r = ap (λ z. entries_as p z last r) none

  pub decisions_none : (r : Rest) → decisions_as p (count - k) r ≡ Ok r
  decisions_none r = ap (λ z. decisions_as p z r) none

-- one more of those that are left
module _ (p : Plan) (count k : ℕ) (h : k < count) where
  more : count - k ≡ suc (count - (k + 1))
  more = omega arith

  pub entries_next : (last : ℕ) (r s : Rest) → entries_as p 1 last r ≡ Ok s → entries_as p (count - k) last r ≡ entries_as p (count - (k + 1)) (next_byte r) s
  entries_next last r s q = ap (λ z. entries_as p z last r) more ∙ entries_one p (count - (k + 1)) last r ∙ ap (λ z. and_then z (entries_as p (count - (k + 1)) (next_byte r))) q

  pub entries_fall : (last : ℕ) (r : Rest) (e : FrameFault) → entries_as p 1 last r ≡ Err e → entries_as p (count - k) last r ≡ Err e
  entries_fall last r e q = ap (λ z. entries_as p z last r) more ∙ entries_one p (count - (k + 1)) last r ∙ ap (λ z. and_then z (entries_as p (count - (k + 1)) (next_byte r))) q

  pub decisions_next : (r s : Rest) → decisions_as p 1 r ≡ Ok s → decisions_as p (count - k) r ≡ decisions_as p (count - (k + 1)) s
  decisions_next r s q = ap (λ z. decisions_as p z r) more ∙ decisions_one p (count - (k + 1)) r ∙ ap (λ z. and_then z (decisions_as p (count - (k + 1)))) q

  pub decisions_fall : (r : Rest) (e : FrameFault) → decisions_as p 1 r ≡ Err e → decisions_as p (count - k) r ≡ Err e
  decisions_fall r e q = ap (λ z. decisions_as p z r) more ∙ decisions_one p (count - (k + 1)) r ∙ ap (λ z. and_then z (decisions_as p (count - (k + 1)))) q
