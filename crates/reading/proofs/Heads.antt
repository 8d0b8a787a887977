-- A token's head, as the code tests it.
use Rattle.std.proofs.Common.{◌≡◌, ℕ, Bool, true, false, cond, ltb, leb, List, length, Ok, Err, Result, sym, refl, ap, ◌∙◌}
use Rattle.frames.specs.declared.Cause.TheVariants as cause
use Rattle.frames.specs.declared.FrameFault.{FrameFault}
use Rattle.frames.specs.declared.plan.Plan.{Plan}
use Rattle.frames.specs.Contents.{Content}
use Rattle.frames.specs.Reading.{and_then, fault_at, token_as, lists_as, bad_round, bad_votes, bad_proposed, bad_decided}
use Rattle.reading.specs.declared.head.Head.{Head}
use Rattle.reading.specs.Heads.{head_in, head_as, number_as}

then_next : (r m : Result (Unit {0}) FrameFault) (x : Result Content FrameFault) → and_then r (λ _. and_then m (λ _. x)) ≡ and_then (and_then r (λ _. m)) (λ _. x)
then_next (Ok u) m x = refl
then_next (Err e) m x = refl

abbrev pub tested : Bool → Bool → FrameFault → FrameFault → Result (Unit {0}) FrameFault
tested short bad e f = cond short (Err e) (cond bad (Err f) (Ok tt))

pub number_test : {A : Type 0} (short bad : Bool) (e f : FrameFault) (x : Result A FrameFault) → cond short (Err e) (cond bad (Err f) x) ≡ and_then (tested short bad e f) (λ _. x)
number_test true bad e f x = refl
number_test false true e f x = refl
number_test false false e f x = refl

-- a test of what is left, before tests of the rest
more : (n end place : ℕ) (bad : Bool) (m : Result (Unit {0}) FrameFault) (x y : Result Content FrameFault) → y ≡ and_then m (λ _. x) →
    cond (ltb n end) (fault_at n cause.Length) (cond bad (fault_at place cause.Range) y) ≡ and_then (and_then (number_as n end place bad) (λ _. m)) (λ _. x)
more n end place bad m x y q = number_test (ltb n end) bad _ _ y ∙ ap (λ z. and_then (number_as n end place bad) (λ _. z)) q ∙ then_next (number_as n end place bad) m x

-- the head's numbers are tested, and then its lists
pub headed : (p : Plan) (bs : List ℕ) → token_as p bs ≡ and_then (head_as p (head_in bs) (length bs)) (λ _. lists_as p bs)
headed p bs =
    let n = length bs in
    let h = head_in bs in
    let five = number_test (ltb n 10) (bad_decided h.stamp h.decided) (record { place = n; cause = cause.Length }) (record { place = 9; cause = cause.Range }) (lists_as p bs) in
    let four = more n 9 8 (bad_proposed h.stamp h.votes h.proposed) _ (lists_as p bs) _ five in
    let three = more n 8 7 (bad_votes p h.stamp h.votes) _ (lists_as p bs) _ four in
    let two = more n 7 3 (bad_round p h.sender h.stamp) _ (lists_as p bs) _ three in
    more n 3 2 (leb p.n h.sender) _ (lists_as p bs) _ two

module _ (p : Plan) (bs : List ℕ) (h : Head) (is : h ≡ head_in bs) where
  pub head_passes : Ok tt ≡ head_as p h (length bs) → token_as p bs ≡ lists_as p bs
  head_passes q = headed p bs ∙ ap (λ z. and_then (head_as p z (length bs)) (λ _. lists_as p bs)) (sym is) ∙ ap (λ z. and_then z (λ _. lists_as p bs)) (sym q)

  pub head_fails : (e : FrameFault) → Err e ≡ head_as p h (length bs) → token_as p bs ≡ Err e
  head_fails e q = headed p bs ∙ ap (λ z. and_then (head_as p z (length bs)) (λ _. lists_as p bs)) (sym is) ∙ ap (λ z. and_then z (λ _. lists_as p bs)) (sym q)
