-- Where the invariant holds, the array is unsplit.
use Rattle.std.proofs.Common.{◌≡◌, ℕ, zero, suc, ◌<◌, ◌≤◌, ltb, List, [], ◌∷◌, length, take, sym, refl, ap, ◌∙◌, subst, arith}
use Rattle.std.specs.List.{ContainsAt as Has, AllByRecursion}
use Rattle.std.proofs.lemmas.List.{take_at}
use Rattle.std.proofs.lemmas.Bool.{cond_both, ltb-true, ltb-false}
use Rattle.frames.specs.declared.plan.Plan.{Plan}
use Rattle.frames.specs.declared.Entry.{Entry}
use Rattle.history.specs.Histories.{History, Agree, flat}
use Rattle.history.proofs.Prefix.{shorter_begins, agree_flat}
use Rattle.history.proofs.Orders.{orders_agree}
use Rattle.boxes.specs.Boxes.{Box}
use Rattle.agreement.specs.Arrays.{Machine, State, box_at, after}
use Rattle.agreement.specs.Runs.{longest, log_at, Unsplit}
use Rattle.agreement.proofs.Invariant.{Inv}

pub longest_most : (bs : List Box) (i : ℕ) → i < length bs → length (flat (box_at bs i).log) ≤ length (longest bs)
longest_most [] i h = absurd (omega arith)
longest_most (b ∷ bs) zero h = cond_both (ltb (length (flat b.log)) (length (longest bs))) (longest bs) (flat b.log) (λ l. length (flat b.log) ≤ length l) (λ q. omega (arith, ltb-true (length (flat b.log)) (length (longest bs)) q)) (λ q. omega arith)
longest_most (b ∷ bs) (suc i) h =
    let r = longest_most bs i (omega arith) in
    cond_both (ltb (length (flat b.log)) (length (longest bs))) (longest bs) (flat b.log) (λ l. length (flat (box_at bs i).log) ≤ length l) (λ q. r) (λ q. omega (arith, ltb-false (length (flat b.log)) (length (longest bs)) q))

pub longest_is : (bs : List Box) → 0 < length bs → (i : ℕ) × (i < length bs) × (longest bs ≡ flat (box_at bs i).log)
longest_is [] h = absurd (omega arith)
longest_is (b ∷ []) h = cond_both (ltb (length (flat b.log)) 0) [] (flat b.log) (λ l. (i : ℕ) × (i < 1) × (l ≡ flat (box_at (b ∷ []) i).log)) (λ q. absurd (omega (arith, ltb-true (length (flat b.log)) 0 q))) (λ q. (0, omega arith, refl))
longest_is (b ∷ c ∷ bs) h =
    let r = longest_is (c ∷ bs) (omega arith) in
    cond_both (ltb (length (flat b.log)) (length (longest (c ∷ bs)))) (longest (c ∷ bs)) (flat b.log) (λ l. (i : ℕ) × (i < length (b ∷ c ∷ bs)) × (l ≡ flat (box_at (b ∷ c ∷ bs) i).log))
    (λ q. (suc r.0, omega (arith, r.1), r.2))
    (λ q. (0, omega arith, refl))

module _ {R : Type 0} (p : Plan) (machine : Machine R) where
  logs_agree : (H : History Entry) (sent : List Entry) (s : State R) → Inv p machine H sent s → (i j : ℕ) → i < p.n → j < p.n → Agree (log_at s i) (log_at s j)
  logs_agree H sent s v i j hi hj =
      let x = (v.boxes i hi).logged in
      let y = (v.boxes j hj).logged in
      rw (x.same, y.same) ((orders_agree p sent H v.law).agree x.from y.from x.source y.source x.made y.made)

  first_of_longest : (H : History Entry) (sent : List Entry) (s : State R) → Inv p machine H sent s → (i : ℕ) → i < p.n → take (length (flat (log_at s i))) (longest s.boxes) ≡ flat (log_at s i)
  first_of_longest H sent s v i h =
      let n = v.fits.boxes in
      let k = longest_is s.boxes (omega (arith, p.least)) in
      let hk : k.0 < p.n = omega (arith, k.1) in
      let most = longest_most s.boxes i (omega arith) in
      let b = shorter_begins (flat (log_at s i)) (flat (log_at s k.0)) (omega (arith, ap length k.2)) (agree_flat (log_at s i) (log_at s k.0) (logs_agree H sent s v i k.0 h hk)) in
      ap (λ l. take (length (flat (log_at s i))) l) (k.2 ∙ b.1) ∙ take_at (flat (log_at s i)) b.0 (length (flat (log_at s i))) refl

  pub unsplit : (H : History Entry) (sent : List Entry) (s : State R) → Inv p machine H sent s → Unsplit p machine sent s
  unsplit H sent s v = record {
    agree = logs_agree H sent s v;
    once = λ i h. (v.boxes i h).keeps.lists.once;
    sent_first = λ i h. let l = (v.boxes i h).logged in subst (λ d. AllByRecursion (Has sent) (flat d)) (sym l.same) ((orders_agree p sent H v.law).uninvented l.from l.source l.made).1;
    readings = λ i h. v.readings i h ∙ ap (λ l. after machine machine.fresh l) (sym (first_of_longest H sent s v i h));
  }
