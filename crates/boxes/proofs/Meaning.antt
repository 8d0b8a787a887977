-- Whom a token is meant for.
use Rattle.std.proofs.Common.{◌≡◌, ℕ, ◌+◌, ◌-◌, ◌*◌, ◌%◌, ◌<◌, ◌≤◌, true, ◌&&◌, eqb, ltb, leb, ◌≢◌, Decides, sym, ap, ◌∙◌, subst, inl, inr, mod-eq_of_lt, arith}
use native.Mathlib.Nat.{add-mod_right}
use Rattle.std.proofs.lemmas.Bool.{cond-true, cond-false, eq-eqb, ne_eqb, le-leb, lt-ltb, leb-true, and_from, and_parts, cases_lt}
use Rattle.std.proofs.lemmas.Bool.Decides.{Decides-at, Decides-and}
use Rattle.frames.specs.declared.plan.Plan.{Plan}
use Rattle.frames.specs.Plans.{dummy_reach}
use Rattle.frames.specs.Contents.{Token}
use Rattle.boxes.specs.Handling.{steps, meant}
use Rattle.boxes.specs.Laws.{MeantFor}

-- fewer steps than a whole round
short_way : (p : Plan) → p.f + 1 < p.n
short_way p = go p.f p.n p.some p.few p.least p.enough
  where
    go : (f n : ℕ) → 1 ≤ f → f ≤ 2 → 3 ≤ n → f * (f + 1) + 1 ≤ n → f + 1 < n
    go f n one two least enough = elim (cases_lt f 2) [
      | inl l ↦ omega arith
      | inr g ↦ let e : f ≡ 2 = omega arith in let h : 2 * (2 + 1) + 1 ≤ n = subst (λ x. x * (x + 1) + 1 ≤ n) e enough in omega arith
    ]

-- once round at most
mod_once : (a n : ℕ) → n ≤ a → a < n + n → a % n ≡ a - n
mod_once a n l u = let e : a - n + n ≡ a = omega arith in ap (λ x. x % n) (sym e) ∙ add-mod_right (a - n) n ∙ mod-eq_of_lt (omega arith)

there : (n i k : ℕ) → i < n → k < n → ((i + k) % n + n - i) % n ≡ k
there n i k li lk = elim (cases_lt (i + k) n) [
  | inl l ↦
      let m : (i + k) % n ≡ i + k = mod-eq_of_lt l in
      let e : i + k + n - i ≡ k + n = omega arith in
      ap (λ x. (x + n - i) % n) m ∙ ap (λ x. x % n) e ∙ add-mod_right k n ∙ mod-eq_of_lt lk
  | inr g ↦
      let m : (i + k) % n ≡ i + k - n = mod_once (i + k) n g (omega arith) in
      let e : i + k - n + n - i ≡ k = omega arith in
      ap (λ x. (x + n - i) % n) m ∙ ap (λ x. x % n) e ∙ mod-eq_of_lt lk
]

back : (n i seat : ℕ) → i < n → seat < n → seat ≡ (i + (seat + n - i) % n) % n
back n i seat li ls = elim (cases_lt seat i) [
  | inl l ↦
      let m : (seat + n - i) % n ≡ seat + n - i = mod-eq_of_lt (omega arith) in
      let e : i + (seat + n - i) ≡ seat + n = omega arith in
      sym (ap (λ x. (i + x) % n) m ∙ ap (λ x. x % n) e ∙ add-mod_right seat n ∙ mod-eq_of_lt ls)
  | inr g ↦
      let m : (seat + n - i) % n ≡ seat + n - i - n = mod_once (seat + n - i) n (omega arith) (omega arith) in
      let e : i + (seat + n - i - n) ≡ seat = omega arith in
      sym (ap (λ x. (i + x) % n) m ∙ ap (λ x. x % n) e ∙ mod-eq_of_lt ls)
]

-- what the test comes to for a token that is no dummy, and for a dummy
ordinary : (p : Plan) (t : Token) (seat : ℕ) → t.stamp ≢ 0 → meant p seat t ≡ (leb 1 (steps p seat t.sender) && leb (steps p seat t.sender) (p.f + 1))
ordinary p t seat ne = cond-false (eqb t.stamp 0) _ _ (ne_eqb t.stamp 0 ne)

successors : (p : Plan) (t : Token) (k : ℕ) → t.sender < p.n → t.stamp ≢ 0 → 1 ≤ k → k ≤ p.f + 1 → meant p ((t.sender + k) % p.n) t ≡ true
successors p t k low ne one most =
    let e = there p.n t.sender k low (omega (arith, short_way p)) in
    ordinary p t ((t.sender + k) % p.n) ne ∙ ap (λ x. leb 1 x && leb x (p.f + 1)) e ∙ and_from (leb 1 k) (leb k (p.f + 1)) (le-leb 1 k one) (le-leb k (p.f + 1) most)

no_others : (p : Plan) (t : Token) (seat : ℕ) → t.sender < p.n → t.stamp ≢ 0 → seat < p.n → meant p seat t ≡ true → (k : ℕ) × (1 ≤ k) × (k ≤ p.f + 1) × (seat ≡ (t.sender + k) % p.n)
no_others p t seat low ne ls m =
    let h = and_parts (leb 1 (steps p seat t.sender)) (leb (steps p seat t.sender) (p.f + 1)) (sym (ordinary p t seat ne) ∙ m) in
    (steps p seat t.sender, leb-true 1 (steps p seat t.sender) h.0, leb-true (steps p seat t.sender) (p.f + 1) h.1, back p.n t.sender seat low ls)

dummies : (p : Plan) (t : Token) (seat : ℕ) → t.sender < p.n → p.n ≤ t.sender + p.f → t.stamp ≡ 0 → Decides (meant p seat t) ((1 ≤ seat) × (seat ≤ t.sender + p.f + 1 - p.n))
dummies p t seat low late z =
    let r : dummy_reach p t.sender ≡ t.sender + p.f + 1 - p.n = cond-true (leb p.n (t.sender + p.f) && ltb t.sender p.n) _ _ (and_from _ _ (le-leb p.n (t.sender + p.f) late) (lt-ltb t.sender p.n low)) in
    let e : meant p seat t ≡ (leb 1 seat && leb seat (t.sender + p.f + 1 - p.n)) = cond-true (eqb t.stamp 0) _ _ (eq-eqb t.stamp 0 z) ∙ ap (λ x. leb 1 seat && leb seat x) r in
    Decides-at (meant p seat t) (leb 1 seat && leb seat (t.sender + p.f + 1 - p.n)) e (Decides-and (leb 1 seat) (leb seat (t.sender + p.f + 1 - p.n)) (leb-true 1 seat, le-leb 1 seat) (leb-true seat (t.sender + p.f + 1 - p.n), le-leb seat (t.sender + p.f + 1 - p.n)))

pub meant_for : MeantFor
meant_for = record { successors = successors; no_others = no_others; dummies = dummies }
