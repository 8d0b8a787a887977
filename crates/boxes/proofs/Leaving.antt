-- The unordered entries after contents are those before, and the order that is kept, but for those in the log.
use Rattle.std.proofs.Common.{◌≡◌, ℕ, zero, suc, true, false, not, ltb, ◌⊎◌, List, [], ◌∷◌, None, Ok, Err, Result, sym, refl, ap, subst, inl, inr, ⊎_elim, arith}
use Rattle.std.specs.List.{ContainsAt as Has, AllByRecursion}
use Rattle.std.proofs.ByRecursion.{all-has, has_append_right}
use Rattle.std.proofs.lemmas.Bool.{cond_both, not-true, not-false, both_ways}
use Rattle.frames.specs.declared.plan.Plan.{Plan}
use Rattle.frames.specs.declared.Entry.{Entry}
use Rattle.frames.specs.Contents.{Token, Content, has, ids_of}
use Rattle.frames.specs.Contents.Content.{order, token}
use Rattle.boxes.specs.declared.Outcome.{Outcome}
use Rattle.boxes.specs.declared.Outcome.TheVariants as outcome
use Rattle.boxes.specs.declared.BoxFault.{BoxFault}
use Rattle.boxes.specs.declared.BoxFault.TheVariants as fault
use Rattle.boxes.specs.Boxes.{Box, Keeps, log_ids}
use Rattle.boxes.specs.Turns.{left, inserted, logging, opened}
use Rattle.boxes.specs.Handling.{answer, box_after}
use Rattle.boxes.specs.Cases.{OrderHandled, TokenHandled}
use Rattle.boxes.specs.Laws.{Offered, UnorderedStay}
use Rattle.boxes.proofs.Answering.{fit}

module _ {X : Type 0} where
  has_cases : (y : X) (ys : List X) (x : X) → Has (y ∷ ys) x → (y ≡ x) ⊎ Has ys x
  has_cases y ys x (zero, l, h) = inl (h x)
  has_cases y ys x (suc k, l, h) = inr (k, omega arith, λ d. h d)

  has_head : (y : X) (ys : List X) (x : X) → y ≡ x → Has (y ∷ ys) x
  has_head y ys x e = (0, omega arith, λ d. e)

  has_tail : (y : X) (ys : List X) (x : X) → Has ys x → Has (y ∷ ys) x
  has_tail y ys x h = has_append_right (y ∷ []) ys x h

ids_each : (P : ℕ → Type 0) (xs : List Entry) → AllByRecursion P (ids_of xs) → AllByRecursion (λ (e : Entry). P e.id) xs
ids_each P [] a = tt
ids_each P (x ∷ xs) a = (a.0, ids_each P xs a.1)

module _ (log : List (List Entry)) (e : Entry) where
  has_left : (xs : List Entry) → Has (left log xs) e → Has xs e × (has e.id (log_ids log) ≡ false)
  has_left [] = λ h. absurd (let l = h.1 in omega arith)
  has_left (x ∷ xs) =
      cond_both (not (has x.id (log_ids log))) (x ∷ left log xs) (left log xs) (λ l. Has l e → Has (x ∷ xs) e × (has e.id (log_ids log) ≡ false))
      (λ q h. elim (has_cases x (left log xs) e h) [
        | inl s ↦ (has_head x xs e s, subst (λ (z : Entry). has z.id (log_ids log) ≡ false) s (not-true (has x.id (log_ids log)) q))
        | inr r ↦ let g = has_left xs r in (has_tail x xs e g.0, g.1)
      ])
      (λ _ h. let g = has_left xs h in (has_tail x xs e g.0, g.1))

  left_has : (xs : List Entry) → has e.id (log_ids log) ≡ false → Has xs e → Has (left log xs) e
  left_has [] n h = absurd (let l = h.1 in omega arith)
  left_has (x ∷ xs) n h =
      cond_both (not (has x.id (log_ids log))) (x ∷ left log xs) (left log xs) (λ l. Has l e)
      (λ _. elim (has_cases x xs e h) [ inl s ↦ has_head x (left log xs) e s | inr r ↦ has_tail x (left log xs) e (left_has xs n r) ])
      (λ q. elim (has_cases x xs e h) [
        | inl s ↦ absurd (both_ways (has e.id (log_ids log)) n (subst (λ (z : Entry). has z.id (log_ids log) ≡ true) s (not-false (has x.id (log_ids log)) q)))
        | inr r ↦ left_has xs n r
      ])

module _ (new e : Entry) where
  has_inserted : (xs : List Entry) → Has (inserted new xs) e → (new ≡ e) ⊎ Has xs e
  has_inserted [] = has_cases new [] e
  has_inserted (x ∷ xs) =
      cond_both (ltb new.id x.id) (new ∷ x ∷ xs) (x ∷ inserted new xs) (λ l. Has l e → (new ≡ e) ⊎ Has (x ∷ xs) e)
      (λ _ h. has_cases new (x ∷ xs) e h)
      (λ _ h. elim (has_cases x (inserted new xs) e h) [
        | inl s ↦ inr (has_head x xs e s)
        | inr r ↦ ⊎_elim (λ s. inl s) (λ g. inr (has_tail x xs e g)) (has_inserted xs r)
      ])

  inserted_has : (xs : List Entry) → (new ≡ e) ⊎ Has xs e → Has (inserted new xs) e
  inserted_has [] h = ⊎_elim (λ s. has_head new [] e s) (λ g. absurd (let l = g.1 in omega arith)) h
  inserted_has (x ∷ xs) h =
      cond_both (ltb new.id x.id) (new ∷ x ∷ xs) (x ∷ inserted new xs) (λ l. Has l e)
      (λ _. ⊎_elim (λ s. has_head new (x ∷ xs) e s) (λ g. has_tail new (x ∷ xs) e g) h)
      (λ _. ⊎_elim (λ s. has_tail x (inserted new xs) e (inserted_has xs (inl s))) (λ g. ⊎_elim (λ s. has_head x (inserted new xs) e s) (λ r. has_tail x (inserted new xs) e (inserted_has xs (inr r))) (has_cases x xs e g)) h)

record Exact (p : Plan) (b : Box) (c : Content) (b' : Box) : Type 0 where
  were : (e : Entry) → Has b'.unordered e → Offered p b c e × (has e.id (log_ids b'.log) ≡ false)
  are : (e : Entry) → Offered p b c e → has e.id (log_ids b'.log) ≡ false → Has b'.unordered e

module _ (p : Plan) (i : ℕ) (b : Box) (k : Keeps p i b) where
  apart : (e : Entry) → Has b.unordered e → has e.id (log_ids b.log) ≡ false
  apart e h = all-has (λ (x : Entry). has x.id (log_ids b.log) ≡ false) b.unordered e (ids_each (λ j. has j (log_ids b.log) ≡ false) b.unordered k.lists.apart) h

  -- the record stays, and nothing is kept
  unchanged : (c : Content) (b' : Box) → ((e : Entry) → c ≡ order e → answer p b c ≡ Ok outcome.Kept → ⊥) → b' ≡ b → Exact p b c b'
  unchanged c b' n q = subst (Exact p b c) (sym q) (record { were = λ e h. (inl h, apart e h); are = λ e o _. ⊎_elim (λ h. h) (λ z. absurd (n e z.0 z.1)) o })

  no_order : (t : Token) (e : Entry) → token t ≡ order e → ⊥
  no_order t e q = let z : ◌≡◌ {A = ℕ} 0 1 = cc in omega arith

  -- entries that reach a log leave
  left_exact : (t : Token) (b' : Box) → b'.unordered ≡ left b'.log b.unordered → Exact p b (token t) b'
  left_exact t b' q = record {
    were = λ e h. let g = has_left b'.log e b.unordered (subst (λ l. Has l e) q h) in (inl g.0, g.1);
    are = λ e o n. ⊎_elim (λ h. subst (λ l. Has l e) (sym q) (left_has b'.log e b.unordered n h)) (λ z. absurd (no_order t e z.0)) o;
  }

  by_order : (e : Entry) (r : Result (Outcome (Unit {0})) BoxFault) (b' : Box) → answer p b (order e) ≡ r → OrderHandled b e r b' → Exact p b (order e) b'
  by_order e (Ok outcome.Kept) b' q x = subst (Exact p b (order e)) (sym x.3) (record {
    were = λ y h. elim (has_inserted e y b.unordered h) [
      | inl s ↦ (inr (ap order s, q), subst (λ (z : Entry). has z.id (log_ids b.log) ≡ false) s x.2)
      | inr g ↦ (inl g, apart y g)
    ];
    are = λ y o _. inserted_has e y b.unordered (⊎_elim (λ g. inr g) (λ z. let w = z.0 in inl cc) o);
  })
  by_order e (Ok outcome.Known) b' q x = unchanged (order e) b' (λ y _ a. let z : ◌≡◌ {A = ℕ} 0 1 = cc in omega arith) x.2
  by_order e (Ok outcome.Waits) b' q x = absurd x
  by_order e (Ok outcome.Stale) b' q x = absurd x
  by_order e (Ok (outcome.Learned j)) b' q x = absurd x
  by_order e (Ok (outcome.Opened tt)) b' q x = absurd x
  by_order e (Err fault.Short) b' q x = absurd x
  by_order e (Err fault.Plan) b' q x = absurd x
  by_order e (Err fault.Off) b' q x = absurd x
  by_order e (Err fault.Serials) b' q x = absurd x
  by_order e (Err (fault.Frame w)) b' q x = absurd x
  by_order e (Err fault.Sender) b' q x = unchanged (order e) b' (λ y _ a. let z : ◌≡◌ {A = ℕ} 0 1 = cc in omega arith) x.1
  by_order e (Err fault.Open) b' q x = absurd x
  by_order e (Err fault.History) b' q x = absurd x
  by_order e (Err fault.Rounds) b' q x = absurd x
  by_order e (Err fault.Turn) b' q x = absurd x

  by_token : (t : Token) (r : Result (Outcome (Unit {0})) BoxFault) (b' : Box) → TokenHandled p b t r b' → Exact p b (token t) b'
  by_token t (Ok outcome.Kept) b' x = absurd x
  by_token t (Ok outcome.Known) b' x = absurd x
  by_token t (Ok outcome.Waits) b' x = unchanged (token t) b' (λ y w _. no_order t y w) x.3
  by_token t (Ok outcome.Stale) b' x = unchanged (token t) b' (λ y w _. no_order t y w) x.4
  by_token t (Ok (outcome.Learned j)) b' x = subst (Exact p b (token t)) (sym x.5) (left_exact t (logging b t.decisions None) refl)
  by_token t (Ok (outcome.Opened tt)) b' x = subst (Exact p b (token t)) (sym x.4) (left_exact t (opened p b t) refl)
  by_token t (Err fault.Short) b' x = absurd x
  by_token t (Err fault.Plan) b' x = absurd x
  by_token t (Err fault.Off) b' x = absurd x
  by_token t (Err fault.Serials) b' x = absurd x
  by_token t (Err (fault.Frame q)) b' x = absurd x
  by_token t (Err fault.Sender) b' x = unchanged (token t) b' (λ y w _. no_order t y w) x.1
  by_token t (Err fault.Open) b' x = unchanged (token t) b' (λ y w _. no_order t y w) x.2
  by_token t (Err fault.History) b' x = unchanged (token t) b' (λ y w _. no_order t y w) x.3
  by_token t (Err fault.Rounds) b' x = unchanged (token t) b' (λ y w _. no_order t y w) x.4
  by_token t (Err fault.Turn) b' x = absurd x

  exact : (c : Content) → Exact p b c (box_after p b c)
  exact (order e) = by_order e (answer p b (order e)) (box_after p b (order e)) refl (fit p b (order e))
  exact (token t) = by_token t (answer p b (token t)) (box_after p b (token t)) (fit p b (token t))

pub unordered_stay : UnorderedStay
unordered_stay = record { were = λ p i b c k. (exact p i b k c).were; are = λ p i b c k. (exact p i b k c).are }
