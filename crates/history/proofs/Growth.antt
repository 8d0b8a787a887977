-- A lawful history stays lawful as a token is added that comes about from it, whatever the stamps above it hold.
use Rattle.std.proofs.Common.{◌≡◌, ℕ, ◌+◌, ◌-◌, ◌%◌, ◌≤◌, ◌⊎◌, [], ◌∷◌, refl, ap, ◌∙◌, inl, inr, arith}
use Rattle.history.specs.Tokens.{Token, Rule, Created, Lawful}
use Rattle.history.specs.Tokens.Created.{dummy, first}
use Rattle.history.specs.Histories.{History, In, Free, empty, begun}
use Rattle.history.specs.Laws.{Grows}
use Rattle.history.proofs.Rounds.{created_up}
use Rattle.history.proofs.Listed.{older, none_in_nil, free_of, single_more}
pub use Rattle.history.proofs.Listed.{newest_or}

-- at the start there are two tokens
pub in_begun : {E : Type 0} (s : ℕ) (t : Token E) → In begun s t → ((s ≡ 1) × (t ≡ empty 1)) ⊎ ((s ≡ 0) × (t ≡ empty 0))
in_begun s t m = elim (newest_or ((0, empty 0) ∷ []) 1 s (empty 1) t m) [
  | inl e ↦ inl e
  | inr o ↦ elim (newest_or [] 0 s (empty 0) t o) [ inl e ↦ inr e | inr z ↦ absurd (none_in_nil s t z) ]
]

module _ {E : Type 0} (Fit : Rule E) where
  pub grown : (f : ℕ) (H : History E) (s : ℕ) (t : Token E) → Lawful Fit (In H) f → Created Fit (In H) f s t → Free H s → Lawful Fit (In ((s, t) ∷ H)) f
  grown f H s t law by free = record { single = single_more H s t law.single free; by_rule = by_rule }
    where
      by_rule : (x : ℕ) (w : Token E) → In ((s, t) ∷ H) x w → Created Fit (In ((s, t) ∷ H)) f x w
      by_rule x w m =
          created_up Fit Fit (In H) (In ((s, t) ∷ H)) (λ ds new h. h) (λ y z. older H s y t z) f (elim (newest_or H s x t w m) [
            | inl a ↦ rw (a.0, a.1) by
            | inr a ↦ law.by_rule x w a
          ])

  none_made : (f : ℕ) → Lawful Fit (In []) f
  none_made f = record { single = λ s t t' m m'. absurd (none_in_nil s t m); by_rule = λ s t m. absurd (none_in_nil s t m) }

  begun_lawful : (f : ℕ) → Lawful Fit (In begun) f
  begun_lawful f =
      grown f ((0, empty 0) ∷ []) 1 (empty 1)
      (grown f [] 0 (empty 0) (none_made f) (dummy refl (record { voted = refl; unproposed = refl; undecided = refl })) (none_in_nil 0))
      (first refl (record { voted = refl; unproposed = refl; undecided = refl }))
      (free_of 1 ((0, empty 0) ∷ []) refl)

  pub grows : Grows Fit
  grows = record { start = begun_lawful; more = grown }

-- the next round of a box is free where its tokens have smaller ones
pub next_free : {E : Type 0} (n i a : ℕ) (H : History E) → ((s : ℕ) (t : Token E) → In H s t → 1 ≤ s → (s - 1) % n ≡ i → s ≤ a) → a % n ≡ i → Free H (a + 1)
next_free n i a H own ring t m =
    let d : a + 1 - 1 ≡ a = omega arith in
    omega (arith, own (a + 1) t m (omega arith) (ap (λ x. x % n) d ∙ ring))
