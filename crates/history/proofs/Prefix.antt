-- Lists of which one begins the other: they agree wherever both have an element, and so do the entries of decisions in a row.
use Rattle.std.proofs.Common.{◌≡◌, ℕ, zero, suc, ◌≤◌, ◌⊎◌, List, [], ◌∷◌, ◌++◌, length, sym, refl, ap, ◌∙◌, inl, inr, append_assoc, append-nil, arith, length-append, slice_get, Some}
use Rattle.std.proofs.lemmas.List.{flat_map_more}
use Rattle.std.proofs.lemmas.List.Concat.{flat_map-append}
use Rattle.history.specs.Histories.{Begins, Agree, flat}

module _ {A : Type 0} where
  -- what stands at an index of a list with one more element is at that index of the list, or is the last
  pub at_snoc : (xs : List A) (x : A) (k : ℕ) (v : A) → slice_get (xs ++ x ∷ []) k ≡ Some v → (slice_get xs k ≡ Some v) ⊎ ((length xs ≡ k) × (x ≡ v))
  at_snoc [] x zero v e = inr (refl, cc)
  at_snoc [] x (suc k) v e = cc
  at_snoc (y ∷ xs) x zero v e = inl e
  at_snoc (y ∷ xs) x (suc k) v e = elim (at_snoc xs x k v e) [ inl h ↦ inl h | inr h ↦ inr (ap suc h.0, h.1) ]

  push : (x y : A) (xs ys : List A) → x ≡ y → Begins xs ys → Begins (x ∷ xs) (y ∷ ys)
  push x y xs ys e b = let h = b.1 in (b.0, cc)

  pub begins : (xs ys : List A) → ((k : ℕ) (v w : A) → slice_get xs k ≡ Some v → slice_get ys k ≡ Some w → v ≡ w) → Agree xs ys
  begins [] ys h = inl (ys, refl)
  begins (x ∷ xs) [] h = inr (x ∷ xs, refl)
  begins (x ∷ xs) (y ∷ ys) h =
      let e : x ≡ y = h zero x y refl refl in
      elim (begins xs ys (λ k. h (suc k))) [ inl b ↦ inl (push x y xs ys e b) | inr b ↦ inr (push y x ys xs (sym e) b) ]

  -- of two lists that agree, the shorter begins the longer
  pub shorter_begins : (xs ys : List A) → length xs ≤ length ys → Agree xs ys → Begins xs ys
  shorter_begins xs ys l (inl b) = b
  shorter_begins xs ys l (inr b) = go b.0 b.1
    where
      go : (rest : List A) → xs ≡ ys ++ rest → Begins xs ys
      go [] e = ([], sym (append-nil xs ∙ e ∙ append-nil ys))
      go (x ∷ rest) e = absurd (omega (arith, simp length-append at (ap length e)))

  pub begins_more : (xs ys zs : List A) → Begins xs ys → Begins xs (ys ++ zs)
  begins_more xs ys zs b = (b.0 ++ zs, ap (λ l. l ++ zs) b.1 ∙ append_assoc xs b.0 zs)

  -- the entries of one more decision stand at the end
  pub flat_snoc : (ds : List (List A)) (d : List A) → flat (ds ++ d ∷ []) ≡ flat ds ++ d
  flat_snoc ds d = sym (flat_map_more (λ x. x) [] ds d)

  pub flat_append : (ds es : List (List A)) → flat (ds ++ es) ≡ flat ds ++ flat es
  flat_append = flat_map-append (λ d. d)

  pub begins_flat : (ds es : List (List A)) → Begins ds es → Begins (flat ds) (flat es)
  begins_flat ds es b = (flat b.0, ap flat b.1 ∙ flat_append ds b.0)

  pub agree_flat : (ds es : List (List A)) → Agree ds es → Agree (flat ds) (flat es)
  agree_flat ds es (inl b) = inl (begins_flat ds es b)
  agree_flat ds es (inr b) = inr (begins_flat es ds b)
