-- What stands at the front of a list.
use Rattle.std.proofs.Common.{◌≡◌, ◌≤◌, Bool, ◌&&◌, List, [], ◌∷◌, length, drop, Decides, refl, ap, ◌∙◌, arith}
use Rattle.std.specs.List.{list_all, starts_with, zip}
use Rattle.std.proofs.lemmas.Slice.Eq.{starts_is}
use Rattle.history.specs.Histories.{Begins}

-- the test of a front decides, where the test of the elements decides
pub front_decided : {X : Type 0} {E : X → X → Bool} → ((a b : X) → Decides (E a b) (a ≡ b)) → (xs ys : List X) (r : Bool) → r ≡ starts_with E ys xs → Decides r (Begins xs ys)
front_decided exact xs ys r is =
    let told = starts_is exact ys xs r is in
    (λ e. (drop (length xs) ys, told.0 e), λ b. told.1 b.0 b.1)

-- pair by pair, the elements of two lists tell whether the shorter stands at the front of the other
pairs_tell : {X : Type 0} (E : X → X → Bool) (xs ys : List X) → length xs ≤ length ys → list_all (λ (p : X × X). E p.0 p.1) (zip xs ys) ≡ starts_with E ys xs
pairs_tell E [] ys h = refl
pairs_tell E (x ∷ xs) [] h = absurd (omega (arith, h))
pairs_tell E (x ∷ xs) (y ∷ ys) h = ap (λ b. E x y && b) (pairs_tell E xs ys (omega (arith, h)))

pub pairs_decided : {X : Type 0} {E : X → X → Bool} → ((a b : X) → Decides (E a b) (a ≡ b)) → (xs ys : List X) → length xs ≤ length ys →
    (r : Bool) → r ≡ list_all (λ (p : X × X). E p.0 p.1) (zip xs ys) → Decides r (Begins xs ys)
pairs_decided {E = E} exact xs ys h r is = front_decided exact xs ys r (is ∙ pairs_tell E xs ys h)
