-- Entries cut into decisions, and put together again.
use Rattle.std.proofs.Common.{◌≡◌, ℕ, zero, suc, ◌+◌, ◌-◌, ◌<◌, ◌≤◌, List, [], ◌∷◌, ◌++◌, map, length, get_or, take, drop, Some, sum, sym, refl, ap, ◌∙◌, ap₂, arith}
use Rattle.std.specs.List.{between, flat_map, slice_get}
use Rattle.std.proofs.lemmas.List.{append_assoc, map-append, nil_from_length, take-append-le, drop-append-le, length-drop, length-take-le, take-append-drop, drop-drop}
use Rattle.std.proofs.lemmas.List.Sums.{sum_by-cons, sum_by_more}
use Rattle.frames.specs.declared.Entry.{Entry}
use Rattle.history.specs.Histories.{Begins}
use Rattle.frames.specs.Contents.{parted}

sum_cons : (c : ℕ) (cs : List ℕ) → sum (c ∷ cs) ≡ c + sum cs
sum_cons c cs = sum_by-cons (λ x. x) c cs

-- the lengths of what is left, past the first part
rest_long : (c : ℕ) (cs : List ℕ) (xs : List Entry) → sum (c ∷ cs) ≡ length xs → sum cs ≡ length (drop c xs)
rest_long c cs xs e = omega (arith, sum_cons c cs, length-drop c xs)

first_fits : (c : ℕ) (cs : List ℕ) (xs : List Entry) → sum (c ∷ cs) ≡ length xs → c ≤ length xs
first_fits c cs xs e = omega (arith, sum_cons c cs)

pub parted_append : (cs ds : List ℕ) (xs ys : List Entry) → sum cs ≡ length xs → parted (cs ++ ds) (xs ++ ys) ≡ parted cs xs ++ parted ds ys
parted_append [] ds xs ys e = ap (λ l. parted ds (l ++ ys)) (nil_from_length xs (sym e))
parted_append (c ∷ cs) ds xs ys e =
    let h = first_fits c cs xs e in
    ap₂ (λ (a : List Entry) (b : List (List Entry)). a ∷ b) (take-append-le c xs ys h)
    (ap (parted (cs ++ ds)) (drop-append-le c xs ys h) ∙ parted_append cs ds (drop c xs) ys (rest_long c cs xs e))

pub parted_lengths : (cs : List ℕ) (xs : List Entry) → sum cs ≡ length xs → map length (parted cs xs) ≡ cs
parted_lengths [] xs e = refl
parted_lengths (c ∷ cs) xs e =
    ap₂ (λ (a : ℕ) (b : List ℕ). a ∷ b) (length-take-le c xs (first_fits c cs xs e)) (parted_lengths cs (drop c xs) (rest_long c cs xs e))

-- what goes through lists piece by piece gives of the parts what it gives of the whole
module _ {X : Type 0} (f : List Entry → List X) (none : f [] ≡ []) (split : (xs ys : List Entry) → f (xs ++ ys) ≡ f xs ++ f ys) where
  pub parted_joined : (cs : List ℕ) (xs : List Entry) → sum cs ≡ length xs → flat_map f (parted cs xs) ≡ f xs
  parted_joined [] xs e = sym none ∙ ap f (sym (nil_from_length xs (sym e)))
  parted_joined (c ∷ cs) xs e =
      ap (λ l. f (take c xs) ++ l) (parted_joined cs (drop c xs) (rest_long c cs xs e)) ∙ sym (split (take c xs) (drop c xs)) ∙ ap f (take-append-drop c xs)

pub parted_flat : (cs : List ℕ) (xs : List Entry) → sum cs ≡ length xs → flat_map (λ x. x) (parted cs xs) ≡ xs
parted_flat = parted_joined (λ x. x) refl (λ xs ys. refl)

joined_append : {X Y : Type 0} (f : X → List Y) (xs ys : List X) → flat_map f (xs ++ ys) ≡ flat_map f xs ++ flat_map f ys
joined_append f [] ys = refl
joined_append f (x ∷ xs) ys = ap (λ l. f x ++ l) (joined_append f xs ys) ∙ sym (append_assoc (f x) (flat_map f xs) (flat_map f ys))

-- one log begins another just where its lengths and its entries do
module _ (cs ds : List ℕ) (xs ys : List Entry) (a : sum cs ≡ length xs) (b : sum ds ≡ length ys) where
  pub begins_parts : Begins (parted cs xs) (parted ds ys) → Begins cs ds × Begins xs ys
  begins_parts (rest, e) = (
    (map length rest, sym (parted_lengths ds ys b) ∙ ap (map length) e ∙ map-append length (parted cs xs) rest ∙ ap (λ l. l ++ map length rest) (parted_lengths cs xs a)),
    (flat_map (λ x. x) rest, sym (parted_flat ds ys b) ∙ ap (flat_map (λ x. x)) e ∙ joined_append (λ x. x) (parted cs xs) rest ∙ ap (λ l. l ++ flat_map (λ x. x) rest) (parted_flat cs xs a)),
  )

  pub begins_whole : Begins cs ds → Begins xs ys → Begins (parted cs xs) (parted ds ys)
  begins_whole (ms, p) (zs, q) = (parted ms zs, ap₂ parted p q ∙ parted_append cs ms xs zs a)

-- where decision k stands
at_parted : (cs : List ℕ) (xs : List Entry) (k : ℕ) → k < length cs → slice_get (parted cs xs) k ≡ Some (take (get_or cs k 0) (drop (sum (take k cs)) xs))
at_parted [] xs k h = absurd (omega arith)
at_parted (c ∷ cs) xs zero h = refl
at_parted (c ∷ cs) xs (suc k) h =
    at_parted cs (drop c xs) k (omega arith) ∙ ap (λ l. Some (take (get_or cs k 0) l)) (drop-drop (sum (take k cs)) c xs ∙ ap (λ n. drop n xs) (sym (sum_cons c (take k cs))))

pub nth_parted : (cs : List ℕ) (xs : List Entry) (k : ℕ) → k < length cs →
    slice_get (parted cs xs) k ≡ Some (between (sum (take k cs)) (sum (take (k + 1) cs)) xs)
nth_parted cs xs k h =
    let long : sum (take (k + 1) cs) - sum (take k cs) ≡ get_or cs k 0 = omega (arith, sum_by_more (λ x. x) cs k 0 h) in
    at_parted cs xs k h ∙ ap (λ n. Some (take n (drop (sum (take k cs)) xs))) (sym long)

pub length_parted : (cs : List ℕ) (xs : List Entry) → length (parted cs xs) ≡ length cs
length_parted [] xs = refl
length_parted (c ∷ cs) xs = ap suc (length_parted cs (drop c xs))
