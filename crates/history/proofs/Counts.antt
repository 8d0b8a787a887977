-- No number stands twice in a list where each is counted at most once.
use Rattle.std.proofs.Common.{◌≡◌, ℕ, ◌+◌, ◌≤◌, false, cond, eqb, List, [], ◌∷◌, ◌++◌, refl, arith}
use Rattle.std.specs.List.{AllByRecursion}
use Rattle.std.proofs.lemmas.Bool.Decides.{nat_tests}
use Rattle.frames.specs.Contents.{has, Once, Ascend}

-- how often i stands in the list
abbrev pub count : ℕ → List ℕ → ℕ
count i [] = 0
count i (j ∷ js) = cond (eqb i j) 1 0 + count i js

pub count_append : (i : ℕ) (xs ys : List ℕ) → count i (xs ++ ys) ≡ count i xs + count i ys
count_append i [] ys = omega arith
count_append i (x ∷ xs) ys = omega (arith, count_append i xs ys)

pub has_none : (i : ℕ) (xs : List ℕ) → has i xs ≡ false → count i xs ≡ 0
has_none i [] h = refl
has_none i (x ∷ xs) h = let ih = has_none i xs in grind (arith, nat_tests)

pub none_has : (i : ℕ) (xs : List ℕ) → count i xs ≡ 0 → has i xs ≡ false
none_has i [] h = refl
none_has i (x ∷ xs) h = let ih = none_has i xs in grind (arith, nat_tests)

-- i is at most once in xs, and not there if it is in met
pub record Fewer (i : ℕ) (met xs : List ℕ) : Type 0 where
  pub most : count i xs ≤ 1
  pub apart : 1 ≤ count i met → count i xs ≡ 0

pub once_fewer : (met xs : List ℕ) → Once met xs → (i : ℕ) → Fewer i met xs
once_fewer met [] o i = record { most = omega arith; apart = λ _. refl }
once_fewer met (x ∷ xs) o i =
    let ih = once_fewer (x ∷ met) xs o.1 i in
    let most = ih.most in
    let apart = ih.apart in
    let none = has_none x met o.0 in
    record { most = grind (arith, nat_tests); apart = λ h. grind (arith, nat_tests) }

pub fewer_once : (met xs : List ℕ) → ((i : ℕ) → Fewer i met xs) → Once met xs
fewer_once met [] h = tt
fewer_once met (x ∷ xs) h =
    (none_has x met (let a = (h x).apart in let m = (h x).most in grind (arith, nat_tests)), fewer_once (x ∷ met) xs (λ i. let m = (h i).most in let a = (h i).apart in record { most = grind (arith, nat_tests); apart = λ l. grind (arith, nat_tests) }))

-- ids that ascend are not repeated
above_none : (i last : ℕ) (xs : List ℕ) → i ≤ last → Ascend last xs → count i xs ≡ 0
above_none i last [] l a = refl
above_none i last (x ∷ xs) l a = let ih = above_none i x xs (omega (arith, a.0)) a.1 in let lt = a.0 in grind (arith, nat_tests)

pub ascend_most : (i last : ℕ) (xs : List ℕ) → Ascend last xs → count i xs ≤ 1
ascend_most i last [] a = omega arith
ascend_most i last (x ∷ xs) a = let ih = ascend_most i x xs a.1 in let none = above_none x x xs (omega arith) a.1 in grind (arith, nat_tests)

-- what is in met is not in a list of which nothing is in met
pub none_in : (i : ℕ) (met xs : List ℕ) → AllByRecursion (λ j. has j met ≡ false) xs → 1 ≤ count i met → count i xs ≡ 0
none_in i met [] a h = refl
none_in i met (x ∷ xs) a h = let ih = none_in i met xs a.1 h in let none = has_none x met a.0 in grind (arith, nat_tests)
