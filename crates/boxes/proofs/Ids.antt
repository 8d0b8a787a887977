-- Ids of entries: ascending, once, apart; what is left of a list, and what is inserted.
use Rattle.std.proofs.Common.{◌≡◌, ℕ, ◌+◌, ◌%◌, ◌<◌, ◌≤◌, false, not, eqb, ltb, ◌≢◌, List, [], ◌∷◌, ◌++◌, sym, refl, ap, ◌∙◌, arith}
use Rattle.std.proofs.Math.Nat.{zero-mod}
use Rattle.std.specs.List.{AllByRecursion}
use Rattle.std.proofs.lemmas.List.{flat_map_more}
use Rattle.std.proofs.ByRecursion.{all_kept_by}
use Rattle.std.proofs.lemmas.Bool.Decides.{nat_tests}
use Rattle.std.proofs.lemmas.Bool.{ltb-true, ltb-false, or_parts, eqb-false, cond_both, not-true, not_from_false, cond-true}
use Rattle.frames.specs.declared.plan.Plan.{Plan}
use Rattle.frames.specs.declared.Entry.{Entry}
use Rattle.frames.specs.Contents.{has, ids_of, Ascend, Once, LawfulEntry, LawfulList, LawfulToken}
use Rattle.history.proofs.Counts.{count, count_append, none_has, once_fewer, fewer_once, ascend_most, none_in}
use Rattle.boxes.specs.Boxes.{log_ids, Lists, listed}
use Rattle.boxes.specs.Turns.{left, inserted}
use Rattle.boxes.specs.Laws.{ListsAsToken}

module _ {X : Type 0} (P : X → Type 0) where
  pub all_front : (xs ys : List X) → AllByRecursion P (xs ++ ys) → AllByRecursion P xs
  all_front [] ys a = tt
  all_front (x ∷ xs) ys a = (a.0, all_front xs ys a.1)

  pub all_back : (xs ys : List X) → AllByRecursion P (xs ++ ys) → AllByRecursion P ys
  all_back [] ys a = a
  all_back (x ∷ xs) ys a = all_back xs ys a.1

-- the ids of one more decision stand at the end
pub ids_more : (log : List (List Entry)) (d : List Entry) → log_ids (log ++ d ∷ []) ≡ log_ids log ++ ids_of d
ids_more log d = sym (flat_map_more ids_of [] log d)

-- what is left of a list

pub ids_left : (P : ℕ → Type 0) (log : List (List Entry)) (xs : List Entry) → AllByRecursion P (ids_of xs) → AllByRecursion P (ids_of (left log xs))
ids_left P log [] a = tt
ids_left P log (x ∷ xs) a = cond_both (not (has x.id (log_ids log))) (x ∷ left log xs) (left log xs) (λ l. AllByRecursion P (ids_of l)) (λ _. (a.0, ids_left P log xs a.1)) (λ _. ids_left P log xs a.1)

pub ascend_weaker : (l m : ℕ) (is : List ℕ) → l ≤ m → Ascend m is → Ascend l is
ascend_weaker l m [] h a = tt
ascend_weaker l m (i ∷ is) h a = (omega (arith, a.0), a.1)

ascend_left : (last : ℕ) (log : List (List Entry)) (xs : List Entry) → Ascend last (ids_of xs) → Ascend last (ids_of (left log xs))
ascend_left last log [] a = tt
ascend_left last log (x ∷ xs) a =
    cond_both (not (has x.id (log_ids log))) (x ∷ left log xs) (left log xs) (λ l. Ascend last (ids_of l))
    (λ _. (a.0, ascend_left x.id log xs a.1))
    (λ _. ascend_weaker last x.id (ids_of (left log xs)) (omega (arith, a.0)) (ascend_left x.id log xs a.1))

pub apart_left : (log : List (List Entry)) (xs : List Entry) → AllByRecursion (λ i. has i (log_ids log) ≡ false) (ids_of (left log xs))
apart_left log [] = tt
apart_left log (x ∷ xs) =
    cond_both (not (has x.id (log_ids log))) (x ∷ left log xs) (left log xs) (λ l. AllByRecursion (λ i. has i (log_ids log) ≡ false) (ids_of l))
    (λ e. (not-true (has x.id (log_ids log)) e, apart_left log xs))
    (λ _. apart_left log xs)

pub lawful_left : (p : Plan) (log : List (List Entry)) (xs : List Entry) → LawfulList p xs → LawfulList p (left log xs)
lawful_left p log xs l = record { each = all_kept_by (λ (e : Entry). not (has e.id (log_ids log))) (LawfulEntry p) xs l.each; ascend = ascend_left 0 log xs l.ascend }

-- entries that are not in the log are all left
pub left_all : (log : List (List Entry)) (xs : List Entry) → AllByRecursion (λ i. has i (log_ids log) ≡ false) (ids_of xs) → left log xs ≡ xs
left_all log [] a = refl
left_all log (x ∷ xs) a = cond-true (not (has x.id (log_ids log))) (x ∷ left log xs) (left log xs) (not_from_false _ a.0) ∙ ap (λ l. x ∷ l) (left_all log xs a.1)

-- an entry is inserted

pub all_inserted : (P : Entry → Type 0) (e : Entry) (xs : List Entry) → P e → AllByRecursion P xs → AllByRecursion P (inserted e xs)
all_inserted P e [] pe a = (pe, tt)
all_inserted P e (x ∷ xs) pe a = cond_both (ltb e.id x.id) (e ∷ x ∷ xs) (x ∷ inserted e xs) (AllByRecursion P) (λ _. (pe, a)) (λ _. (a.0, all_inserted P e xs pe a.1))

pub ids_inserted : (P : ℕ → Type 0) (e : Entry) (xs : List Entry) → P e.id → AllByRecursion P (ids_of xs) → AllByRecursion P (ids_of (inserted e xs))
ids_inserted P e [] pe a = (pe, tt)
ids_inserted P e (x ∷ xs) pe a = cond_both (ltb e.id x.id) (e ∷ x ∷ xs) (x ∷ inserted e xs) (λ l. AllByRecursion P (ids_of l)) (λ _. (pe, a)) (λ _. (a.0, ids_inserted P e xs pe a.1))

ascend_inserted : (last : ℕ) (e : Entry) (xs : List Entry) → last < e.id → has e.id (ids_of xs) ≡ false → Ascend last (ids_of xs) → Ascend last (ids_of (inserted e xs))
ascend_inserted last e [] l h a = (l, tt)
ascend_inserted last e (x ∷ xs) l h a =
    let n = or_parts (eqb e.id x.id) (has e.id (ids_of xs)) h in
    cond_both (ltb e.id x.id) (e ∷ x ∷ xs) (x ∷ inserted e xs) (λ ys. Ascend last (ids_of ys))
    (λ q. (l, (ltb-true e.id x.id q, a.1)))
    (λ q. (a.0, ascend_inserted x.id e xs (omega (arith, ltb-false e.id x.id q, eqb-false e.id x.id n.0)) n.1 a.1))

-- the serial of an id is not 0, so the id is not
pub above_none : (p : Plan) (e : Entry) → LawfulEntry p e → 0 < e.id
above_none p e l = positive e.id l.id_in_range.1
  where
    positive : (i : ℕ) → i % 16 ≢ 0 → 0 < i
    positive i h = omega arith

pub lawful_inserted : (p : Plan) (e : Entry) (xs : List Entry) → LawfulEntry p e → has e.id (ids_of xs) ≡ false → LawfulList p xs → LawfulList p (inserted e xs)
lawful_inserted p e xs l h a = record { each = all_inserted (LawfulEntry p) e xs l a.each; ascend = ascend_inserted 0 e xs (above_none p e l) h a.ascend }

-- no id twice

-- ascending ids beside ids that stand once, none in both
pub once_beside : (xs ys : List ℕ) → Ascend 0 xs → AllByRecursion (λ i. has i ys ≡ false) xs → Once [] ys → Once [] (xs ++ ys)
once_beside xs ys a ap' o =
    fewer_once [] (xs ++ ys) (λ i.
    let m = (once_fewer [] ys o i).most in
    let n = ascend_most i 0 xs a in
    let z = none_in i ys xs ap' in
    record { most = let s = count_append i xs ys in grind arith; apart = λ l. absurd (omega arith) })

pub once_back : (xs ys : List ℕ) → Once [] (xs ++ ys) → Once [] ys
once_back xs ys o =
    fewer_once [] ys (λ i. let m = (once_fewer [] (xs ++ ys) o i).most in let s = count_append i xs ys in record { most = omega arith; apart = λ l. absurd (omega arith) })

pub once_swap : (xs ys : List ℕ) → Once [] (xs ++ ys) → Once [] (ys ++ xs)
once_swap xs ys o =
    fewer_once [] (ys ++ xs) (λ i. let m = (once_fewer [] (xs ++ ys) o i).most in let s = count_append i xs ys in let r = count_append i ys xs in record { most = omega arith; apart = λ l. absurd (omega arith) })

fewer_apart : (xs ys : List ℕ) → ((i : ℕ) → count i xs + count i ys ≤ 1) → AllByRecursion (λ i. has i ys ≡ false) xs
fewer_apart [] ys h = tt
fewer_apart (x ∷ xs) ys h = (none_has x ys (let m = h x in grind (arith, nat_tests)), fewer_apart xs ys (λ i. let m = h i in grind (arith, nat_tests)))

pub once_apart : (xs ys : List ℕ) → Once [] (xs ++ ys) → AllByRecursion (λ i. has i ys ≡ false) xs
once_apart xs ys o = fewer_apart xs ys (λ i. let m = (once_fewer [] (xs ++ ys) o i).most in let s = count_append i xs ys in omega arith)

-- a record's lists as a token

there : (p : Plan) (unordered : List Entry) (log : List (List Entry)) → Lists p unordered log → LawfulToken p (listed unordered log)
there p unordered log l = record {
  sender_fits = omega (arith, p.least);
  stamp_fits = omega arith;
  dummy = λ z. absurd (omega arith);
  round = λ _. record { in_turn = zero-mod p.n; voted = omega arith; votes_fit = p.some; one_vote = λ _. refl };
  proposal_lawful = l.entries;
  decisions_lawful = l.decisions;
  no_id_twice = once_beside (ids_of unordered) (log_ids log) l.entries.ascend l.apart l.once;
}

back : (p : Plan) (unordered : List Entry) (log : List (List Entry)) → LawfulToken p (listed unordered log) → Lists p unordered log
back p unordered log l = record {
  entries = l.proposal_lawful;
  apart = once_apart (ids_of unordered) (log_ids log) l.no_id_twice;
  decisions = l.decisions_lawful;
  once = once_back (ids_of unordered) (log_ids log) l.no_id_twice;
}

pub lists_as_token : ListsAsToken
lists_as_token = record { there = there; back = back }
