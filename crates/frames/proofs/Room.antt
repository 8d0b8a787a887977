-- How much lawful contents can hold.
use Rattle.std.proofs.Common.{◌≡◌, ℕ, zero, suc, ◌+◌, ◌-◌, ◌*◌, ◌/◌, ◌%◌, ◌<◌, ◌≤◌, true, cond, eqb, ltb, ◌≢◌, List, [], ◌∷◌, ◌++◌, length, sym, refl, ap, ◌∙◌, arith, length-append}
use native.Mathlib.Decide.{ℕ_discrete}
use Rattle.std.specs.List.{flat_map, AllByRecursion}
use Rattle.std.proofs.lemmas.Bool.Decides.{nat_tests}
use Rattle.std.proofs.ByRecursion.{All-append}
use Rattle.std.proofs.lemmas.Bool.{cond-true, cond-false, eq-eqb, ne_eqb, or_left, or_right, true≢false}
use Rattle.frames.specs.declared.plan.Plan.{Plan}
use Rattle.frames.specs.declared.Entry.{Entry}
use Rattle.frames.specs.Contents.{Token, Content, Whole, LawfulEntry, LawfulDecision, LawfulToken, Once, InRange, entry_bytes, decision_bytes, ids_of, bytes_of, token_bytes, has, Lawful}
use Rattle.frames.specs.Contents.Content.{order, token}
use Rattle.frames.proofs.Written.{joined_length, whole_entries}

-- how many of a list are k, and how many are below it
count : ℕ → List ℕ → ℕ
count k [] = 0
count k (x ∷ xs) = cond (eqb x k) 1 0 + count k xs

below : ℕ → List ℕ → ℕ
below k [] = 0
below k (x ∷ xs) = cond (ltb x k) 1 0 + below k xs

below_more : (k : ℕ) (xs : List ℕ) → below (suc k) xs ≡ below k xs + count k xs
unfolding below count
below_more k [] = refl
below_more k (x ∷ xs) = let h = below_more k xs in grind (arith, nat_tests)

below_none : (xs : List ℕ) → below 0 xs ≡ 0
unfolding below
below_none [] = refl
below_none (x ∷ xs) = let h = below_none xs in grind (arith, nat_tests)

below_all : (k : ℕ) (xs : List ℕ) → AllByRecursion (λ x. x < k) xs → below k xs ≡ length xs
unfolding below
below_all k [] a = refl
below_all k (x ∷ xs) a = let h = below_all k xs a.1 in let l = a.0 in grind (arith, nat_tests)

-- an id that was met comes no more
met_none : (k : ℕ) (met xs : List ℕ) → has k met ≡ true → Once met xs → count k xs ≡ 0
unfolding count
met_none k met [] h o = refl
met_none k met (x ∷ xs) h o =
    elim (ℕ_discrete x k) [
      | yes e ↦ absurd (true≢false (sym h ∙ ap (λ z. has z met) (sym e) ∙ o.0))
      | no ne ↦
          let rest = met_none k (x ∷ met) xs (or_right _ _ h) o.1 in
          let t = cond-false {A = ℕ} (eqb x k) 1 0 (ne_eqb x k ne) in
          omega arith
    ]

at_most_one : (k : ℕ) (met xs : List ℕ) → Once met xs → count k xs ≤ 1
unfolding count
at_most_one k met [] o = omega arith
at_most_one k met (x ∷ xs) o =
    elim (ℕ_discrete x k) [
      | yes e ↦
          let rest = met_none k (x ∷ met) xs (or_left _ _ (eq-eqb k x (sym e))) o.1 in
          let t = cond-true {A = ℕ} (eqb x k) 1 0 (eq-eqb x k e) in
          omega arith
      | no ne ↦
          let rest = at_most_one k (x ∷ met) xs o.1 in
          let t = cond-false {A = ℕ} (eqb x k) 1 0 (ne_eqb x k ne) in
          omega arith
    ]

none_at : (k : ℕ) (xs : List ℕ) → k % 16 ≡ 0 → AllByRecursion (λ x. x % 16 ≢ 0) xs → count k xs ≡ 0
unfolding count
none_at k [] z a = refl
none_at k (x ∷ xs) z a =
    let rest = none_at k xs z a.1 in
    let ne : x ≢ k = λ e. a.0 (ap (λ y. y % 16) e ∙ z) in
    let t = cond-false {A = ℕ} (eqb x k) 1 0 (ne_eqb x k ne) in
    omega arith

-- of the ids below k one in 16 has serial 0
below_room : (k : ℕ) (xs : List ℕ) → AllByRecursion (λ x. x % 16 ≢ 0) xs → Once [] xs → below k xs ≤ k - (k + 15) / 16
below_room zero xs a o = let h = below_none xs in omega arith
below_room (suc k) xs a o =
    let ih = below_room k xs a o in
    let m = below_more k xs in
    let one = at_most_one k [] xs o in
    elim (ℕ_discrete (k % 16) 0) [
      | yes z ↦ let none = none_at k xs z a in omega arith
      | no nz ↦ omega arith
    ]

pub room : (p : Plan) (xs : List ℕ) → AllByRecursion (InRange p) xs → Once [] xs → length xs ≤ 15 * p.n
room p xs a o =
    let r = below_room (16 * p.n) xs (serials xs a) o in
    let e = below_all (16 * p.n) xs (small xs a) in
    omega arith
  where
    serials : (xs : List ℕ) → AllByRecursion (InRange p) xs → AllByRecursion (λ x. x % 16 ≢ 0) xs
    serials [] a = tt
    serials (x ∷ xs) a = (a.0.1, serials xs a.1)

    small : (xs : List ℕ) → AllByRecursion (InRange p) xs → AllByRecursion (λ x. x < 16 * p.n) xs
    small [] a = tt
    small (x ∷ xs) a = (let h = a.0.0 in omega arith, small xs a.1)

ids_length : (es : List Entry) → length (ids_of es) ≡ length es
ids_length [] = refl
ids_length (e ∷ es) = ap suc (ids_length es)

pub entries_bytes : (es : List Entry) → AllByRecursion Whole es → AllByRecursion (λ b. b < 256) (flat_map entry_bytes es)
entries_bytes [] w = tt
entries_bytes (e ∷ es) w = All-append (λ b. b < 256) (entry_bytes e) (flat_map entry_bytes es) (w.0.id_byte, w.0.bytes) (entries_bytes es w.1)

module _ (p : Plan) where
  pub ids_in_range : (es : List Entry) → AllByRecursion (LawfulEntry p) es → AllByRecursion (InRange p) (ids_of es)
  ids_in_range [] l = tt
  ids_in_range (e ∷ es) l = (l.0.id_in_range, ids_in_range es l.1)

  pub all_ids_in_range : (ds : List (List Entry)) → AllByRecursion (LawfulDecision p) ds → AllByRecursion (InRange p) (flat_map ids_of ds)
  all_ids_in_range [] l = tt
  all_ids_in_range (d ∷ ds) l = All-append (InRange p) (ids_of d) (flat_map ids_of ds) (ids_in_range d l.0.entries.each) (all_ids_in_range ds l.1)

  decisions_length : (ds : List (List Entry)) → AllByRecursion (LawfulDecision p) ds →
      (length (flat_map decision_bytes ds) ≡ length ds + 9 * length (flat_map ids_of ds)) × (length ds ≤ length (flat_map ids_of ds))
  decisions_length [] l = (refl, omega arith)
  decisions_length (d ∷ ds) l =
      let ih = decisions_length ds l.1 in
      let a = length-append (flat_map entry_bytes d) (flat_map decision_bytes ds) in
      let b = length-append (ids_of d) (flat_map ids_of ds) in
      let e = joined_length d (whole_entries p d l.0.entries.each) in
      let n = ids_length d in
      let some = l.0.some in
      (omega arith, omega arith)

  -- fifteen entries for each box at most
  pub few_entries : (t : Token) → LawfulToken p t → length t.proposal + length (flat_map ids_of t.decisions) ≤ 15 * p.n
  few_entries t l =
      let ids = room p (ids_of t.proposal ++ flat_map ids_of t.decisions)
      (All-append (InRange p) (ids_of t.proposal) (flat_map ids_of t.decisions) (ids_in_range t.proposal l.proposal_lawful.each) (all_ids_in_range t.decisions l.decisions_lawful)) l.no_id_twice in
      let a = length-append (ids_of t.proposal) (flat_map ids_of t.decisions) in
      let n = ids_length t.proposal in
      omega arith

  module _ (hn : p.n ≤ 15) where
    decisions_bytes : (ds : List (List Entry)) → AllByRecursion (LawfulDecision p) ds → length (flat_map ids_of ds) ≤ 225 → AllByRecursion (λ b. b < 256) (flat_map decision_bytes ds)
    decisions_bytes [] l h = tt
    decisions_bytes (d ∷ ds) l h =
        let b = length-append (ids_of d) (flat_map ids_of ds) in
        let n = ids_length d in
        All-append (λ b. b < 256) (decision_bytes d) (flat_map decision_bytes ds) (omega arith, entries_bytes d (whole_entries p d l.0.entries.each)) (decisions_bytes ds l.1 (omega arith))

    token_fits : (t : Token) → p.f ≤ 15 → LawfulToken p t → AllByRecursion (λ b. b < 256) (token_bytes p t) × (length (token_bytes p t) ≤ 10 + 150 * p.n)
    token_fits t hf l =
        let es = l.proposal_lawful.each in
        let ds = l.decisions_lawful in
        let few = few_entries t l in
        let e = joined_length t.proposal (whole_entries p t.proposal es) in
        let d = decisions_length t.decisions ds in
        let b = length-append (flat_map entry_bytes t.proposal) (flat_map decision_bytes t.decisions) in
        let votes : t.votes ≤ 15 = elim (ℕ_discrete t.stamp 0) [ yes z ↦ omega (arith, (l.dummy z).no_votes) | no z ↦ omega (arith, (l.round z).votes_fit) ] in
        let s = l.stamp_fits in
        let sender = l.sender_fits in
        ((omega arith, (omega arith, (omega arith, (omega arith, (omega arith, (omega arith, (omega arith, (omega arith, (omega arith, (omega arith, All-append (λ b. b < 256) (flat_map entry_bytes t.proposal) (flat_map decision_bytes t.decisions) (entries_bytes t.proposal (whole_entries p t.proposal es)) (decisions_bytes t.decisions ds (omega arith)))))))))))), omega arith)

pub fits : (p : Plan) (c : Content) → p.n ≤ 15 → p.f ≤ 15 → Lawful p c → AllByRecursion (λ b. b < 256) (bytes_of p c) × (length (bytes_of p c) ≤ 10 + 150 * p.n)
fits p (order e) hn hf l = ((omega arith, (omega arith, (omega (arith, l.id_in_range.0), l.bytes))), let h = l.id_in_range.0 in let n = l.eight in omega arith)
fits p (token t) hn hf l = token_fits p hn t hf l
