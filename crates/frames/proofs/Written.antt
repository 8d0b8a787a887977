-- What is written reads back.
use Rattle.std.proofs.Common.{◌≡◌, ℕ, suc, ◌+◌, ◌*◌, ◌/◌, ◌%◌, ◌^◌, ◌<◌, ◌≤◌, false, cond, not, ◌||◌, eqb, ltb, leb, ◌≢◌, ◌⊎◌, List, [], ◌∷◌, ◌++◌, length, get_or, take, drop, Ok, sym, refl, ap, ◌∙◌, inl, inr, mod-eq_of_lt, arith, length-append}
use native.Mathlib.Nat.{div-add-mod, div-div-eq-div-mul}
use native.Mathlib.Decide.{ℕ_discrete}
use Rattle.std.specs.List.{flat_map, AllByRecursion}
use Rattle.std.proofs.lemmas.Bool.Decides.{nat_tests}
use Rattle.std.proofs.lemmas.List.{append_assoc, drop_at, take_at, append-nil, nil_from_length}
use Rattle.std.proofs.lemmas.Bool.{cond-false, le-ltb, lt-leb, ne_eqb, or_from}
use Rattle.frames.specs.declared.plan.Plan.{Plan}
use Rattle.frames.specs.declared.Entry.{Entry}
use Rattle.frames.specs.Contents.{Token, Content, Whole, LawfulEntry, LawfulDecision, LawfulToken, Ascend, Once, InRange, entry_bytes, decision_bytes, ids_of, bytes_of, token_bytes, has, Lawful, plan_byte}
use Rattle.frames.specs.Contents.Content.{order, token}
use Rattle.frames.specs.Reading.{Rest, entries_as, decisions_as, entries_in, decisions_in, entry_in, out_of_range, ended, read_as, order_as, token_as, lists_as, token_in, stamp_in, bad_round, bad_votes, bad_proposed, bad_decided}
use Rattle.frames.proofs.Steps.{through}

-- the place after so many entries, and the ids met after them
abbrev pub place_after : ℕ → List Entry → ℕ
place_after at [] = at
place_after at (e ∷ es) = place_after (at + 9) es

abbrev pub past : List ℕ → List ℕ → List ℕ
past met [] = met
past met (i ∷ is) = past (i ∷ met) is

abbrev pub after : ℕ → List ℕ → List Entry → List ℕ → Rest
after at met es rest = record { at = place_after at es; bytes = rest; met = past met (ids_of es) }

pub once_split : (met xs ys : List ℕ) → Once met (xs ++ ys) → Once met xs × Once (past met xs) ys
once_split met [] ys o = (tt, o)
once_split met (x ∷ xs) ys o = let r = once_split (x ∷ met) xs ys o.1 in ((o.0, r.0), r.1)

pub once_join : (met xs ys : List ℕ) → Once met xs → Once (past met xs) ys → Once met (xs ++ ys)
once_join met [] ys o q = q
once_join met (x ∷ xs) ys o q = (o.0, once_join (x ∷ met) xs ys o.1 q)

in_range_passes : (p : Plan) (i : ℕ) → InRange p i → out_of_range p i ≡ false
in_range_passes p i h = or_from _ _ (lt-leb _ _ h.0) (ne_eqb _ _ h.1)

pub entries_read : (p : Plan) (es : List Entry) (last at : ℕ) (met rest : List ℕ) → AllByRecursion (LawfulEntry p) es → Ascend last (ids_of es) → Once met (ids_of es) →
    entries_as p (length es) last (record { at = at; bytes = flat_map entry_bytes es ++ rest; met = met }) ≡ Ok (after at met es rest)
entries_read p [] last at met rest l a o = refl
entries_read p (e ∷ es) last at met rest l a o =
    let n8 = l.0.eight in
    let whole : (e.body ++ flat_map entry_bytes es) ++ rest ≡ e.body ++ (flat_map entry_bytes es ++ rest) = append_assoc e.body (flat_map entry_bytes es) rest in
    let len : length ((e.body ++ flat_map entry_bytes es) ++ rest) ≡ 8 + length (flat_map entry_bytes es ++ rest) = ap length whole ∙ length-append e.body _ ∙ ap (λ x. x + length (flat_map entry_bytes es ++ rest)) n8 in
    let t1 : ltb (suc (length ((e.body ++ flat_map entry_bytes es) ++ rest))) 1 ≡ false = le-ltb _ _ (omega arith) in
    let t2 = in_range_passes p e.id l.0.id_in_range in
    let t3 : (leb e.id last || has e.id met) ≡ false = or_from _ _ (lt-leb _ _ a.0) o.0 in
    let t4 : ltb (suc (length ((e.body ++ flat_map entry_bytes es) ++ rest))) 9 ≡ false = le-ltb _ _ (omega arith) in
    let d : drop 8 ((e.body ++ flat_map entry_bytes es) ++ rest) ≡ flat_map entry_bytes es ++ rest = ap (drop 8) whole ∙ drop_at e.body _ 8 n8 in
    cond-false _ _ _ t1 ∙ cond-false _ _ _ t2 ∙ cond-false _ _ _ t3 ∙ cond-false _ _ _ t4
    ∙ ap (λ z. entries_as p (length es) e.id (record { at = at + 9; bytes = z; met = e.id ∷ met })) d
    ∙ entries_read p es e.id (at + 9) (e.id ∷ met) rest l.1 a.1 o.1

pub decisions_read : (p : Plan) (ds : List (List Entry)) (at : ℕ) (met rest : List ℕ) → AllByRecursion (LawfulDecision p) ds → Once met (flat_map ids_of ds) →
    (r : Rest) × (decisions_as p (length ds) (record { at = at; bytes = flat_map decision_bytes ds ++ rest; met = met }) ≡ Ok r) × (r.bytes ≡ rest)
decisions_read p [] at met rest l o = (record { at = at; bytes = rest; met = met }, refl, refl)
decisions_read p (d ∷ ds) at met rest l o =
    let more = flat_map decision_bytes ds ++ rest in
    let whole : (flat_map entry_bytes d ++ flat_map decision_bytes ds) ++ rest ≡ flat_map entry_bytes d ++ more = append_assoc (flat_map entry_bytes d) (flat_map decision_bytes ds) rest in
    let t1 : ltb (suc (length ((flat_map entry_bytes d ++ flat_map decision_bytes ds) ++ rest))) 1 ≡ false = le-ltb _ _ (omega arith) in
    let t2 : eqb (length d) 0 ≡ false = ne_eqb _ _ (omega (arith, l.0.some)) in
    let os = once_split met (ids_of d) (flat_map ids_of ds) o in
    let first : entries_as p (length d) 0 (record { at = at + 1; bytes = (flat_map entry_bytes d ++ flat_map decision_bytes ds) ++ rest; met = met }) ≡ Ok (after (at + 1) met d more) =
    ap (λ z. entries_as p (length d) 0 (record { at = at + 1; bytes = z; met = met })) whole ∙ entries_read p d 0 (at + 1) met more l.0.entries.each l.0.entries.ascend os.0 in
    let (r, reads, left) = decisions_read p ds (place_after (at + 1) d) (past met (ids_of d)) rest l.1 os.1 in
    (r, cond-false _ _ _ t1 ∙ cond-false _ _ _ t2 ∙ through _ (decisions_as p (length ds)) _ first ∙ reads, left)

pub whole_entries : (p : Plan) (es : List Entry) → AllByRecursion (LawfulEntry p) es → AllByRecursion Whole es
whole_entries p [] l = tt
whole_entries p (e ∷ es) l =
    let most = p.most in
    let boxed = l.0.id_in_range.0 in
    (record { id_byte = omega arith; eight = l.0.eight; bytes = l.0.bytes }, whole_entries p es l.1)

pub whole_decisions : (p : Plan) (ds : List (List Entry)) → AllByRecursion (LawfulDecision p) ds → AllByRecursion (AllByRecursion Whole) ds
whole_decisions p [] l = tt
whole_decisions p (d ∷ ds) l = (whole_entries p d l.0.entries.each, whole_decisions p ds l.1)

pub joined_length : (es : List Entry) → AllByRecursion Whole es → length (flat_map entry_bytes es) ≡ 9 * length es
joined_length [] w = refl
joined_length (e ∷ es) w =
    let a = length-append e.body (flat_map entry_bytes es) in
    let h = joined_length es w.1 in
    omega (arith, w.0.eight)

pub entries-in : (es : List Entry) (rest : List ℕ) → AllByRecursion Whole es → entries_in (length es) (flat_map entry_bytes es ++ rest) ≡ es
entries-in [] rest w = refl
entries-in (e ∷ es) rest w =
    let whole : (e.body ++ flat_map entry_bytes es) ++ rest ≡ e.body ++ (flat_map entry_bytes es ++ rest) = append_assoc e.body (flat_map entry_bytes es) rest in
    let body : take 8 ((e.body ++ flat_map entry_bytes es) ++ rest) ≡ e.body = ap (take 8) whole ∙ take_at e.body _ 8 w.0.eight in
    let tail : entries_in (length es) (drop 8 ((e.body ++ flat_map entry_bytes es) ++ rest)) ≡ es =
    ap (λ z. entries_in (length es) z) (ap (drop 8) whole ∙ drop_at e.body _ 8 w.0.eight) ∙ entries-in es rest w.1 in
    λ i. record { id = e.id; body = body i } ∷ tail i

pub decisions-in : (ds : List (List Entry)) (rest : List ℕ) → AllByRecursion (AllByRecursion Whole) ds → decisions_in (length ds) (flat_map decision_bytes ds ++ rest) ≡ ds
decisions-in [] rest w = refl
decisions-in (d ∷ ds) rest w =
    let more = flat_map decision_bytes ds ++ rest in
    let whole : (flat_map entry_bytes d ++ flat_map decision_bytes ds) ++ rest ≡ flat_map entry_bytes d ++ more = append_assoc (flat_map entry_bytes d) (flat_map decision_bytes ds) rest in
    let head : entries_in (length d) ((flat_map entry_bytes d ++ flat_map decision_bytes ds) ++ rest) ≡ d =
    ap (λ z. entries_in (length d) z) whole ∙ entries-in d more w.0 in
    let tail : decisions_in (length ds) (drop (9 * length d) ((flat_map entry_bytes d ++ flat_map decision_bytes ds) ++ rest)) ≡ ds =
    ap (λ z. decisions_in (length ds) z) (ap (drop (9 * length d)) whole ∙ drop_at (flat_map entry_bytes d) more (9 * length d) (joined_length d w.0)) ∙ decisions-in ds rest w.1 in
    λ i. head i ∷ tail i

pub four : (s : ℕ) → s < 2 ^ 32 → s / 16777216 % 256 * 16777216 + s / 65536 % 256 * 65536 + s / 256 % 256 * 256 + s % 256 ≡ s
four s h =
    let e0 = div-add-mod s 256 in
    let e1 = div-add-mod (s / 256) 256 in
    let e2 = div-add-mod (s / 65536) 256 in
    let d1 = div-div-eq-div-mul s 256 256 in
    let d2 = div-div-eq-div-mul s 65536 256 in
    let top : s / 16777216 < 256 = omega arith in
    let e3 = mod-eq_of_lt top in
    omega arith

small : (s : ℕ) → s ≤ 1000000 → s < 2 ^ 32
small s h = omega arith

good_round : (p : Plan) (t : Token) → LawfulToken p t → bad_round p t.sender t.stamp ≡ false
good_round p t l =
    elim (ℕ_discrete t.stamp 0) [
      | yes e ↦ let d = l.dummy e in grind (arith, nat_tests)
      | no e ↦ let d = l.round e in grind (arith, nat_tests)
    ]

good_votes : (p : Plan) (t : Token) → LawfulToken p t → bad_votes p t.stamp t.votes ≡ false
good_votes p t l =
    elim (ℕ_discrete t.stamp 0) [
      | yes e ↦ let d = l.dummy e in grind (arith, nat_tests)
      | no e ↦ let d = l.round e in grind (arith, nat_tests)
    ]

good_proposed : (p : Plan) (t : Token) → LawfulToken p t → bad_proposed t.stamp t.votes (length t.proposal) ≡ false
good_proposed p t l =
    elim (ℕ_discrete t.stamp 0) [
      | yes e ↦ let d = ap length (l.dummy e).no_proposal in grind (arith, nat_tests)
      | no e ↦
          elim (ℕ_discrete (length t.proposal) 0) [
            | yes z ↦ let d = (l.round e).one_vote (nil_from_length t.proposal z) in grind (arith, nat_tests)
            | no z ↦ grind (arith, nat_tests)
          ]
    ]

good_decided : (p : Plan) (t : Token) → LawfulToken p t → bad_decided t.stamp (length t.decisions) ≡ false
good_decided p t l =
    elim (ℕ_discrete t.stamp 0) [
      | yes e ↦ let d = ap length (l.dummy e).no_decisions in grind (arith, nat_tests)
      | no e ↦ grind (arith, nat_tests)
    ]

pub token-in : (p : Plan) (t : Token) → t.stamp < 2 ^ 32 → AllByRecursion Whole t.proposal → AllByRecursion (AllByRecursion Whole) t.decisions → token_in (token_bytes p t) ≡ t
token-in p t h w v =
    let stamp = four t.stamp h in
    let es = flat_map entry_bytes t.proposal in
    let ds = flat_map decision_bytes t.decisions in
    let proposal = entries-in t.proposal ds w in
    let d : drop (9 * length t.proposal) (es ++ ds) ≡ ds = drop_at es ds _ (joined_length t.proposal w) in
    let decisions : decisions_in (length t.decisions) (drop (9 * length t.proposal) (es ++ ds)) ≡ t.decisions =
    ap (λ z. decisions_in (length t.decisions) z) (d ∙ sym (append-nil ds)) ∙ decisions-in t.decisions [] v in
    λ i. record { sender = t.sender; stamp = stamp i; votes = t.votes; proposal = proposal i; decisions = decisions i }

lists_read : (p : Plan) (t : Token) → LawfulToken p t → lists_as p (token_bytes p t) ≡ Ok (token t)
lists_read p t l =
    let ds = flat_map decision_bytes t.decisions in
    let os = once_split [] (ids_of t.proposal) (flat_map ids_of t.decisions) l.no_id_twice in
    let first = entries_read p t.proposal 0 10 [] ds l.proposal_lawful.each l.proposal_lawful.ascend os.0 in
    let (r, reads, left) = decisions_read p t.decisions (place_after 10 t.proposal) (past [] (ids_of t.proposal)) [] l.decisions_lawful os.1 in
    let second : decisions_as p (length t.decisions) (after 10 [] t.proposal ds) ≡ Ok r =
    ap (λ z. decisions_as p (length t.decisions) (after 10 [] t.proposal z)) (sym (append-nil ds)) ∙ reads in
    let both = through _ (decisions_as p (length t.decisions)) _ first ∙ second in
    let none : ltb 0 (length r.bytes) ≡ false = le-ltb _ _ (omega (arith, ap length left)) in
    through _ (ended (token (token_in (token_bytes p t)))) _ both ∙ cond-false _ _ _ none ∙ ap (λ z. Ok (token z)) (token-in p t (small t.stamp l.stamp_fits) (whole_entries p t.proposal l.proposal_lawful.each) (whole_decisions p t.decisions l.decisions_lawful))

-- a head that passes its tests
pub record GoodHead (p : Plan) (bs : List ℕ) : Type 0 where
  pub long : 10 ≤ length bs
  pub sender_good : leb p.n (get_or bs 2 0) ≡ false
  pub round_good : bad_round p (get_or bs 2 0) (stamp_in bs) ≡ false
  pub votes_good : bad_votes p (stamp_in bs) (get_or bs 7 0) ≡ false
  pub proposed_good : bad_proposed (stamp_in bs) (get_or bs 7 0) (get_or bs 8 0) ≡ false
  pub decided_good : bad_decided (stamp_in bs) (get_or bs 9 0) ≡ false

past_head : (p : Plan) (bs : List ℕ) → GoodHead p bs → token_as p bs ≡ lists_as p bs
past_head p bs h =
    cond-false _ _ _ (le-ltb (length bs) 3 (omega arith)) ∙ cond-false _ _ _ h.sender_good
    ∙ cond-false _ _ _ (le-ltb (length bs) 7 (omega arith)) ∙ cond-false _ _ _ h.round_good
    ∙ cond-false _ _ _ (le-ltb (length bs) 8 (omega arith)) ∙ cond-false _ _ _ h.votes_good
    ∙ cond-false _ _ _ (le-ltb (length bs) 9 (omega arith)) ∙ cond-false _ _ _ h.proposed_good
    ∙ cond-false _ _ _ (le-ltb (length bs) 10 (omega arith)) ∙ cond-false _ _ _ h.decided_good

pub by_kind : (p : Plan) (bs : List ℕ) → 2 ≤ length bs → get_or bs 1 0 ≡ plan_byte p → (k : ℕ) → (k ≡ 1) ⊎ (k ≡ 2) → get_or bs 0 0 ≡ k → read_as p bs ≡ cond (eqb k 1) (order_as p bs) (token_as p bs)
by_kind p bs h e k o q =
    let kind : not (eqb (get_or bs 0 0) 1 || eqb (get_or bs 0 0) 2) ≡ false = grind (arith, nat_tests) in
    let plan : not (eqb (get_or bs 1 0) (plan_byte p)) ≡ false = grind (arith, nat_tests) in
    cond-false _ _ _ (le-ltb (length bs) 1 (omega arith)) ∙ cond-false _ _ _ kind ∙ cond-false _ _ _ (le-ltb (length bs) 2 (omega arith)) ∙ cond-false _ _ _ plan
    ∙ ap (λ z. cond (eqb z 1) (order_as p bs) (token_as p bs)) q

order_read : (p : Plan) (e : Entry) → LawfulEntry p e → order_as p (bytes_of p (order e)) ≡ Ok (order e)
order_read p e l =
    let whole = append-nil e.body in
    let first : entries_as p 1 0 (record { at = 2; bytes = e.id ∷ e.body; met = [] }) ≡ Ok (after 2 [] (e ∷ []) []) =
    ap (λ z. entries_as p 1 0 (record { at = 2; bytes = e.id ∷ z; met = [] })) (sym (append-nil (e.body ++ []) ∙ whole))
    ∙ entries_read p (e ∷ []) 0 2 [] [] (l, tt) (positive e.id l.id_in_range.1, tt) (refl, tt) in
    let body : take 8 e.body ≡ e.body = ap (take 8) (sym whole) ∙ take_at e.body [] 8 l.eight in
    through _ (ended (order (entry_in (e.id ∷ e.body)))) _ first ∙ ap (λ z. Ok (order (record { id = e.id; body = z }))) body
  where
    positive : (i : ℕ) → i % 16 ≢ 0 → 0 < i
    positive i h = omega arith

pub written : (p : Plan) (c : Content) → Lawful p c → read_as p (bytes_of p c) ≡ Ok c
written p (order e) l = by_kind p (bytes_of p (order e)) (omega arith) refl 1 (inl refl) refl ∙ order_read p e l
written p (token t) l =
    let bs = token_bytes p t in
    let stamp : stamp_in bs ≡ t.stamp = four t.stamp (small t.stamp l.stamp_fits) in
    let head : GoodHead p bs = record {
      long = omega arith;
      sender_good = lt-leb _ _ l.sender_fits;
      round_good = ap (λ s. bad_round p t.sender s) stamp ∙ good_round p t l;
      votes_good = ap (λ s. bad_votes p s t.votes) stamp ∙ good_votes p t l;
      proposed_good = ap (λ s. bad_proposed s t.votes (length t.proposal)) stamp ∙ good_proposed p t l;
      decided_good = ap (λ s. bad_decided s (length t.decisions)) stamp ∙ good_decided p t l;
    } in
    by_kind p bs (omega arith) refl 2 (inr refl) refl ∙ past_head p bs head ∙ lists_read p t l
