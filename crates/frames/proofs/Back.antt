-- What reads was written.
use Rattle.std.proofs.Common.{◌≡◌, ℕ, zero, suc, ◌+◌, ◌-◌, ◌*◌, ◌/◌, ◌%◌, ◌<◌, ◌≤◌, true, false, cond, not, ◌||◌, eqb, ltb, leb, ◌≢◌, ◌⊎◌, List, [], ◌∷◌, ◌++◌, length, get_or, take, drop, Ok, sym, refl, ap, ◌∙◌, subst, inl, inr, arith, length-append, length-drop, length-take}
use Rattle.std.specs.List.{flat_map, AllByRecursion}
use Rattle.std.proofs.lemmas.Bool.Decides.{nat_tests}
use Rattle.std.proofs.ByRecursion.{All-take, All-drop, All-get_or}
use Rattle.std.proofs.lemmas.List.{append_assoc, drop-drop, drop_more, take-append-drop, append-nil, nil_from_length}
use Rattle.std.proofs.lemmas.Bool.{cond-true, cond-false, ltb-false, leb-false, eqb-false, eqb-true, or_parts, cases_Bool}
use Rattle.frames.specs.declared.plan.Plan.{Plan}
use Rattle.frames.specs.Contents.{Content, LawfulEntry, LawfulDecision, LawfulToken, Ascend, Once, entry_bytes, decision_bytes, ids_of, bytes_of, token_bytes, has, Lawful, plan_byte, four_bytes}
use Rattle.frames.specs.Contents.Content.{order, token}
use Rattle.frames.specs.Reading.{Rest, entries_as, decisions_as, entries_in, decisions_in, entry_in, out_of_range, ended, read_as, order_as, token_as, lists_as, token_in, bad_round, bad_votes, bad_proposed, bad_decided, start_at, next_byte, past_entry, past_count}
use Rattle.frames.proofs.Steps.{passed, came, ten}
use Rattle.frames.proofs.Written.{past, once_join, GoodHead}

abbrev pub Bytes : List ℕ → Type 0
Bytes = AllByRecursion (λ b. b < 256)

-- so many entries were read at the front of `bs`, after `met`
pub record Entries (p : Plan) (k last at : ℕ) (bs met : List ℕ) (r : Rest) : Type 0 where
  pub front : flat_map entry_bytes (entries_in k bs) ++ r.bytes ≡ bs
  pub count : length (entries_in k bs) ≡ k
  pub long : length (flat_map entry_bytes (entries_in k bs)) ≡ 9 * k
  pub left : r.bytes ≡ drop (9 * k) bs
  pub each : Bytes bs → AllByRecursion (LawfulEntry p) (entries_in k bs)
  pub ascend : Ascend last (ids_of (entries_in k bs))
  pub once : Once met (ids_of (entries_in k bs))
  pub place : r.at ≡ at + 9 * k
  pub now_met : r.met ≡ past met (ids_of (entries_in k bs))

one_entry : (bs : List ℕ) → 9 ≤ length bs → entry_bytes (entry_in bs) ++ drop 9 bs ≡ bs
one_entry bs h =
    let d = drop_more bs 0 0 (omega arith) in
    let t = take-append-drop 8 (drop 1 bs) in
    let e = drop-drop 8 1 bs in
    cc

lawful_entry : (p : Plan) (bs : List ℕ) → 9 ≤ length bs → out_of_range p (get_or bs 0 0) ≡ false → Bytes bs → LawfulEntry p (entry_in bs)
lawful_entry p bs h t b =
    let o = or_parts _ _ t in
    record {
      id_in_range = (leb-false _ _ o.0, eqb-false _ _ o.1);
      eight = simp (length-take, length-drop) (omega arith);
      bytes = All-take _ 8 (drop 1 bs) (All-drop _ 1 bs b);
    }

pub entries : (p : Plan) (k last : ℕ) (r r' : Rest) → entries_as p k last r ≡ Ok r' → Entries p k last r.at r.bytes r.met r'
entries p zero last r r' q =
    let e : r ≡ r' = cc in
    record {
      front = ap (λ (z : Rest). z.bytes) (sym e);
      count = refl;
      long = refl;
      left = ap (λ (z : Rest). z.bytes) (sym e);
      each = λ _. tt;
      ascend = tt;
      once = tt;
      place = let a = ap (λ (z : Rest). z.at) e in omega arith;
      now_met = ap (λ (z : Rest). z.met) (sym e);
    }
entries p (suc k) last r r' q =
    let bs = r.bytes in
    let a1 = passed (ltb (length bs) 1) _ _ _ q in
    let a2 = passed (out_of_range p (next_byte r)) _ _ _ a1.1 in
    let a3 = passed (leb (next_byte r) last || has (next_byte r) r.met) _ _ _ a2.1 in
    let a4 = passed (ltb (length bs) 9) _ _ _ a3.1 in
    let long : 9 ≤ length bs = ltb-false _ _ a4.0 in
    let fresh = or_parts (leb (next_byte r) last) (has (next_byte r) r.met) a3.0 in
    let ih = entries p k (next_byte r) (past_entry r) r' a4.1 in
    let es = entries_in k (drop 9 bs) in
    let n : 9 + 9 * k ≡ 9 * suc k = omega arith in
    let eight : length (take 8 (drop 1 bs)) ≡ 8 = simp (length-take, length-drop) (omega arith) in
    let sum : length (flat_map entry_bytes es) ≡ 9 * k → suc (length (take 8 (drop 1 bs))) + length (flat_map entry_bytes es) ≡ 9 * suc k = λ h. omega arith in
    let far : r.at + 9 + 9 * k ≡ r.at + 9 * suc k = omega arith in
    record {
      front = append_assoc (entry_bytes (entry_in bs)) (flat_map entry_bytes es) r'.bytes ∙ ap (λ z. entry_bytes (entry_in bs) ++ z) ih.front ∙ one_entry bs long;
      count = ap suc ih.count;
      long = length-append (entry_bytes (entry_in bs)) (flat_map entry_bytes es) ∙ sum ih.long;
      left = ih.left ∙ drop-drop (9 * k) 9 bs ∙ ap (λ z. drop z bs) n;
      each = λ b. (lawful_entry p bs long a2.0 b, ih.each (All-drop _ 9 bs b));
      ascend = (leb-false _ _ fresh.0, ih.ascend);
      once = (fresh.1, ih.once);
      place = ih.place ∙ far;
      now_met = ih.now_met;
    }

pub record Decisions (p : Plan) (k : ℕ) (bs met : List ℕ) (r : Rest) : Type 0 where
  pub front : flat_map decision_bytes (decisions_in k bs) ++ r.bytes ≡ bs
  pub count : length (decisions_in k bs) ≡ k
  pub each : Bytes bs → AllByRecursion (LawfulDecision p) (decisions_in k bs)
  pub once : Once met (flat_map ids_of (decisions_in k bs))

pub decisions : (p : Plan) (k : ℕ) (r r' : Rest) → decisions_as p k r ≡ Ok r' → Decisions p k r.bytes r.met r'
decisions p zero r r' q =
    let e : r ≡ r' = cc in
    record { front = ap (λ (z : Rest). z.bytes) (sym e); count = refl; each = λ _. tt; once = tt }
decisions p (suc k) r r' q =
    let bs = r.bytes in
    let c = next_byte r in
    let a1 = passed _ _ _ _ q in
    let a2 = passed _ _ _ _ a1.1 in
    let m = came _ (decisions_as p k) _ a2.1 in
    let es = entries p c 0 (past_count r) m.mid m.first in
    let d = entries_in c (drop 1 bs) in
    let rest = drop (9 * c) (drop 1 bs) in
    let long : 1 ≤ length bs = ltb-false _ _ a1.0 in
    let one : bs ≡ c ∷ drop 1 bs = drop_more bs 0 0 long in
    let ih : Decisions p k rest (past r.met (ids_of d)) r' =
    subst (λ z. Decisions p k z (past r.met (ids_of d)) r') es.left
    (subst (λ z. Decisions p k m.mid.bytes z r') es.now_met (decisions p k m.mid r' m.then)) in
    let ds = decisions_in k rest in
    let some : c ≢ 0 = eqb-false _ _ a2.0 in
    record {
      front = ap (λ z. length d ∷ z) (append_assoc (flat_map entry_bytes d) (flat_map decision_bytes ds) r'.bytes ∙ ap (λ z. flat_map entry_bytes d ++ z) (ih.front ∙ sym es.left) ∙ es.front)
          ∙ ap (λ z. z ∷ drop 1 bs) es.count ∙ sym one;
      count = ap suc ih.count;
      each = λ b. (record { entries = record { each = es.each (All-drop _ 1 bs b); ascend = es.ascend }; some = omega (arith, es.count) }, ih.each (All-drop _ (9 * c) (drop 1 bs) (All-drop _ 1 bs b)));
      once = once_join r.met (ids_of d) (flat_map ids_of ds) es.once ih.once;
    }

abbrev Back : Plan → List ℕ → Content → Type 0
Back p bs c = (bytes_of p c ≡ bs) × Lawful p c

-- nothing was left over
finished : (c c' : Content) (r : Rest) → ended c r ≡ Ok c' → (r.bytes ≡ []) × (c ≡ c')
finished c c' r q =
    let a = passed _ _ _ _ q in
    let none : length r.bytes ≤ 0 = ltb-false _ _ a.0 in
    (nil_from_length r.bytes (omega arith), let e = a.1 in cc)

order_back : (p : Plan) (bs : List ℕ) (c : Content) → Bytes bs → 2 ≤ length bs → get_or bs 0 0 ≡ 1 → get_or bs 1 0 ≡ plan_byte p → order_as p bs ≡ Ok c → Back p bs c
order_back p bs c b long kind plan q =
    let m = came _ (ended (order (entry_in (drop 2 bs)))) _ q in
    let es = entries p 1 0 (start_at 2 bs) m.mid m.first in
    let f = finished _ c m.mid m.then in
    let d0 = drop_more bs 0 0 (omega arith) in
    let d1 = drop_more bs 1 0 (omega arith) in
    let none = f.0 in
    let front = es.front in
    let x = append-nil (entry_bytes (entry_in (drop 2 bs))) in
    let y = append-nil (entry_bytes (entry_in (drop 2 bs)) ++ []) in
    subst (Back p bs) f.1 (cc, (es.each (All-drop _ 2 bs b)).0)

-- the four bytes of a stamp are those that it was read from
stamp_bytes : (a b c d : ℕ) → a < 256 → b < 256 → c < 256 → d < 256 → four_bytes (a * 16777216 + b * 65536 + c * 256 + d) ≡ a ∷ b ∷ c ∷ d ∷ []
stamp_bytes a b c d ha hb hc hd =
    let s = a * 16777216 + b * 65536 + c * 256 + d in
    let e0 : s / 16777216 % 256 ≡ a = omega arith in
    let e1 : s / 65536 % 256 ≡ b = omega arith in
    let e2 : s / 256 % 256 ≡ c = omega arith in
    let e3 : s % 256 ≡ d = omega arith in
    cc

head_passed : (p : Plan) (bs : List ℕ) (c : Content) → token_as p bs ≡ Ok c → GoodHead p bs × (lists_as p bs ≡ Ok c)
head_passed p bs c q =
    let a1 = passed _ _ _ _ q in
    let a2 = passed _ _ _ _ a1.1 in
    let a3 = passed _ _ _ _ a2.1 in
    let a4 = passed _ _ _ _ a3.1 in
    let a5 = passed _ _ _ _ a4.1 in
    let a6 = passed _ _ _ _ a5.1 in
    let a7 = passed _ _ _ _ a6.1 in
    let a8 = passed _ _ _ _ a7.1 in
    let a9 = passed _ _ _ _ a8.1 in
    let a10 = passed _ _ _ _ a9.1 in (
      record {
        long = ltb-false _ _ a9.0;
        sender_good = a2.0;
        round_good = a4.0;
        votes_good = a6.0;
        proposed_good = a8.0;
        decided_good = a10.0;
      },
      a10.1,
    )

round_told : (p : Plan) (sender stamp : ℕ) → bad_round p sender stamp ≡ false → (stamp ≤ 1000000) × (stamp ≡ 0 → p.n - p.f ≤ sender) × (stamp ≢ 0 → (stamp - 1) % p.n ≡ sender)
round_told p sender stamp t = (grind (arith, nat_tests), λ e. grind (arith, nat_tests), λ e. grind (arith, nat_tests))

votes_told : (p : Plan) (stamp votes : ℕ) → bad_votes p stamp votes ≡ false → (stamp ≡ 0 → votes ≡ 0) × (stamp ≢ 0 → (1 ≤ votes) × (votes ≤ p.f))
votes_told p stamp votes t = (λ e. grind (arith, nat_tests), λ e. (grind (arith, nat_tests), grind (arith, nat_tests)))

proposed_told : (stamp votes proposed : ℕ) → bad_proposed stamp votes proposed ≡ false → (stamp ≡ 0 → proposed ≡ 0) × (stamp ≢ 0 → proposed ≡ 0 → votes ≤ 1)
proposed_told stamp votes proposed t = (λ e. grind (arith, nat_tests), λ e z. grind (arith, nat_tests))

decided_told : (stamp decided : ℕ) → bad_decided stamp decided ≡ false → stamp ≡ 0 → decided ≡ 0
decided_told stamp decided t e = grind (arith, nat_tests)

lawful_token : (p : Plan) (bs : List ℕ) (r r' : Rest) → GoodHead p bs → Bytes bs → Entries p (get_or bs 8 0) 0 10 (drop 10 bs) [] r →
    Decisions p (get_or bs 9 0) (drop (9 * get_or bs 8 0) (drop 10 bs)) (past [] (ids_of (token_in bs).proposal)) r' → LawfulToken p (token_in bs)
lawful_token p bs r r' h b es ds =
    let t = token_in bs in
    let round = round_told p t.sender t.stamp h.round_good in
    let votes = votes_told p t.stamp t.votes h.votes_good in
    let proposed = proposed_told t.stamp t.votes (get_or bs 8 0) h.proposed_good in
    let decided = decided_told t.stamp (get_or bs 9 0) h.decided_good in
    record {
      sender_fits = leb-false _ _ h.sender_good;
      stamp_fits = round.0;
      dummy = λ e. record {
        late_sender = round.1 e;
        no_votes = votes.0 e;
        no_proposal = nil_from_length t.proposal (es.count ∙ proposed.0 e);
        no_decisions = nil_from_length t.decisions (ds.count ∙ decided e);
      };
      round = λ e. record {
        in_turn = round.2 e;
        voted = (votes.1 e).0;
        votes_fit = (votes.1 e).1;
        one_vote = λ z. let v = (votes.1 e).0 in let l = proposed.1 e (sym es.count ∙ ap length z) in omega arith;
      };
      proposal_lawful = record { each = es.each (All-drop _ 10 bs b); ascend = es.ascend };
      decisions_lawful = ds.each (All-drop _ (9 * get_or bs 8 0) (drop 10 bs) (All-drop _ 10 bs b));
      no_id_twice = once_join [] (ids_of t.proposal) (flat_map ids_of t.decisions) es.once ds.once;
    }

token_back : (p : Plan) (bs : List ℕ) (c : Content) → Bytes bs → get_or bs 0 0 ≡ 2 → get_or bs 1 0 ≡ plan_byte p → token_as p bs ≡ Ok c → Back p bs c
token_back p bs c b kind plan q =
    let (head, lists_read) = head_passed p bs c q in
    let long : 10 ≤ length bs = head.long in
    let m = came _ (ended (token (token_in bs))) _ lists_read in
    let m2 = came _ (decisions_as p (get_or bs 9 0)) _ m.first in
    let f = finished _ c m.mid m.then in
    let es = entries p (get_or bs 8 0) 0 (start_at 10 bs) m2.mid m2.first in
    let t = token_in bs in
    let ds : Decisions p (get_or bs 9 0) (drop (9 * get_or bs 8 0) (drop 10 bs)) (past [] (ids_of t.proposal)) m.mid =
    subst (λ z. Decisions p (get_or bs 9 0) z (past [] (ids_of t.proposal)) m.mid) es.left
    (subst (λ z. Decisions p (get_or bs 9 0) m2.mid.bytes z m.mid) es.now_met (decisions p (get_or bs 9 0) m2.mid m.mid m2.then)) in
    let lists : flat_map entry_bytes t.proposal ++ flat_map decision_bytes t.decisions ≡ drop 10 bs =
    ap (λ z. flat_map entry_bytes t.proposal ++ z) (sym (append-nil _) ∙ ap (λ z. flat_map decision_bytes t.decisions ++ z) (sym f.0) ∙ ds.front ∙ sym es.left) ∙ es.front in
    subst (Back p bs) f.1 (whole_token p bs long b kind plan es.count ds.count lists, lawful_token p bs _ _ head b es ds)
  where
    whole_token : (p : Plan) (bs : List ℕ) → 10 ≤ length bs → Bytes bs → get_or bs 0 0 ≡ 2 → get_or bs 1 0 ≡ plan_byte p →
        length (token_in bs).proposal ≡ get_or bs 8 0 → length (token_in bs).decisions ≡ get_or bs 9 0 →
        flat_map entry_bytes (token_in bs).proposal ++ flat_map decision_bytes (token_in bs).decisions ≡ drop 10 bs → token_bytes p (token_in bs) ≡ bs
    whole_token p bs long b kind plan n k lists =
        let at : (i : ℕ) → i < 10 → get_or bs i 0 < 256 = λ i h. All-get_or _ bs i 0 (omega arith) b in
        let stamp = stamp_bytes (get_or bs 3 0) (get_or bs 4 0) (get_or bs 5 0) (get_or bs 6 0) (at 3 (omega arith)) (at 4 (omega arith)) (at 5 (omega arith)) (at 6 (omega arith)) in
        let whole = ten bs long in
        cc

pub back : (p : Plan) (bs : List ℕ) (c : Content) → Bytes bs → read_as p bs ≡ Ok c → Back p bs c
back p bs c b q =
    let a1 = passed _ _ _ _ q in
    let a2 = passed _ _ _ _ a1.1 in
    let a3 = passed _ _ _ _ a2.1 in
    let a4 = passed _ _ _ _ a3.1 in
    let long : 2 ≤ length bs = ltb-false _ _ a3.0 in
    kinds p bs c b long a2.0 a4.0 a4.1 (cases_Bool (eqb (get_or bs 0 0) 1))
  where
    kinds : (p : Plan) (bs : List ℕ) (c : Content) → Bytes bs → 2 ≤ length bs → not (eqb (get_or bs 0 0) 1 || eqb (get_or bs 0 0) 2) ≡ false → not (eqb (get_or bs 1 0) (plan_byte p)) ≡ false →
        cond (eqb (get_or bs 0 0) 1) (order_as p bs) (token_as p bs) ≡ Ok c → (eqb (get_or bs 0 0) 1 ≡ true) ⊎ (eqb (get_or bs 0 0) 1 ≡ false) → Back p bs c
    kinds p bs c b long kind plan r (inl e) =
        let one : get_or bs 1 0 ≡ plan_byte p = grind (arith, nat_tests) in
        order_back p bs c b long (eqb-true _ _ e) one (sym (cond-true _ _ _ e) ∙ r)
    kinds p bs c b long kind plan r (inr e) =
        let one : get_or bs 1 0 ≡ plan_byte p = grind (arith, nat_tests) in
        let two : get_or bs 0 0 ≡ 2 = grind (arith, nat_tests) in
        token_back p bs c b two one (sym (cond-false _ _ _ e) ∙ r)

pub one : (p : Plan) (xs ys : List ℕ) (c : Content) → Bytes xs → Bytes ys → read_as p xs ≡ Ok c → read_as p ys ≡ Ok c → xs ≡ ys
one p xs ys c bx by' qx qy = sym (back p xs c bx qx).0 ∙ (back p ys c by' qy).0
