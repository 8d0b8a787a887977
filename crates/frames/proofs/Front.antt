-- A front of a frame, and the whole.
use Rattle.std.proofs.Common.{◌≡◌, ℕ, zero, suc, ◌+◌, ◌<◌, ◌≤◌, Bool, true, false, cond, not, ◌||◌, eqb, ltb, leb, ◌⊎◌, List, [], ◌∷◌, ◌++◌, length, get_or, Ok, Err, Result, sym, refl, ap, ◌∙◌, subst, inl, inr, arith, length-append, length-drop}
use Rattle.std.proofs.lemmas.List.{drop-append-le, get_or_append_left}
use Rattle.std.proofs.lemmas.Bool.{cond-true, cond-false, le-ltb, lt-ltb, ltb-false, cond_both}
use Rattle.frames.specs.declared.Cause.{Cause}
use Rattle.frames.specs.declared.Cause.TheVariants as cause
use Rattle.frames.specs.declared.FrameFault.{FrameFault}
use Rattle.frames.specs.declared.plan.Plan.{Plan}
use Rattle.frames.specs.Contents.{Content, has, plan_byte}
use Rattle.frames.specs.Contents.Content.{token}
use Rattle.frames.specs.Reading.{Rest, entries_as, decisions_as, and_then, fault_at, out_of_range, next_byte, past_entry, past_count, ended, test, token_in, stamp_in, start_at, order_as, lists_as, token_as, read_as, bad_round, bad_votes, bad_proposed, bad_decided}
use Rattle.frames.specs.Laws.{FrontOf}

front_at : (bs more : List ℕ) (i : ℕ) → i < length bs → get_or (bs ++ more) i 0 ≡ get_or bs i 0
front_at bs more i h = get_or_append_left bs more 0 i h

-- a reading `x` of `n` bytes beside a reading `y` of more: what is read fits by G, and a fault stays unless it is the end
abbrev Along : {A : Type 0} → ℕ → (A → Result A FrameFault → Type 0) → Result A FrameFault → Result A FrameFault → Type 0
Along n G (Ok a) y = G a y
Along n G (Err e) y = (e ≡ record { place = n; cause = cause.Length }) ⊎ (y ≡ Err e)

module _ {A : Type 0} (n : ℕ) (G : A → Result A FrameFault → Type 0) where
  ends_along : (b b' : Bool) (e e' : FrameFault) (x y : Result A FrameFault) → (b ≡ true → e ≡ record { place = n; cause = cause.Length }) → (b ≡ false → b' ≡ false) →
      (b ≡ false → Along n G x y) → Along n G (cond b (Err e) x) (cond b' (Err e') y)
  ends_along true b' e e' x y h f g = inl (h refl)
  ends_along false b' e e' x y h f g = subst (λ z. Along n G x z) (sym (cond-false b' (Err e') y (f refl))) (g refl)

  -- a test whether `k` bytes are there
  short_along : (xs more : List ℕ) (k : ℕ) (e e' : FrameFault) (x y : Result A FrameFault) → e ≡ record { place = n; cause = cause.Length } → (k ≤ length xs → Along n G x y) →
      Along n G (cond (ltb (length xs) k) (Err e) x) (cond (ltb (length (xs ++ more)) k) (Err e') y)
  short_along xs more k e e' x y h g =
      let both = length-append xs more in
      ends_along (ltb (length xs) k) (ltb (length (xs ++ more)) k) e e' x y (λ _. h)
      (λ t. let l = ltb-false (length xs) k t in le-ltb (length (xs ++ more)) k (omega arith)) (λ t. g (ltb-false (length xs) k t))

  same_along : (b b' : Bool) (e : FrameFault) (x y : Result A FrameFault) → b' ≡ b → (b ≡ false → Along n G x y) → Along n G (cond b (Err e) x) (cond b' (Err e) y)
  same_along true b' e x y q g = inr (cond-true b' _ _ q)
  same_along false b' e x y q g = subst (λ z. Along n G x z) (sym (cond-false b' (Err e) y q)) (g refl)

-- more bytes behind those that are left
abbrev longer : List ℕ → Rest → Rest
longer more r = record { at = r.at; bytes = r.bytes ++ more; met = r.met }

module _ (p : Plan) (n : ℕ) (more : List ℕ) where
  abbrev Stays : Rest → Result Rest FrameFault → Type 0
  Stays s y = (y ≡ Ok (longer more s)) × (s.at + length s.bytes ≡ n)

  entries_along : (k last : ℕ) (r : Rest) → r.at + length r.bytes ≡ n → Along n Stays (entries_as p k last r) (entries_as p k last (longer more r))
  entries_along zero last r e = (refl, e)
  entries_along (suc k) last r e =
      let end : ◌≡◌ {A = FrameFault} (record { place = r.at + length r.bytes; cause = cause.Length }) (record { place = n; cause = cause.Length }) = λ i. record { place = e i; cause = cause.Length } in
      short_along n Stays r.bytes more 1 _ _ _ _ end
      (λ one. let next = front_at r.bytes more 0 one in
      same_along n Stays (out_of_range p (next_byte r)) _ _ _ _ (ap (out_of_range p) next)
      (λ _. same_along n Stays (leb (next_byte r) last || has (next_byte r) r.met) _ _ _ _ (ap (λ z. leb z last || has z r.met) next)
      (λ _. short_along n Stays r.bytes more 9 _ _ _ _ end
      (λ long. let rest = drop-append-le 9 r.bytes more long in
      let l = length-drop 9 r.bytes in
      subst (λ z. Along n Stays (entries_as p k (next_byte r) (past_entry r)) z)
      (λ i. entries_as p k (sym next i) (record { at = r.at + 9; bytes = sym rest i; met = sym next i ∷ r.met }))
      (entries_along k (next_byte r) (past_entry r) (omega arith))))))

  then_along : {B : Type 0} (G : B → Result B FrameFault → Type 0) (x y : Result Rest FrameFault) (f g : Rest → Result B FrameFault) → Along n Stays x y →
      ((s : Rest) → s.at + length s.bytes ≡ n → Along n G (f s) (g (longer more s))) → Along n G (and_then x f) (and_then y g)
  then_along G (Ok s) y f g a h = subst (λ z. Along n G (f s) (and_then z g)) (sym a.0) (h s a.1)
  then_along G (Err e) y f g (inl q) h = inl q
  then_along G (Err e) y f g (inr q) h = inr (ap (λ z. and_then z g) q)

  decisions_along : (k : ℕ) (r : Rest) → r.at + length r.bytes ≡ n → Along n Stays (decisions_as p k r) (decisions_as p k (longer more r))
  decisions_along zero r e = (refl, e)
  decisions_along (suc k) r e =
      let end : ◌≡◌ {A = FrameFault} (record { place = r.at + length r.bytes; cause = cause.Length }) (record { place = n; cause = cause.Length }) = λ i. record { place = e i; cause = cause.Length } in
      short_along n Stays r.bytes more 1 _ _ _ _ end
      (λ one. let next = front_at r.bytes more 0 one in
      same_along n Stays (eqb (next_byte r) 0) _ _ _ _ (ap (λ z. eqb z 0) next)
      (λ _. let rest = drop-append-le 1 r.bytes more one in
      let l = length-drop 1 r.bytes in
      then_along Stays _ _ (decisions_as p k) (decisions_as p k)
      (subst (λ z. Along n Stays (entries_as p (next_byte r) 0 (past_count r)) z)
      (λ i. entries_as p (sym next i) 0 (record { at = r.at + 1; bytes = sym rest i; met = r.met }))
      (entries_along (next_byte r) 0 (past_count r) (omega arith)))
      (λ s q. decisions_along k s q)))

  abbrev Surplus : Content → Result Content FrameFault → Type 0
  Surplus c y = y ≡ fault_at n cause.Length

  ended_along : 0 < length more → (c c' : Content) (s : Rest) → s.at + length s.bytes ≡ n → Along n Surplus (ended c s) (ended c' (longer more s))
  ended_along h c c' s e =
      let both = length-append s.bytes more in
      let left : ended c' (longer more s) ≡ fault_at s.at cause.Length = cond-true _ _ _ (lt-ltb 0 (length (s.bytes ++ more)) (omega arith)) in
      cond_both (ltb 0 (length s.bytes)) _ _ (λ z. Along n Surplus z (ended c' (longer more s))) (λ _. inr left)
      (λ t. let none = ltb-false 0 (length s.bytes) t in let here : s.at ≡ n = omega arith in left ∙ ap (λ z. fault_at z cause.Length) here)

module _ (p : Plan) (bs more : List ℕ) (h : 0 < length more) where
  abbrev n : ℕ
  n = length bs

  abbrev Beside : Result Content FrameFault → Result Content FrameFault → Type 0
  Beside = Along n (Surplus p n more)

  test_along : (upto : ℕ) (bad bad' : Bool) (place : ℕ) (why : Cause) (x y : Result Content FrameFault) → (upto ≤ n → bad' ≡ bad) → (upto ≤ n → Beside x y) →
      Beside (test bs upto bad place why x) (test (bs ++ more) upto bad' place why y)
  test_along upto bad bad' place why x y q g =
      short_along n (Surplus p n more) bs more upto _ _ _ _ refl (λ l. same_along n (Surplus p n more) bad bad' _ _ _ (q l) (λ _. g l))

  at : (i k : ℕ) → i < k → k ≤ n → get_or (bs ++ more) i 0 ≡ get_or bs i 0
  at i k l m = front_at bs more i (omega arith)

  start : (k : ℕ) → k ≤ n → start_at k (bs ++ more) ≡ longer more (start_at k bs)
  start k l = let rest = drop-append-le k bs more l in λ i. record { at = k; bytes = rest i; met = [] }

  order_along : 2 ≤ n → Beside (order_as p bs) (order_as p (bs ++ more))
  order_along l =
      let d = length-drop 2 bs in
      then_along p n more (Surplus p n more) _ _ _ _
      (subst (λ z. Along n (Stays p n more) (entries_as p 1 0 (start_at 2 bs)) (entries_as p 1 0 z)) (sym (start 2 l)) (entries_along p n more 1 0 (start_at 2 bs) (omega arith)))
      (λ s q. ended_along p n more h _ _ s q)

  lists_along : 10 ≤ n → Beside (lists_as p bs) (lists_as p (bs ++ more))
  lists_along l =
      let d = length-drop 10 bs in
      let proposed = at 8 10 (omega arith) l in
      let decided = at 9 10 (omega arith) l in
      let first : Along n (Stays p n more) (entries_as p (get_or bs 8 0) 0 (start_at 10 bs)) (entries_as p (get_or (bs ++ more) 8 0) 0 (start_at 10 (bs ++ more))) =
      subst (λ z. Along n (Stays p n more) (entries_as p (get_or bs 8 0) 0 (start_at 10 bs)) z) (λ i. entries_as p (sym proposed i) 0 (sym (start 10 l) i))
      (entries_along p n more (get_or bs 8 0) 0 (start_at 10 bs) (omega arith)) in
      let second = then_along p n more (Stays p n more) _ _ (decisions_as p (get_or bs 9 0)) (decisions_as p (get_or (bs ++ more) 9 0)) first
      (λ s q. subst (λ z. Along n (Stays p n more) (decisions_as p (get_or bs 9 0) s) (decisions_as p z (longer more s))) (sym decided) (decisions_along p n more (get_or bs 9 0) s q)) in
      then_along p n more (Surplus p n more) _ _ (ended (token (token_in bs))) (ended (token (token_in (bs ++ more)))) second (λ s q. ended_along p n more h _ _ s q)

  stamp_same : 7 ≤ n → stamp_in (bs ++ more) ≡ stamp_in bs
  stamp_same l =
      let a = at 3 7 (omega arith) l in
      let b = at 4 7 (omega arith) l in
      let c = at 5 7 (omega arith) l in
      let d = at 6 7 (omega arith) l in
      omega arith

  token_along : Beside (token_as p bs) (token_as p (bs ++ more))
  token_along =
      test_along 3 _ _ 2 cause.Range _ _ (λ l. ap (leb p.n) (at 2 3 (omega arith) l))
      (λ _. test_along 7 _ _ 3 cause.Range _ _ (λ l. λ i. bad_round p (at 2 7 (omega arith) l i) (stamp_same l i))
      (λ long. test_along 8 _ _ 7 cause.Range _ _ (λ l. λ i. bad_votes p (stamp_same long i) (at 7 8 (omega arith) l i))
      (λ _. test_along 9 _ _ 8 cause.Range _ _ (λ l. λ i. bad_proposed (stamp_same long i) (at 7 9 (omega arith) l i) (at 8 9 (omega arith) l i))
      (λ _. test_along 10 _ _ 9 cause.Range _ _ (λ l. λ i. bad_decided (stamp_same long i) (at 9 10 (omega arith) l i)) lists_along))))

  kind_along : 2 ≤ n → Beside (cond (eqb (get_or bs 0 0) 1) (order_as p bs) (token_as p bs)) (cond (eqb (get_or (bs ++ more) 0 0) 1) (order_as p (bs ++ more)) (token_as p (bs ++ more)))
  kind_along l =
      subst (λ z. Beside (cond (eqb (get_or bs 0 0) 1) (order_as p bs) (token_as p bs)) (cond (eqb z 1) (order_as p (bs ++ more)) (token_as p (bs ++ more)))) (sym (at 0 2 (omega arith) l))
      (pick (eqb (get_or bs 0 0) 1))
    where
      pick : (b : Bool) → Beside (cond b (order_as p bs) (token_as p bs)) (cond b (order_as p (bs ++ more)) (token_as p (bs ++ more)))
      pick true = order_along l
      pick false = token_along

  read_along : Beside (read_as p bs) (read_as p (bs ++ more))
  read_along =
      test_along 1 _ _ 0 cause.Kind _ _ (λ l. ap (λ z. not (eqb z 1 || eqb z 2)) (at 0 1 (omega arith) l))
      (λ _. test_along 2 _ _ 1 cause.Plan _ _ (λ l. ap (λ z. not (eqb z (plan_byte p))) (at 1 2 (omega arith) l)) kind_along)

told : (n : ℕ) (p : Plan) (more : List ℕ) (x y : Result Content FrameFault) → Along n (Surplus p n more) x y → FrontOf n x y
told n p more (Ok c) y a = a
told n p more (Err e) y a = a

pub front_first : (p : Plan) (bs more : List ℕ) → 0 < length more → FrontOf (length bs) (read_as p bs) (read_as p (bs ++ more))
front_first p bs more h = told (length bs) p more (read_as p bs) (read_as p (bs ++ more)) (read_along p bs more h)
