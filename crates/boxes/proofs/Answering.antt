-- The answer as a function fits the cases, and nothing else does.
use Rattle.std.proofs.Common.{◌≡◌, ℕ, ◌+◌, ◌/◌, ◌%◌, ◌<◌, ◌≤◌, Bool, true, false, not, ◌&&◌, ◌||◌, eqb, ltb, leb, ◌≢◌, ◌⊎◌, List, [], ◌∷◌, length, Some, None, Ok, Err, Decides, Option, Result, sym, refl, ap, ◌∙◌, inl, inr, ⊎_elim, arith}
use Rattle.std.proofs.lemmas.Option.{none-some}
use Rattle.std.specs.List.{AllByRecursion}
use Rattle.std.proofs.lemmas.Bool.Decides.{Decides-eqb, Decides-and, Decides-or, Decides-not, Decides-ltb, Decides-like, not_from_Decides}
use Rattle.std.proofs.lemmas.Bool.{true≢false, false≢true, leb-true, le-leb, cases_eq}
use Rattle.frames.specs.declared.plan.Plan.{Plan}
use Rattle.frames.specs.declared.Entry.{Entry}
use Rattle.frames.specs.Contents.{Token, Content, has, ids_of}
use Rattle.frames.specs.Contents.Content.{order, token}
use Rattle.history.specs.Histories.{Begins, Agree}
use Rattle.boxes.specs.declared.Outcome.{Outcome}
use Rattle.boxes.specs.declared.Outcome.TheVariants as outcome
use Rattle.boxes.specs.declared.BoxFault.{BoxFault}
use Rattle.boxes.specs.declared.BoxFault.TheVariants as fault
use Rattle.boxes.specs.Boxes.{Turn, Box, Used, log_ids, token_ids}
use Rattle.boxes.specs.Turns.{gap}
use Rattle.boxes.specs.Handling.{same_by, begins_by, same_entry, begins_log, agrees, used, all_used, meant, expected, would_open, is_behind, is_open, more, by_rows, token_after, order_by, order_after, answer, box_after}
use Rattle.boxes.specs.Cases.{Opens, Behind, Expected, OrderHandled, TokenHandled, Handled}
use Rattle.boxes.specs.Laws.{AnswersFit}

decides_leb : (a b : ℕ) → Decides (leb a b) (a ≤ b)
decides_leb a b = (leb-true a b, le-leb a b)

module _ {X : Type 0} (eq : X → X → Bool) (d : (x y : X) → Decides (eq x y) (x ≡ y)) where
  decides_same : (xs ys : List X) → Decides (same_by eq xs ys) (xs ≡ ys)
  decides_same [] [] = (λ _. refl, λ _. refl)
  decides_same [] (y ∷ ys) = (λ e. absurd (false≢true e), λ e. let z : ◌≡◌ {A = ℕ} 0 1 = cc in absurd (omega arith))
  decides_same (x ∷ xs) [] = (λ e. absurd (false≢true e), λ e. let z : ◌≡◌ {A = ℕ} 0 1 = cc in absurd (omega arith))
  decides_same (x ∷ xs) (y ∷ ys) = Decides-like (eq x y && same_by eq xs ys) (λ (h : (x ≡ y) × (xs ≡ ys)). let a = h.0 in let b = h.1 in cc) (λ e. (cc, cc)) (Decides-and (eq x y) (same_by eq xs ys) (d x y) (decides_same xs ys))

  decides_begins : (xs ys : List X) → Decides (begins_by eq xs ys) (Begins xs ys)
  decides_begins [] ys = (λ _. (ys, refl), λ _. refl)
  decides_begins (x ∷ xs) [] = (λ e. absurd (false≢true e), λ b. let e = b.1 in let z : ◌≡◌ {A = ℕ} 0 1 = cc in absurd (omega arith))
  decides_begins (x ∷ xs) (y ∷ ys) = Decides-like (eq x y && begins_by eq xs ys) (λ (h : (x ≡ y) × Begins xs ys). let a = h.0 in let b = h.1.1 in (h.1.0, cc)) (λ b. let e = b.1 in (cc, (b.0, cc))) (Decides-and (eq x y) (begins_by eq xs ys) (d x y) (decides_begins xs ys))

entry_same : (x y : Entry) → x.id ≡ y.id → x.body ≡ y.body → x ≡ y
entry_same x y a b = λ i. record { id = a i; body = b i }

decides_entry : (x y : Entry) → Decides (same_entry x y) (x ≡ y)
decides_entry x y = Decides-like (same_entry x y) (λ (h : (x.id ≡ y.id) × (x.body ≡ y.body)). entry_same x y h.0 h.1) (λ e. (ap (λ (z : Entry). z.id) e, ap (λ (z : Entry). z.body) e)) (Decides-and (eqb x.id y.id) (same_by eqb x.body y.body) (Decides-eqb x.id y.id) (decides_same eqb Decides-eqb x.body y.body))

pub decides_log : (xs ys : List (List Entry)) → Decides (begins_log xs ys) (Begins xs ys)
decides_log = decides_begins (same_by same_entry) (decides_same same_entry decides_entry)

pub decides_agree : (xs ys : List (List Entry)) → Decides (agrees xs ys) (Agree xs ys)
decides_agree xs ys = Decides-or (begins_log xs ys) (begins_log ys xs) (decides_log xs ys) (decides_log ys xs)

decides_used : (b : Box) (i : ℕ) → Decides (used b i) (Used b i)
decides_used b i = Decides-like (used b i)
    (λ (h : (i / 16 ≡ b.seat → ⊥) ⊎ (i % 16 ≤ b.last)). λ q. ⊎_elim (λ n. absurd (n q)) (λ l. l) h)
    back
    (Decides-or (not (eqb (i / 16) b.seat)) (leb (i % 16) b.last) (Decides-not (eqb (i / 16) b.seat) (Decides-eqb (i / 16) b.seat)) (decides_leb (i % 16) b.last))
  where
    back : Used b i → (i / 16 ≡ b.seat → ⊥) ⊎ (i % 16 ≤ b.last)
    back u = elim (cases_eq (i / 16) b.seat) [ inl q ↦ inr (u q) | inr n ↦ inl n ]

pub decides_all_used : (b : Box) (is : List ℕ) → Decides (all_used b is) (AllByRecursion (Used b) is)
decides_all_used b [] = (λ _. tt, λ _. refl)
decides_all_used b (i ∷ is) = Decides-and (used b i) (all_used b is) (decides_used b i) (decides_all_used b is)

decides_expected : (p : Plan) (b : Box) (t : Token) → Decides (expected p b t) (Expected p b t)
decides_expected p b t = Decides-and (meant p b.seat t) (all_used b (token_ids t)) (λ e. e, λ e. e) (decides_all_used b (token_ids t))

-- three facts by two tests of two
decides_three : {P Q S : Type 0} (x y z : Bool) → Decides x P → Decides y Q → Decides z S → Decides (x && (y && z)) (P × Q × S)
decides_three {P} {Q} {S} x y z dx dy dz = Decides-like (x && (y && z)) (λ (h : P × (Q × S)). (h.0, h.1.0, h.1.1)) (λ h. (h.0, (h.1, h.2))) (Decides-and x (y && z) dx (Decides-and y z dy dz))

decides_opens : (p : Plan) (b : Box) (t : Token) → Decides (would_open p b t) (Opens p b t)
decides_opens p b t =
    Decides-or (eqb (gap b t) 1) (b.doubt && (leb 2 (gap b t) && leb (gap b t) (p.f + 1))) (Decides-eqb (gap b t) 1)
    (decides_three b.doubt (leb 2 (gap b t)) (leb (gap b t) (p.f + 1)) (λ e. e, λ e. e) (decides_leb 2 (gap b t)) (decides_leb (gap b t) (p.f + 1)))

decides_open : (o : Option Turn) → Decides (is_open o) (o ≢ None)
decides_open None = (λ e. absurd (false≢true e), λ n. absurd (n refl))
decides_open (Some t) = (λ _. (λ e. none-some t (sym e)), λ _. refl)

closed_is : (o : Option Turn) → is_open o ≡ false → o ≡ None
closed_is None e = refl
closed_is (Some t) e = absurd (true≢false e)

-- what holds where a test fails
pub is_false : {P : Type 0} (r : Bool) → Decides r P → (P → ⊥) → r ≡ false
is_false true d n = absurd (n (d.0 refl))
is_false false d n = refl

-- the tests of a token with what they stand for
record Tested (p : Plan) (b : Box) (t : Token) (ex tn op be ag la mo : Bool) : Type 0 where
  dx : Decides ex (Expected p b t)
  dt : Decides tn (b.turn ≢ None)
  shut : tn ≡ false → b.turn ≡ None
  dop : Decides op (Opens p b t)
  db : Decides be (Behind p b t)
  da : Decides ag (Agree b.log t.decisions)
  dl : Decides la (999999 < b.awaited)
  dm : Decides mo (length b.log < length t.decisions)

module _ (p : Plan) (b : Box) (t : Token) where
  tested : Tested p b t (expected p b t) (is_open b.turn) (would_open p b t) (is_behind p b t) (agrees b.log t.decisions) (ltb 999999 b.awaited) (ltb (length b.log) (length t.decisions))
  tested = record {
    dx = decides_expected p b t;
    dt = decides_open b.turn;
    shut = closed_is b.turn;
    dop = decides_opens p b t;
    db = Decides-ltb p.n (gap b t);
    da = decides_agree b.log t.decisions;
    dl = Decides-ltb 999999 b.awaited;
    dm = Decides-ltb (length b.log) (length t.decisions);
  }

  fits_by : (ex tn op be ag la mo : Bool) → Tested p b t ex tn op be ag la mo → TokenHandled p b t (by_rows ex tn op be ag la mo (more b t)) (token_after p b t (by_rows ex tn op be ag la mo (more b t)))
  fits_by false tn op be ag la mo d = (not_from_Decides false d.dx refl, refl)
  fits_by true true op be ag la mo d = (d.dx.0 refl, d.dt.0 refl, refl)
  fits_by true false false false ag la mo d = ((d.dx.0 refl, d.shut refl), not_from_Decides false d.dop refl, not_from_Decides false d.db refl, refl)
  fits_by true false true be false la mo d = ((d.dx.0 refl, d.shut refl), inl (d.dop.0 refl), not_from_Decides false d.da refl, refl)
  fits_by true false false true false la mo d = ((d.dx.0 refl, d.shut refl), inr (d.db.0 refl), not_from_Decides false d.da refl, refl)
  fits_by true false true be true true mo d = ((d.dx.0 refl, d.shut refl), d.dop.0 refl, d.da.0 refl, d.dl.0 refl, refl)
  fits_by true false true be true false mo d = ((d.dx.0 refl, d.shut refl), d.dop.0 refl, d.da.0 refl, omega (arith, not_from_Decides false d.dl refl), refl)
  fits_by true false false true true la true d = ((d.dx.0 refl, d.shut refl), d.db.0 refl, d.da.0 refl, d.dm.0 refl, refl, refl)
  fits_by true false false true true la false d = ((d.dx.0 refl, d.shut refl), d.db.0 refl, d.da.0 refl, omega (arith, not_from_Decides false d.dm refl), refl)

  not_both : Opens p b t → Behind p b t → ⊥
  not_both (inl e) h = omega (arith, p.least)
  not_both (inr x) h = omega (arith, x.2, p.least, p.few)

  alone_by : (ex tn op be ag la mo : Bool) → Tested p b t ex tn op be ag la mo → (r : Result (Outcome (Unit {0})) BoxFault) (b' : Box) → TokenHandled p b t r b' → (r ≡ by_rows ex tn op be ag la mo (more b t)) × (b' ≡ token_after p b t (by_rows ex tn op be ag la mo (more b t)))
  alone_by ex tn op be ag la mo d (Err fault.Sender) b' x =
      let e1 : ex ≡ false = is_false ex d.dx x.0 in
      let r : Err fault.Sender ≡ by_rows ex tn op be ag la mo (more b t) = rw e1 in
      (r, x.1 ∙ ap (token_after p b t) r)
  alone_by ex tn op be ag la mo d (Err fault.Open) b' x =
      let e1 : ex ≡ true = d.dx.1 x.0 in
      let e2 : tn ≡ true = d.dt.1 x.1 in
      let r : Err fault.Open ≡ by_rows ex tn op be ag la mo (more b t) = rw (e1, e2) in
      (r, x.2 ∙ ap (token_after p b t) r)
  alone_by ex tn op be ag la mo d (Ok outcome.Waits) b' x =
      let e1 : ex ≡ true = d.dx.1 x.0.0 in
      let e2 : tn ≡ false = is_false tn d.dt (λ n. n x.0.1) in
      let e3 : op ≡ false = is_false op d.dop x.1 in
      let e4 : be ≡ false = is_false be d.db x.2 in
      let r : Ok outcome.Waits ≡ by_rows ex tn op be ag la mo (more b t) = rw (e1, e2, e3, e4) in
      (r, x.3 ∙ ap (token_after p b t) r)
  alone_by ex tn op be ag la mo d (Err fault.History) b' x =
      let e1 : ex ≡ true = d.dx.1 x.0.0 in
      let e2 : tn ≡ false = is_false tn d.dt (λ n. n x.0.1) in
      let e3 : (op || be) ≡ true = (Decides-or op be d.dop d.db).1 x.1 in
      let e4 : ag ≡ false = is_false ag d.da x.2 in
      let r : Err fault.History ≡ by_rows ex tn op be ag la mo (more b t) = rw (e1, e2, e3, e4) in
      (r, x.3 ∙ ap (token_after p b t) r)
  alone_by ex tn op be ag la mo d (Err fault.Rounds) b' x =
      let e1 : ex ≡ true = d.dx.1 x.0.0 in
      let e2 : tn ≡ false = is_false tn d.dt (λ n. n x.0.1) in
      let e3 : op ≡ true = d.dop.1 x.1 in
      let e4 : ag ≡ true = d.da.1 x.2 in
      let e5 : la ≡ true = d.dl.1 x.3 in
      let r : Err fault.Rounds ≡ by_rows ex tn op be ag la mo (more b t) = rw (e1, e2, e3, e4, e5) in
      (r, x.4 ∙ ap (token_after p b t) r)
  alone_by ex tn op be ag la mo d (Ok (outcome.Opened tt)) b' x =
      let e1 : ex ≡ true = d.dx.1 x.0.0 in
      let e2 : tn ≡ false = is_false tn d.dt (λ n. n x.0.1) in
      let e3 : op ≡ true = d.dop.1 x.1 in
      let e4 : ag ≡ true = d.da.1 x.2 in
      let e5 : la ≡ false = is_false la d.dl (λ h. omega (arith, x.3)) in
      let r : Ok (outcome.Opened tt) ≡ by_rows ex tn op be ag la mo (more b t) = rw (e1, e2, e3, e4, e5) in
      (r, x.4 ∙ ap (token_after p b t) r)
  alone_by ex tn op be ag la mo d (Ok outcome.Stale) b' x =
      let e1 : ex ≡ true = d.dx.1 x.0.0 in
      let e2 : tn ≡ false = is_false tn d.dt (λ n. n x.0.1) in
      let e3 : op ≡ false = is_false op d.dop (λ o. not_both o x.1) in
      let e4 : be ≡ true = d.db.1 x.1 in
      let e5 : ag ≡ true = d.da.1 x.2 in
      let e6 : mo ≡ false = is_false mo d.dm (λ h. omega (arith, x.3)) in
      let r : Ok outcome.Stale ≡ by_rows ex tn op be ag la mo (more b t) = rw (e1, e2, e3, e4, e5, e6) in
      (r, x.4 ∙ ap (token_after p b t) r)
  alone_by ex tn op be ag la mo d (Ok (outcome.Learned j)) b' x =
      let e1 : ex ≡ true = d.dx.1 x.0.0 in
      let e2 : tn ≡ false = is_false tn d.dt (λ n. n x.0.1) in
      let e3 : op ≡ false = is_false op d.dop (λ o. not_both o x.1) in
      let e4 : be ≡ true = d.db.1 x.1 in
      let e5 : ag ≡ true = d.da.1 x.2 in
      let e6 : mo ≡ true = d.dm.1 x.3 in
      let r : Ok (outcome.Learned j) ≡ by_rows ex tn op be ag la mo (more b t) = rw (e1, e2, e3, e4, e5, e6) (ap (λ z. Ok (outcome.Learned z)) x.4) in
      (r, x.5 ∙ ap (token_after p b t) r)
  alone_by ex tn op be ag la mo d (Ok outcome.Kept) b' x = absurd x
  alone_by ex tn op be ag la mo d (Ok outcome.Known) b' x = absurd x
  alone_by ex tn op be ag la mo d (Err fault.Short) b' x = absurd x
  alone_by ex tn op be ag la mo d (Err fault.Plan) b' x = absurd x
  alone_by ex tn op be ag la mo d (Err fault.Off) b' x = absurd x
  alone_by ex tn op be ag la mo d (Err fault.Serials) b' x = absurd x
  alone_by ex tn op be ag la mo d (Err (fault.Frame q)) b' x = absurd x
  alone_by ex tn op be ag la mo d (Err fault.Turn) b' x = absurd x

alone_order : (b : Box) (e : Entry) (us un lo : Bool) → Decides us (Used b e.id) → has e.id (ids_of b.unordered) ≡ un → has e.id (log_ids b.log) ≡ lo → (r : Result (Outcome (Unit {0})) BoxFault) (b' : Box) → OrderHandled b e r b' → (r ≡ order_by us un lo) × (b' ≡ order_after b e (order_by us un lo))
alone_order b e us un lo d eu el (Err fault.Sender) b' x =
    let e1 : us ≡ false = is_false us d x.0 in
    let r : Err fault.Sender ≡ order_by us un lo = rw e1 in
    (r, x.1 ∙ ap (order_after b e) r)
alone_order b e us un lo d eu el (Ok outcome.Kept) b' x =
    let e1 : us ≡ true = d.1 x.0 in
    let e2 : un ≡ false = sym eu ∙ x.1 in
    let e3 : lo ≡ false = sym el ∙ x.2 in
    let r : Ok outcome.Kept ≡ order_by us un lo = rw (e1, e2, e3) in
    (r, x.3 ∙ ap (order_after b e) r)
alone_order b e us un lo d eu el (Ok outcome.Known) b' x =
    let e1 : us ≡ true = d.1 x.0 in
    let e2 : (un || lo) ≡ true = (Decides-or {P = un ≡ true} {Q = lo ≡ true} un lo (λ q. q, λ q. q) (λ q. q, λ q. q)).1 (⊎_elim (λ q. inl (sym eu ∙ q)) (λ q. inr (sym el ∙ q)) x.1) in
    let r : Ok outcome.Known ≡ order_by us un lo = rw (e1, e2) in
    (r, x.2 ∙ ap (order_after b e) r)
alone_order b e us un lo d eu el (Ok outcome.Waits) b' x = absurd x
alone_order b e us un lo d eu el (Ok outcome.Stale) b' x = absurd x
alone_order b e us un lo d eu el (Ok (outcome.Learned j)) b' x = absurd x
alone_order b e us un lo d eu el (Ok (outcome.Opened tt)) b' x = absurd x
alone_order b e us un lo d eu el (Err fault.Short) b' x = absurd x
alone_order b e us un lo d eu el (Err fault.Plan) b' x = absurd x
alone_order b e us un lo d eu el (Err fault.Off) b' x = absurd x
alone_order b e us un lo d eu el (Err fault.Serials) b' x = absurd x
alone_order b e us un lo d eu el (Err (fault.Frame q)) b' x = absurd x
alone_order b e us un lo d eu el (Err fault.Open) b' x = absurd x
alone_order b e us un lo d eu el (Err fault.History) b' x = absurd x
alone_order b e us un lo d eu el (Err fault.Rounds) b' x = absurd x
alone_order b e us un lo d eu el (Err fault.Turn) b' x = absurd x

pub fit : (p : Plan) (b : Box) (c : Content) → Handled p b c (answer p b c) (box_after p b c)
fit p b (order e) = go (used b e.id) (has e.id (ids_of b.unordered)) (has e.id (log_ids b.log)) (decides_used b e.id) refl refl
  where
    go : (us un lo : Bool) → Decides us (Used b e.id) → has e.id (ids_of b.unordered) ≡ un → has e.id (log_ids b.log) ≡ lo → OrderHandled b e (order_by us un lo) (order_after b e (order_by us un lo))
    go false un lo d eu el = (not_from_Decides false d refl, refl)
    go true true lo d eu el = (d.0 refl, inl eu, refl)
    go true false true d eu el = (d.0 refl, inr el, refl)
    go true false false d eu el = (d.0 refl, eu, el, refl)
fit p b (token t) = fits_by p b t (expected p b t) (is_open b.turn) (would_open p b t) (is_behind p b t) (agrees b.log t.decisions) (ltb 999999 b.awaited) (ltb (length b.log) (length t.decisions)) (tested p b t)

pub alone : (p : Plan) (b : Box) (c : Content) (r : Result (Outcome (Unit {0})) BoxFault) (b' : Box) → Handled p b c r b' → (r ≡ answer p b c) × (b' ≡ box_after p b c)
alone p b (order e) = alone_order b e (used b e.id) (has e.id (ids_of b.unordered)) (has e.id (log_ids b.log)) (decides_used b e.id) refl refl
alone p b (token t) = alone_by p b t (expected p b t) (is_open b.turn) (would_open p b t) (is_behind p b t) (agrees b.log t.decisions) (ltb 999999 b.awaited) (ltb (length b.log) (length t.decisions)) (tested p b t)

pub answers_fit : AnswersFit
answers_fit = record { fit = fit; alone = alone }
