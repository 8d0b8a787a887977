-- The parts of a record's rules put together.
use Rattle.std.proofs.Common.{◌≡◌, ℕ, ◌%◌, Bool, true, false, ◌&&◌, eqb, Some, None, Decides, Option, sym, ap, ◌∙◌, subst, arith}
use Rattle.std.specs.Option.{option_map}
use Rattle.std.proofs.lemmas.Bool.{eqb-true, leb-true, eq-eqb, le-leb, and_parts, and_from, true≢false}
use Rattle.frames.specs.declared.plan.Plan.{Plan}
use Rattle.frames.specs.Contents.{LawfulToken, ids_of}
use Rattle.lists.specs.Tables.{held}
use Rattle.logs.specs.Logs.{log_of}
use Rattle.boxes.specs.Boxes.{Turn, Box, Lists, log_ids, passed}
use Rattle.boxes.specs.Handling.{all_used}
use Rattle.boxes.proofs.Answering.{decides_all_used}
use Rattle.records.specs.declared.OpenTurn.{OpenTurn}
use Rattle.records.specs.declared.BoxRecord.{BoxRecord}
use Rattle.records.specs.Records.{box_of, turn_of, numbers_keep, tables_fit, TurnLawful, KeepsRules}

-- an open turn's rule is that of its token
pub with_turn : (p : Plan) (b : Box) (turn : Option OpenTurn) (t : OpenTurn) (r : Bool) → turn ≡ Some t → b.turn ≡ option_map turn_of turn → Decides r (LawfulToken p (passed b (turn_of t))) → Decides r (TurnLawful p b)
with_turn p b turn t r is has (yes', back) =
    let here : b.turn ≡ Some (turn_of t) = has ∙ ap (option_map turn_of) is in
    (λ h u q. let e : turn_of t ≡ u = cc in subst (λ z. LawfulToken p (passed b z)) e (yes' h), λ l. back (l (turn_of t) here))

pub without_turn : (p : Plan) (b : Box) (turn : Option OpenTurn) → turn ≡ None → b.turn ≡ option_map turn_of turn → TurnLawful p b
without_turn p b turn is has u q = let n : ◌≡◌ {A = ℕ} 0 1 = apart (sym (has ∙ ap (option_map turn_of) is) ∙ q) in absurd (omega arith)
  where
    apart : ◌≡◌ {A = Option Turn} None (Some u) → ◌≡◌ {A = ℕ} 0 1
    apart e = cc

-- the rules of a record, each as it is tested
pub record Tested (p : Plan) (i : ℕ) (r : BoxRecord) : Type 0 where
  pub numbers : numbers_keep p i r ≡ true
  pub tables : tables_fit r ≡ true
  pub lists : Lists p (held r.unordered) (log_of r.log)
  pub ids : (all_used (box_of r) (ids_of (held r.unordered)) && all_used (box_of r) (log_ids (log_of r.log))) ≡ true
  pub turn : TurnLawful p (box_of r)

pub rules : (p : Plan) (i : ℕ) (r : BoxRecord) → Tested p i r → KeepsRules p i r
rules p i r t =
    let a = and_parts (eqb r.n p.n) _ t.numbers in
    let b = and_parts (eqb r.f p.f) _ a.1 in
    let c = and_parts (eqb r.seat i) _ b.1 in
    let d = and_parts (eqb (r.awaited % p.n) i) _ c.1 in
    let u = and_parts (all_used (box_of r) (ids_of (held r.unordered))) _ t.ids in
    record {
      tables = t.tables;
      rules = record {
        boxes = eqb-true _ _ a.0;
        failing = eqb-true _ _ b.0;
        seated = eqb-true _ _ c.0;
        in_turn = eqb-true _ _ d.0;
        lists = t.lists;
        unordered_used = (decides_all_used (box_of r) (ids_of (held r.unordered))).0 u.0;
        logged_used = (decides_all_used (box_of r) (log_ids (log_of r.log))).0 u.1;
        serials = leb-true _ _ d.1;
        turns = t.turn;
      };
    }

pub tested : (p : Plan) (i : ℕ) (r : BoxRecord) → KeepsRules p i r → Tested p i r
tested p i r k =
    let q = k.rules in
    record {
      numbers = and_from (eqb r.n p.n) _ (eq-eqb _ _ q.boxes) (and_from (eqb r.f p.f) _ (eq-eqb _ _ q.failing) (and_from (eqb r.seat i) _ (eq-eqb _ _ q.seated)
          (and_from (eqb (r.awaited % p.n) i) _ (eq-eqb _ _ q.in_turn) (le-leb _ _ q.serials))));
      tables = k.tables;
      lists = q.lists;
      ids = and_from _ _ ((decides_all_used (box_of r) (ids_of (held r.unordered))).1 q.unordered_used) ((decides_all_used (box_of r) (log_ids (log_of r.log))).1 q.logged_used);
      turn = q.turns;
    }

-- a rule that is broken
pub broken : (p : Plan) (i : ℕ) (r : BoxRecord) → (Tested p i r → ⊥) → Decides false (KeepsRules p i r)
broken p i r no' = (λ h. absurd (true≢false (sym h)), λ k. absurd (no' (tested p i r k)))
