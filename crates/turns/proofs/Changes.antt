-- How much lawful lists can hold, and what a record's tables hold as it changes.
use Rattle.std.proofs.Common.{◌≡◌, ℕ, ◌+◌, ◌<◌, ◌≤◌, Bool, true, false, cond, not, ◌&&◌, eqb, leb, List, [], ◌∷◌, length, get_or, Ok, Option, sym, refl, subst, arith}
use Rattle.std.specs.List.{AllByRecursion}
use Rattle.std.proofs.lemmas.Bool.Decides.{nat_tests}
use Rattle.std.proofs.lemmas.Bool.{and_from, cond_both, le-leb, leb-true}
use Rattle.std.proofs.lemmas.List.Filters.{length-filter_both}
use Rattle.std.proofs.lemmas.List.{length-map, length-append, length-take}
use Rattle.std.proofs.ByRecursion.{All-weaker}
use Rattle.frames.specs.declared.plan.Plan.{Plan}
use Rattle.frames.specs.declared.Entry.{Entry}
use Rattle.frames.specs.Contents.{Token, ids_of, Whole, LawfulEntry, LawfulDecision, LawfulToken}
use Rattle.frames.specs.Contents.Content.{order}
use Rattle.lists.proofs.Inserts.{length_inserted}
use Rattle.lists.specs.declared.Entries.{Entries}
use Rattle.lists.specs.Tables.{room, held, holding, inserted, with_entry, without, staying}
use Rattle.logs.specs.declared.Log.{Log}
use Rattle.logs.specs.Logs.{adds_up, log_of}
use Rattle.boxes.specs.declared.Outcome.TheVariants as outcome
use Rattle.boxes.specs.Boxes.{Turn, Box, Keeps, log_ids}
use Rattle.boxes.specs.Turns.{gap, decides}
use Rattle.boxes.specs.Handling.{order_answer, order_after}
use Rattle.boxes.proofs.Ids.{once_beside}
use Rattle.boxes.proofs.Staying.{records-stay}
use Rattle.received.proofs.Contents.{room_beside}
use Rattle.records.specs.declared.OpenTurn.{OpenTurn}
use Rattle.records.specs.declared.BoxRecord.{BoxRecord}
use Rattle.records.specs.Records.{box_of, turn_fits, tables_fit, KeepsRules}

-- Room

module _ (p : Plan) where
  -- each decision has an entry at least
  decisions_few : (ds : List (List Entry)) → AllByRecursion (LawfulDecision p) ds → length ds ≤ length (log_ids ds)
  decisions_few [] l = omega arith
  decisions_few (d ∷ ds) l =
      let rest = decisions_few ds l.1 in
      let some = l.0.some in
      omega (arith, length-append (ids_of d) (log_ids ds), length-map d (λ (e : Entry). e.id))

-- the id of a whole entry is a byte
pub ids_bytes : (es : List Entry) → AllByRecursion Whole es → AllByRecursion (λ (e : Entry). e.id < 256) es
ids_bytes es w = All-weaker Whole (λ (e : Entry). e.id < 256) (λ e h. h.id_byte) es w

-- there is room for an order that is kept
pub order_fits : (p : Plan) (i : ℕ) (r : BoxRecord) (e : Entry) → KeepsRules p i r → LawfulEntry p e → order_answer (box_of r) e ≡ Ok outcome.Kept → length (held r.unordered) < room
order_fits p i r e k l new =
    let after : Keeps p i (order_after (box_of r) e (Ok outcome.Kept)) = subst (λ a. Keeps p i (order_after (box_of r) e a)) new ((records-stay.stay p i (box_of r) k.rules).by_contents (order e) l) in
    let ls = after.lists in
    let most = room_beside p (inserted e (held r.unordered)) (log_of r.log) ls.entries.each ls.decisions (once_beside _ _ ls.entries.ascend ls.apart ls.once) in
    omega (arith, length_inserted e (held r.unordered))

-- votes come to f+1 for a proposal only
pub decides_some : (p : Plan) (b : Box) (t : Token) → decides p b t ≡ true → 0 < length t.proposal
decides_some p b t d = go (gap b t) (length t.proposal) t.votes p.f p.some d
  where
    go : (g l v f : ℕ) → 1 ≤ f → eqb (cond (eqb g 1 && not (eqb l 0)) v 0 + 1) (f + 1) ≡ true → 0 < l
    go g l v f some h = grind (arith, nat_tests)

-- the proposal of a lawful token has room beside its decisions
pub decision_fits : (p : Plan) (t : Token) → LawfulToken p t → length (log_ids t.decisions) + length t.proposal ≤ room
decision_fits p t l = room_beside p t.proposal t.decisions l.proposal_lawful.each l.decisions_lawful l.no_id_twice

pub decisions_fit : (p : Plan) (t : Token) → LawfulToken p t → 0 < length t.proposal → length t.decisions < room
decisions_fit p t l some = let most = decision_fits p t l in let few = decisions_few p t.decisions l.decisions_lawful in omega arith

-- Tables

-- a record with another log, other unordered entries and another turn
abbrev pub remade : BoxRecord → Log → Entries → Option OpenTurn → BoxRecord
remade r log unordered turn = record { n = r.n; f = r.f; seat = r.seat; awaited = r.awaited; log = log; unordered = unordered; last = r.last; doubt = r.doubt; on = r.on; turn = turn }

-- the same of what it means
abbrev pub reboxed : Box → List (List Entry) → List Entry → Option Turn → Box
reboxed b log unordered turn = record { n = b.n; f = b.f; seat = b.seat; awaited = b.awaited; log = log; unordered = unordered; last = b.last; doubt = b.doubt; on = b.on; turn = turn }

pub tables-fit : (r : BoxRecord) (log : Log) (unordered : Entries) (turn : Option OpenTurn) → leb unordered.count room ≡ true → adds_up log ≡ true → turn_fits turn ≡ true → tables_fit (remade r log unordered turn) ≡ true
tables-fit r log unordered turn u l t = and_from (leb unordered.count room) _ u (and_from (adds_up log) _ l t)

-- what stays of a table fits as the table did
pub without_fits : (flags : List Bool) (t t' : Entries) → leb t.count room ≡ true → t' ≡ without flags t → leb t'.count room ≡ true
without_fits flags t t' fits is =
    let most = leb-true _ _ fits in
    let front = length-take t.count t.items in
    let parts = length-filter_both (λ (e : Entry). not (get_or flags e.id false)) (λ (e : Entry). not (not (get_or flags e.id false))) (λ _. refl) (held t) in
    subst (λ (z : Entries). leb z.count room ≡ true) (sym is)
    (cond_both (leb t.count room) (holding (staying flags (held t)) t) t (λ (z : Entries). leb z.count room ≡ true) (λ _. le-leb _ _ (omega arith)) (λ _. fits))

-- a table with an entry more fits
pub with_entry_fits : (e : Entry) (t t' : Entries) → length (held t) < room → t' ≡ with_entry e t → leb t'.count room ≡ true
with_entry_fits e t t' few is = subst (λ (z : Entries). leb z.count room ≡ true) (sym is) (le-leb _ _ (omega (arith, length_inserted e (held t))))
