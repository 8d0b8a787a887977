-- The next order of a record that keeps the rules and has a serial left.
use Rattle.std.proofs.Common.{◌≡◌, ℕ, ◌+◌, ◌<◌, ◌≤◌, List, length, sym, subst, arith}
use Rattle.std.specs.List.{AllByRecursion}
use Rattle.std.proofs.lemmas.Bool.{leb-true, le-leb, and_from}
use Rattle.frames.specs.declared.plan.Plan.{Plan}
use Rattle.frames.specs.declared.Entry.{Entry}
use Rattle.frames.specs.Contents.{LawfulEntry}
use Rattle.frames.proofs.Room.{few_entries}
use Rattle.lists.specs.Tables.{room, held, inserted}
use Rattle.lists.proofs.Inserts.{length_inserted}
use Rattle.lists.proofs.Holds.{held_holding}
use Rattle.boxes.specs.Boxes.{Lists, Keeps, listed}
use Rattle.boxes.specs.Turns.{next_entry, sending}
use Rattle.boxes.proofs.Ids.{lists_as_token}
use Rattle.boxes.proofs.Staying.{next_lawful, keeps_sending}
use Rattle.records.specs.declared.BoxRecord.{BoxRecord}
use Rattle.records.specs.Records.{box_of, KeepsRules}
use Rattle.records.proofs.Drafts.{fitting}
use Rattle.ring.specs.Calls.{sent_row}

-- no record has more unordered entries than a table can hold
pub few_unordered : (p : Plan) (unordered : List Entry) (log : List (List Entry)) → Lists p unordered log → length unordered ≤ room
few_unordered p unordered log l = omega (arith, p.most, few_entries p (listed unordered log) (lists_as_token.there p unordered log l))

module _ (p : Plan) (i : ℕ) (r : BoxRecord) (k : KeepsRules p i r) (left : r.last < 15) (body : List ℕ) (eight : length body ≡ 8) (bytes : AllByRecursion (λ b. b < 256) body) where
  abbrev more : List Entry
  more = inserted (next_entry (box_of r) body) (held r.unordered)

  pub lawful : LawfulEntry p (next_entry (box_of r) body)
  lawful = next_lawful p i (box_of r) k.rules body left eight bytes

  sent : Keeps p i (sending (box_of r) body)
  sent = keeps_sending p i (box_of r) k.rules body left eight bytes

  few : length more ≤ room
  few = few_unordered p more (box_of r).log sent.lists

  -- the count is one that a table can have
  pub fits : r.unordered.count ≤ room
  fits = leb-true _ _ (fitting r k.tables).unordered

  -- so the table has room for it
  pub roomy : length (held r.unordered) < room
  roomy = let f = few in let one = length_inserted (next_entry (box_of r) body) (held r.unordered) in omega arith

  pub meaning : box_of (sent_row body r) ≡ sending (box_of r) body
  meaning = let e = held_holding more r.unordered in λ j. record {
    n = r.n;
    f = r.f;
    seat = r.seat;
    awaited = r.awaited;
    log = (box_of r).log;
    unordered = e j;
    last = r.last + 1;
    doubt = r.doubt;
    on = r.on;
    turn = (box_of r).turn;
  }

  pub by_send : KeepsRules p i (sent_row body r)
  by_send =
      let tables = fitting r k.tables in
      record { tables = and_from _ _ (le-leb _ _ few) (and_from _ _ tables.log tables.turn); rules = subst (Keeps p i) (sym meaning) sent }
