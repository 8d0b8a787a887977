-- A record's lists as a draft.
use Rattle.std.proofs.Common.{◌≡◌, ◌≤◌, Bool, true, leb, length, Decides, sum, sym, ap, ◌∙◌, subst, arith, length-take}
use Rattle.std.proofs.lemmas.Bool.{leb-true, and_parts}
use Rattle.frames.specs.declared.plan.Plan.{Plan}
use Rattle.frames.specs.Contents.{LawfulToken}
use Rattle.lists.specs.declared.Entries.{Entries}
use Rattle.lists.specs.Tables.{room, held}
use Rattle.logs.specs.declared.Log.{Log}
use Rattle.logs.specs.Logs.{adds_up, log_of, lengths_of}
use Rattle.logs.proofs.Sound.{sound}
use Rattle.records.specs.declared.BoxRecord.{BoxRecord}
use Rattle.records.specs.Records.{tables_fit, turn_fits}
use Rattle.writing.specs.declared.Draft.{Draft}
use Rattle.writing.specs.Parted.{drafted, a_token}
use Rattle.writing.specs.Checked.{Shaped, LawfulDraft}

held_few : (t : Entries) → leb t.count room ≡ true → length (held t) ≤ room
held_few t h = let k = leb-true _ _ h in let n = length-take t.count t.items in omega arith

-- a draft with the held entries as its proposal and the log as its decisions
module _ (p : Plan) (d : Draft) (u : Entries) (l : Log) (fits : leb u.count room ≡ true) (up : adds_up l ≡ true)
    (proposal : d.proposal.now ≡ held u) (lengths : d.lengths.now ≡ lengths_of l) (entries : d.entries.now ≡ held l.entries) where
  shaped : Shaped (length d.proposal.now) d.lengths.now (length d.entries.now)
  shaped =
      let k = held_few u fits in
      let adds = sound l up in
      let n = length-take l.decided l.lengths in
      let kn = ap length proposal in
      let mn = ap length lengths in
      record { proposed_fits = omega arith; decided_fits = omega (arith, adds.decisions_fit); adds-up = ap sum lengths ∙ adds.add_up ∙ sym (ap length entries) }

  pub is : drafted d ≡ record { sender = d.sender; stamp = d.stamp; votes = d.votes; proposal = held u; decisions = log_of l }
  is = λ i. a_token d.sender d.stamp d.votes (proposal i) (lengths i) (entries i)

  pub lawful_draft : LawfulToken p (record { sender = d.sender; stamp = d.stamp; votes = d.votes; proposal = held u; decisions = log_of l }) → LawfulDraft p d
  lawful_draft t = record { shape = shaped; token = subst (LawfulToken p) (sym is) t }

  pub by_draft : (b : Bool) (L : Type 0) → (LawfulToken p (record { sender = d.sender; stamp = d.stamp; votes = d.votes; proposal = held u; decisions = log_of l }) → L) →
      (L → LawfulToken p (record { sender = d.sender; stamp = d.stamp; votes = d.votes; proposal = held u; decisions = log_of l })) → Decides b (LawfulDraft p d) → Decides b L
  by_draft b L to from (yes', back) =
      (λ h. to (subst (LawfulToken p) is (yes' h).token), λ x. back (lawful_draft (from x)))

-- what it gives that the tables of a record fit
pub record Fitting (r : BoxRecord) : Type 0 where
  pub unordered : leb r.unordered.count room ≡ true
  pub log : adds_up r.log ≡ true
  pub turn : turn_fits r.turn ≡ true

pub fitting : (r : BoxRecord) → tables_fit r ≡ true → Fitting r
fitting r q =
    let first = and_parts (leb r.unordered.count room) _ q in
    let second = and_parts (adds_up r.log) _ first.1 in
    record { unordered = first.0; log = second.0; turn = second.1 }
