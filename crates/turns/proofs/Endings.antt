-- A lawful draft is written, and a record that passes its turn keeps the rules.
use Rattle.std.proofs.Common.{◌≡◌, ℕ, ◌+◌, ◌≤◌, Bool, true, cond, leb, List, length, take, drop, Some, None, Ok, Option, Result, sym, refl, ap, ◌∙◌, subst, arith}
use Rattle.std.proofs.lemmas.List.{take_at}
use Rattle.boxes.proofs.Sending.{frames_read}
use Rattle.std.proofs.lemmas.Bool.{le-ltb, and_parts, and_from, true≢false}
use Rattle.std.specs.Option.{option_map}
use Rattle.frames.specs.declared.plan.Plan.{Plan}
use Rattle.frames.specs.declared.FrameFault.{FrameFault}
use Rattle.frames.specs.Contents.{Token, Content, LawfulToken, bytes_of, frame_most}
use Rattle.frames.specs.Contents.Content.{token}
use Rattle.lists.specs.declared.Entries.{Entries}
use Rattle.lists.specs.Tables.{room, held}
use Rattle.logs.specs.declared.Log.{Log}
use Rattle.logs.specs.Logs.{adds_up, log_of, lengths_of}
use Rattle.frames.specs.Reading.{read_as}
use Rattle.writing.specs.declared.Draft.{Draft}
use Rattle.writing.specs.Parted.{drafted}
use Rattle.writing.proofs.Endings.{faultless}
use Rattle.writing.specs.declared.WriteFault.{WriteFault}
use Rattle.writing.specs.declared.WriteFault.TheVariants as refused
use Rattle.writing.specs.Written.{Writes, refusal, answer, buffer, draft_fault}
use Rattle.boxes.specs.Calls.{at_front, pass_fault, pass_call, pass_writes, turn_bytes, refused_or, written_or}
use Rattle.boxes.specs.declared.BoxFault.{BoxFault}
use Rattle.boxes.specs.Boxes.{Turn, passed}
use Rattle.boxes.specs.Handling.{is_open}
use Rattle.boxes.proofs.Refusing.{unrefused}
use Rattle.boxes.proofs.Staying.{keeps_passing}
use Rattle.records.specs.declared.BoxRecord.{BoxRecord}
use Rattle.records.specs.declared.OpenTurn.{OpenTurn}
use Rattle.records.specs.Records.{box_of, turn_of, KeepsRules, DraftOf}
use Rattle.records.proofs.Drafts.{fitting, lawful_draft, is}
use Rattle.ring.specs.Calls.{JudgedRow, kept_row}
use Rattle.turns.specs.Rows.{passed_row}
use Rattle.turns.specs.Ending.{MayPass}

-- what writing contents without a fault to a buffer with room leaves
pub record Wrote (p : Plan) (c : Content) (out after : List ℕ) (r : Result ℕ WriteFault) : Type 0 where
  pub answered : r ≡ Ok (length (bytes_of p c))
  pub left : after ≡ at_front (bytes_of p c) out

pub written : (p : Plan) (c : Content) (e : Option FrameFault) (out after : List ℕ) (r : Result ℕ WriteFault) → e ≡ None → frame_most ≤ length out → Writes p c e out after r → Wrote p c out after r
written p c e out after r none fits w =
    let q : refusal out e ≡ None = ap (λ z. cond z (Some refused.Short) (option_map refused.Frame e)) (le-ltb (length out) frame_most fits) ∙ ap (option_map refused.Frame) none in
    record { answered = w.answered ∙ ap (λ z. answer z (bytes_of p c)) q; left = w.left ∙ ap (λ z. buffer z (bytes_of p c) out) q }

-- a draft of held entries and a log that is a lawful token is written
module _ (p : Plan) (d : Draft) (u : Entries) (l : Log) (fits : leb u.count room ≡ true) (up : adds_up l ≡ true)
    (proposal : d.proposal.now ≡ held u) (lengths : d.lengths.now ≡ lengths_of l) (entries : d.entries.now ≡ held l.entries) where
  pub draft_written : (out after : List ℕ) (r : Result ℕ WriteFault) → LawfulToken p (record { sender = d.sender; stamp = d.stamp; votes = d.votes; proposal = held u; decisions = log_of l }) → frame_most ≤ length out →
      Writes p (token (drafted d)) (draft_fault p d) out after r → Wrote p (token (record { sender = d.sender; stamp = d.stamp; votes = d.votes; proposal = held u; decisions = log_of l })) out after r
  draft_written out after r lawful roomy w =
      subst (λ (t : Token). Wrote p (token t) out after r) (is p d u l fits up proposal lengths entries)
      (written p (token (drafted d)) (draft_fault p d) out after r (faultless p d (lawful_draft p d u l fits up proposal lengths entries lawful)) roomy w)

-- the draft of an open turn's lawful token is written
pub open_written : (p : Plan) (r : BoxRecord) (t : OpenTurn) (d : Draft) → DraftOf r t d → leb t.proposal.count room ≡ true → adds_up r.log ≡ true → LawfulToken p (passed (box_of r) (turn_of t)) →
    (out after : List ℕ) (x : Result ℕ WriteFault) → frame_most ≤ length out → Writes p (token (drafted d)) (draft_fault p d) out after x → Wrote p (token (passed (box_of r) (turn_of t))) out after x
open_written p r t d q fits up lawful out after x roomy w =
    let same : record { sender = d.sender; stamp = d.stamp; votes = d.votes; proposal = held t.proposal; decisions = log_of r.log } ≡ passed (box_of r) (turn_of t) =
    λ i. record { sender = q.sender i; stamp = q.stamp i; votes = q.votes i; proposal = held t.proposal; decisions = log_of r.log } in
    subst (λ (z : Token). Wrote p (token z) out after x) same
    (draft_written p d t.proposal r.log fits up q.proposal q.lengths q.entries out after x (subst (LawfulToken p) (sym same) lawful) roomy w)

-- an apparent value: what a call says of a record that keeps the rules
pub judged : {X : Type 0} (p : Plan) (i : ℕ) (r : BoxRecord) (f : Bool → X) (x : X) → KeepsRules p i r → x ≡ f true → JudgedRow p i r f x
judged p i r f x k e = (λ _. e, λ no'. absurd (no' k))

-- a record that keeps the rules keeps them at its own seat
pub own_seat : (p : Plan) (i : ℕ) (r : BoxRecord) → KeepsRules p i r → KeepsRules p r.seat r
own_seat p i r k = subst (λ j. KeepsRules p j r) (sym k.rules.seated) k

-- the turn that is open
opened_by : (o : Option Turn) → is_open o ≡ true → (t : Turn) × (o ≡ Some t)
opened_by None h = absurd (true≢false (sym h))
opened_by (Some t) h = (t, refl)

-- what a pass leaves, where there is no fault
module _ (p : Plan) (i : ℕ) (r : BoxRecord) (size seat round : ℕ) (m : MayPass p i r size seat round) (no_fault : JudgedRow {X = Result (Unit {0}) BoxFault} p i r (λ kept. refused_or (pass_fault (box_of r) kept size seat round) tt) (Ok tt)) where
  pub unfaulted : pass_fault (box_of r) true size seat round ≡ None
  unfaulted = unrefused {A = Unit {0}} _ tt (no_fault.0 m.rules)

  pub answers : (n : ℕ) → n ≡ length (turn_bytes p (box_of r) (box_of r).turn) → JudgedRow p i r (λ kept. pass_call p (box_of r) kept size seat round) (Ok n)
  answers n e = judged p i r (λ kept. pass_call p (box_of r) kept size seat round) (Ok n) m.rules (ap Ok e ∙ sym (ap (λ z. refused_or z (length (turn_bytes p (box_of r) (box_of r).turn))) unfaulted))

  pub row_after : JudgedRow p i r (λ kept. kept_row (pass_fault (box_of r) kept size seat round) r (passed_row r)) (passed_row r)
  row_after = judged p i r (λ kept. kept_row (pass_fault (box_of r) kept size seat round) r (passed_row r)) (passed_row r) m.rules (sym (ap (λ z. kept_row z r (passed_row r)) unfaulted))

  pub keeps_after : KeepsRules p i (passed_row r)
  keeps_after = let fits = fitting r m.rules.tables in record { tables = and_from _ _ fits.unordered (and_from _ _ fits.log refl); rules = keeps_passing p i (box_of r) m.rules.rules }

  pub next_fits : r.awaited + r.n ≤ 1000006
  next_fits =
      let t = opened_by (box_of r).turn (and_parts (is_open (box_of r).turn) _ m.own).0 in
      let lawful = m.rules.rules.turns t.0 t.1 in
      let most = lawful.stamp_fits in
      let boxes = m.rules.rules.boxes in
      let few = p.most in
      omega arith

  pub writes : (out after : List ℕ) → length out ≡ size → after ≡ at_front (turn_bytes p (box_of r) (box_of r).turn) out → JudgedRow p i r (λ kept. pass_writes p (box_of r) kept seat round out) after
  writes out after long e =
      judged p i r (λ kept. pass_writes p (box_of r) kept seat round out) after m.rules
      (e ∙ sym (ap (λ z. written_or z out (turn_bytes p (box_of r) (box_of r).turn)) (ap (λ k. pass_fault (box_of r) true k seat round) long ∙ unfaulted)))

  pub reads_back : (n : ℕ) (out after : List ℕ) → n ≡ length (turn_bytes p (box_of r) (box_of r).turn) → after ≡ at_front (turn_bytes p (box_of r) (box_of r).turn) out →
      (t : Turn) → (box_of r).turn ≡ Some t → read_as p (take n after) ≡ Ok (token (passed (box_of r) t))
  reads_back n out after long left t is_open =
      let bytes = bytes_of p (token (passed (box_of r) t)) in
      let same : turn_bytes p (box_of r) (box_of r).turn ≡ bytes = ap (turn_bytes p (box_of r)) is_open in
      let front : take n after ≡ bytes = ap (λ x. take x after) (long ∙ ap length same) ∙ ap (take (length bytes)) (left ∙ ap (λ z. at_front z out) same) ∙ take_at bytes (drop (length bytes) out) (length bytes) refl in
      ap (read_as p) front ∙ (frames_read.turns p i (box_of r) t m.rules.rules is_open).back
