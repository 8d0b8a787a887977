-- What a frame shows is what comes out of it.
use Rattle.std.proofs.Common.{◌≡◌, ℕ, ◌+◌, ◌<◌, ◌≤◌, List, [], ◌++◌, length, Ok, Err, Result, sym, ap, ◌∙◌, subst, arith, length-append}
use Rattle.std.specs.List.{flat_map, AllByRecursion}
use Rattle.std.proofs.lemmas.List.{length-map}
use Rattle.std.proofs.ByRecursion.{All-append, All-weaker}
use Rattle.std.proofs.lemmas.Bool.{le-leb}
use Rattle.frames.specs.declared.plan.Plan.{Plan}
use Rattle.frames.specs.declared.Entry.{Entry}
use Rattle.frames.specs.declared.FrameFault.{FrameFault}
use Rattle.frames.specs.Contents.{Token, Content, ids_of, Once, InRange, Lawful, LawfulEntry, LawfulDecision, LawfulToken, bytes_of}
use Rattle.frames.specs.Contents.Content.{order, token}
use Rattle.frames.specs.Reading.{read_as}
use Rattle.frames.specs.Views.{shown, shown_as}
use Rattle.frames.specs.Views.View.{a_token}
use Rattle.frames.proofs.Written.{written, whole_entries, whole_decisions}
use Rattle.frames.proofs.Room as space
use Rattle.parts.specs.Going.{entries_of, decisions_of}
use Rattle.parts.proofs.At.{entries_held}
use Rattle.parts.proofs.Splits.{decisions_held}
use Rattle.lists.specs.Tables.{room}
use Rattle.received.specs.declared.ReceivedToken.{ReceivedToken}
use Rattle.received.specs.Received.{token_of, TokenFits}
use Rattle.received.specs.Unpacking.{Tabled, Loggable, Logged}

clash : {X : Type 0} → ◌≡◌ {A = ℕ} 0 1 → X
clash z = absurd (omega arith)

pub fault_read : (x : Result Content FrameFault) (e : FrameFault) → Err e ≡ shown_as x → Err e ≡ x
fault_read (Ok c) e q = clash (cc)
fault_read (Err d) e q = cc

module _ (p : Plan) where
  -- lawful entries beside lawful decisions, no id twice, are no more than a table has room for
  pub room_beside : (es : List Entry) (ds : List (List Entry)) → AllByRecursion (LawfulEntry p) es → AllByRecursion (LawfulDecision p) ds → Once [] (ids_of es ++ flat_map ids_of ds) →
      length (flat_map ids_of ds) + length es ≤ room
  room_beside es ds l m o =
      let r = space.room p (ids_of es ++ flat_map ids_of ds) (All-append (InRange p) (ids_of es) (flat_map ids_of ds) (space.ids_in_range p es l) (space.all_ids_in_range p ds m)) o in
      let most = p.most in
      omega (arith, length-append (ids_of es) (flat_map ids_of ds), length-map es (λ (e : Entry). e.id))

  -- a token's lists fit a table and a log
  pub token_room : (t : Token) → LawfulToken p t → (length t.proposal ≤ room) × (length (flat_map ids_of t.decisions) ≤ room)
  token_room t l = let most = room_beside t.proposal t.decisions l.proposal_lawful.each l.decisions_lawful l.no_id_twice in (omega arith, omega arith)

  -- this token is read from these bytes
  pub record Reads (bs : List ℕ) (t : Token) : Type 0 where
    pub lawful : LawfulToken p t
    pub read : read_as p bs ≡ Ok (token t)

  -- the token of a frame that shows one
  pub token_shown : (bs : List ℕ) (c : Content) (sender stamp votes decided : ℕ) (proposal decisions : List ℕ) (es : List Entry) (ds : List (List Entry)) →
      Lawful p c → bytes_of p c ≡ bs → a_token sender stamp votes proposal decided decisions ≡ shown c → es ≡ entries_of proposal → ds ≡ decisions_of decisions →
      Reads bs (record { sender = sender; stamp = stamp; votes = votes; proposal = es; decisions = ds })
  token_shown bs (order e) sender stamp votes decided proposal decisions es ds l bytes seen entries more = clash (cc)
  token_shown bs (token t) sender stamp votes decided proposal decisions es ds l bytes seen entries more =
      let a : sender ≡ t.sender = cc in
      let b : stamp ≡ t.stamp = cc in
      let c : votes ≡ t.votes = cc in
      let d : es ≡ t.proposal = entries ∙ entries_held proposal t.proposal (whole_entries p t.proposal l.proposal_lawful.each) (cc) in
      let e : ds ≡ t.decisions = more ∙ decisions_held decisions t.decisions (whole_decisions p t.decisions l.decisions_lawful) (cc) in
      let same : t ≡ record { sender = sender; stamp = stamp; votes = votes; proposal = es; decisions = ds } =
      sym (λ i. record { sender = a i; stamp = b i; votes = c i; proposal = d i; decisions = e i }) in
      subst (λ t. Reads bs t) same (record { lawful = l; read = ap (read_as p) (sym bytes) ∙ written p (token t) l })

  pub loggable : (bs : List ℕ) (t : Token) → Reads bs t → Loggable t.decisions
  loggable bs t r =
      record {
        some = All-weaker (LawfulDecision p) (λ (d : List Entry). 0 < length d) (λ d h. h.some) t.decisions r.lawful.decisions_lawful;
        few = (token_room t r.lawful).1;
      }

  pub token_kept : (bs : List ℕ) (r : ReceivedToken) (es : List Entry) (ds : List (List Entry)) → Reads bs (record { sender = r.sender; stamp = r.stamp; votes = r.votes; proposal = es; decisions = ds }) →
      Tabled es r.proposal → Logged ds r.log → (Ok (token (token_of r)) ≡ read_as p bs) × TokenFits p r
  token_kept bs r es ds reads table log =
      let same : record { sender = r.sender; stamp = r.stamp; votes = r.votes; proposal = es; decisions = ds } ≡ token_of r =
      sym (λ i. record { sender = r.sender; stamp = r.stamp; votes = r.votes; proposal = table.entries i; decisions = log.decisions i }) in
      let kept : Reads bs (token_of r) = subst (λ t. Reads bs t) same reads in
      let few = (token_room (token_of r) kept.lawful).0 in
      (sym kept.read, record { proposal = le-leb r.proposal.count room (omega (arith, table.counted, ap length table.entries)); log = log.sound; lawful = kept.lawful })
