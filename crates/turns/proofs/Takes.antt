-- What a frame makes of a record, by its contents.
use Rattle.std.proofs.Common.{◌≡◌, ℕ, true, false, cond, not, List, [], Some, None, Ok, Err, Option, Result, sym, refl, ap, ◌∙◌, subst, append-nil, arith}
use Rattle.std.specs.Option.{option_map}
use Rattle.frames.specs.declared.plan.Plan.{Plan}
use Rattle.frames.specs.declared.FrameFault.{FrameFault}
use Rattle.frames.specs.declared.Entry.{Entry}
use Rattle.frames.specs.Contents.{Token, Content, Lawful, LawfulToken, has}
use Rattle.frames.specs.Contents.Content.{token}
use Rattle.frames.specs.Reading.{read_as}
use Rattle.boxes.specs.declared.Outcome.{Outcome}
use Rattle.boxes.specs.declared.Outcome.TheVariants as outcome
use Rattle.boxes.specs.declared.BoxFault.{BoxFault}
use Rattle.boxes.specs.declared.BoxFault.TheVariants as fault
use Rattle.boxes.specs.Boxes.{Turn, Box, Keeps, passed}
use Rattle.boxes.specs.Turns.{opened, opened_turn}
use Rattle.boxes.specs.Handling.{answer, box_after, token_answer, token_after}
use Rattle.boxes.specs.Calls.{frame_call, frame_after, read_answer, read_after}
use Rattle.boxes.specs.Cases.{Handled}
use Rattle.boxes.proofs.Staying.{records-stay}
use Rattle.boxes.specs.Boxes.{log_ids}
use Rattle.boxes.specs.Laws.{Logged, ComesFrom, LoggedFrom, Offered}
use Rattle.boxes.proofs.Growing.{logs_grow}
use Rattle.boxes.proofs.Leaving.{unordered_stay}
use Rattle.boxes.proofs.Making.{turns_make_tokens}
use Rattle.boxes.proofs.Answering.{answers_fit}
use Rattle.records.specs.declared.OpenTurn.{OpenTurn}
use Rattle.records.specs.declared.BoxRecord.{BoxRecord}
use Rattle.records.specs.Records.{box_of, turn_of, tables_fit, KeepsRules}
use Rattle.history.specs.Histories.{History}
use Rattle.std.specs.List.{ContainsAt as Has, AllByRecursion}
use Rattle.ring.specs.Calls.{JudgedRow}
use Rattle.turns.specs.Frames.{FrameLaws}
use Rattle.turns.proofs.Endings.{judged}

unmapped : (o : Option OpenTurn) → option_map turn_of o ≡ None → o ≡ None
unmapped None e = refl
unmapped (Some t) e = let z : ◌≡◌ {A = ℕ} 0 1 = cc in absurd (omega arith)

-- a box learns only while no turn is open
pub idle_learning : (p : Plan) (r : BoxRecord) (t : Token) (k : ℕ) → token_answer p (box_of r) t ≡ Ok (outcome.Learned k) → r.turn ≡ None
idle_learning p r t k e = unmapped r.turn (subst (λ z. Handled p (box_of r) (token t) z (box_after p (box_of r) (token t))) e (answers_fit.fit p (box_of r) (token t))).0.1

-- what holds of lawful contents that a box is handed
module _ (p : Plan) (i : ℕ) (b : Box) (k : Keeps p i b) (bytes : List ℕ) where
  pub laws_of : (c : Content) → Lawful p c → read_as p bytes ≡ Ok c → FrameLaws p b bytes (answer p b c) (box_after p b c)
  laws_of c lawful read = record {
    grows = (logs_grow p b c).0;
    logs = λ d e. subst (λ z. LoggedFrom p b z (box_after p b c).log) (same d e) (logs_grow p b c).1;
    were = λ d e. subst (λ z. (x : Entry) → Has (box_after p b c).unordered x → Offered p b z x × (has x.id (log_ids (box_after p b c).log) ≡ false)) (same d e) (unordered_stay.were p i b c k);
    are = λ d e. subst (λ z. (x : Entry) → Offered p b z x → has x.id (log_ids (box_after p b c).log) ≡ false → Has (box_after p b c).unordered x) (same d e) (unordered_stay.are p i b c k);
    makes = λ t e opens turn is_open sent all H logged. makes t (sym (same (token t) e)) lawful opens turn is_open sent all H logged;
  }
    where
      same : (d : Content) → read_as p bytes ≡ Ok d → c ≡ d
      same d e = cc

      made_by : (t : Token) (r : Result (Outcome (Unit {0})) BoxFault) (turn : Turn) → r ≡ Ok (outcome.Opened tt) → (token_after p b t r).turn ≡ Some turn → passed (opened p b t) (opened_turn p b t) ≡ passed (token_after p b t r) turn
      made_by t r turn e is_open =
          let after : token_after p b t r ≡ opened p b t = ap (token_after p b t) e in
          let turned : Some (opened_turn p b t) ≡ Some turn = sym (ap (λ (z : Box). z.turn) after) ∙ is_open in
          let one : opened_turn p b t ≡ turn = cc in
          ap (passed (opened p b t)) one ∙ ap (λ (z : Box). passed z turn) (sym after)

      makes : (t : Token) → token t ≡ c → Lawful p c → answer p b c ≡ Ok (outcome.Opened tt) → (turn : Turn) → (box_after p b c).turn ≡ Some turn →
          (sent : List Entry) → AllByRecursion (Has sent) b.unordered → (H : History Entry) → Logged H b → ComesFrom p sent H b t (passed (box_after p b c) turn)
      makes t e law opens turn is_open sent all H logged =
          let opens' : answer p b (token t) ≡ Ok (outcome.Opened tt) = subst (λ z. answer p b z ≡ Ok (outcome.Opened tt)) (sym e) opens in
          let open' : (box_after p b (token t)).turn ≡ Some turn = subst (λ z. (box_after p b z).turn ≡ Some turn) (sym e) is_open in
          let law' : LawfulToken p t = subst (Lawful p) (sym e) law in
          let made : ComesFrom p sent H b t (passed (box_after p b (token t)) turn) = subst (ComesFrom p sent H b t) (made_by t (token_answer p b t) turn opens' open') (turns_make_tokens p i b t k law' opens' sent all H logged) in
          subst (λ z. ComesFrom p sent H b t (passed (box_after p b z) turn)) e made

  -- and of bytes that are no frame
  pub laws_none : (e : FrameFault) (r : Result (Outcome (Unit {0})) BoxFault) → read_as p bytes ≡ Err e → FrameLaws p b bytes r b
  laws_none e r read = record {
    grows = ([], sym (append-nil b.log));
    logs = λ d q. never d q;
    were = λ d q. never d q;
    are = λ d q. never d q;
    makes = λ t q. never (token t) q;
  }
    where
      never : {X : Type 0} (d : Content) → read_as p bytes ≡ Ok d → X
      never d q = let z : ◌≡◌ {A = ℕ} 0 1 = cc in absurd (omega arith)

-- a frame that was read and taken
pub record Taken (p : Plan) (i : ℕ) (r : BoxRecord) (bytes : List ℕ) (res : Result (Outcome (Unit {0})) BoxFault) (r' : BoxRecord) : Type 0 where
  pub answer : JudgedRow p i r (λ kept. frame_call p (box_of r) kept bytes) res
  pub meaning : JudgedRow p i r (λ kept. frame_after p (box_of r) kept bytes) (box_of r')
  pub stays : KeepsRules p i r'
  pub laws : FrameLaws p (box_of r) bytes res (box_of r')

pub taken : (p : Plan) (i : ℕ) (r : BoxRecord) (bytes : List ℕ) (c : Content) (res : Result (Outcome (Unit {0})) BoxFault) (r' : BoxRecord) → KeepsRules p i r → r.on ≡ true → Lawful p c → Ok c ≡ read_as p bytes →
    res ≡ answer p (box_of r) c → box_of r' ≡ box_after p (box_of r) c → tables_fit r' ≡ true → Taken p i r bytes res r'
taken p i r bytes c res r' k on lawful read answers becomes fits =
    let b = box_of r in
    let call : frame_call p b true bytes ≡ answer p b c = ap (λ z. cond (not z) (Err fault.Off) (read_answer p b (read_as p bytes))) on ∙ ap (read_answer p b) (sym read) in
    let after : frame_after p b true bytes ≡ box_after p b c = ap (λ z. cond z (read_after p b (read_as p bytes)) b) on ∙ ap (read_after p b) (sym read) in
    let laws : FrameLaws p b bytes (answer p b c) (box_after p b c) = laws_of p i b k.rules bytes c lawful (sym read) in
    record {
      answer = judged p i r (λ kept. frame_call p b kept bytes) res k (answers ∙ sym call);
      meaning = judged p i r (λ kept. frame_after p b kept bytes) (box_of r') k (becomes ∙ sym after);
      stays = record { tables = fits; rules = subst (Keeps p i) (sym becomes) ((records-stay.stay p i b k.rules).by_contents c lawful) };
      laws = subst (FrameLaws p b bytes res) (sym becomes) (subst (λ z. FrameLaws p b bytes z (box_after p b c)) (sym answers) laws);
    }
