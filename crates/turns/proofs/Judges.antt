-- What the tests of orders and tokens look at: tables, and what they mean.
use Rattle.std.proofs.Common.{◌≡◌, ℕ, Bool, true, ◌&&◌, List, [], ◌∷◌, ◌++◌, length, Decides, sym, refl, ap, ◌∙◌, arith, length-take}
use mathlib.Core.Bool.{and_assoc}
use Rattle.std.proofs.lemmas.Bool.Decides.{same_from_decides}
use Rattle.frames.specs.declared.Entry.{Entry}
use Rattle.frames.specs.Contents.{ids_of, has}
use Rattle.history.specs.Histories.{Begins}
use Rattle.lists.specs.Tables.{held, room}
use Rattle.logs.specs.declared.Log.{Log}
use Rattle.logs.specs.Logs.{adds_up, log_of, lengths_of}
use Rattle.logs.proofs.Parted.{length_parted}
use Rattle.logs.proofs.Sound.{sound, log-ids}
use Rattle.boxes.specs.Boxes.{Box, log_ids, token_ids}
use Rattle.boxes.specs.Handling.{used, all_used, begins_log}
use Rattle.boxes.proofs.Answering.{decides_log}
use Rattle.received.specs.declared.ReceivedToken.{ReceivedToken}
use Rattle.received.specs.Received.{token_of}

-- ids of two lists are used where those of each are
used_append : (b : Box) (is js : List ℕ) → all_used b (is ++ js) ≡ (all_used b is && all_used b js)
used_append b [] js = refl
used_append b (i ∷ is) js = ap (λ z. used b i && z) (used_append b is js) ∙ sym (and_assoc (used b i) (all_used b is) (all_used b js))

-- a token's ids are those of the two tables
pub token_used : (b : Box) (t : ReceivedToken) → adds_up t.log ≡ true →
    all_used b (token_ids (token_of t)) ≡ (all_used b (ids_of (held t.proposal)) && all_used b (ids_of (held t.log.entries)))
token_used b t q =
    used_append b (ids_of (held t.proposal)) (log_ids (log_of t.log)) ∙ ap (λ z. all_used b (ids_of (held t.proposal)) && all_used b z) (log-ids t.log q)

-- an id is in the log where the table of its entries has it
pub log_has : (i : ℕ) (l : Log) → adds_up l ≡ true → has i (ids_of (held l.entries)) ≡ has i (log_ids (log_of l))
log_has i l q = ap (has i) (sym (log-ids l q))

-- a log that adds up has as many decisions as it counts
pub decided : (l : Log) → length l.lengths ≡ room → adds_up l ≡ true → length (log_of l) ≡ l.decided
decided l long q =
    let s = (sound l q).decisions_fit in
    let n = length-take l.decided l.lengths in
    let m = length_parted (lengths_of l) (held l.entries) in
    omega arith

-- a test that decides whether a log begins another answers as the test of boxes
pub begins_same : (xs ys : List (List Entry)) (r : Bool) → Decides r (Begins xs ys) → r ≡ begins_log xs ys
begins_same xs ys r d = same_from_decides r (begins_log xs ys) d (decides_log xs ys)
