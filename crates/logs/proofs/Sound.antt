-- What it gives that a log adds up, and what an appended decision leaves of it.
use Rattle.std.proofs.Common.{◌≡◌, ◌+◌, ◌<◌, ◌≤◌, Bool, true, leb, List, [], ◌∷◌, ◌++◌, length, set, Decides, sum, refl, ap, ◌∙◌, ap₂, arith}
use Rattle.std.specs.List.{flat_map}
use Rattle.std.proofs.lemmas.Bool.{leb-true, eqb-true, le-leb, lt-ltb, and_parts}
use Rattle.std.proofs.lemmas.Bool.Decides.{Decides-like}
use Rattle.std.proofs.lemmas.List.{map-append, take_all, take_more_set}
use Rattle.frames.specs.declared.Entry.{Entry}
use Rattle.frames.specs.Contents.{ids_of, parted}
use Rattle.lists.specs.declared.Entries.{Entries}
use Rattle.lists.specs.Tables.{held, with_part}
use Rattle.lists.proofs.Holds.{held_holding}
use Rattle.logs.specs.declared.Log.{Log}
use Rattle.logs.specs.Logs.{lengths_of, log_of, adds_up, takes, appended, BeginsLog, BeginsByParts}
use Rattle.logs.proofs.Parted.{parted_joined, parted_append, begins_parts, begins_whole}

pub record Sound (l : Log) : Type 0 where
  pub entries_fit : l.entries.count ≤ 105
  pub decisions_fit : l.decided ≤ 105
  pub add_up : sum (lengths_of l) ≡ length (held l.entries)

pub sound : (l : Log) → adds_up l ≡ true → Sound l
sound l q =
    let first = and_parts (leb l.entries.count 105) _ q in
    let second = and_parts (leb l.decided 105) _ first.1 in
    record { entries_fit = leb-true _ _ first.0; decisions_fit = leb-true _ _ second.0; add_up = eqb-true _ _ second.1 }

pub log-ids : (l : Log) → adds_up l ≡ true → flat_map ids_of (log_of l) ≡ ids_of (held l.entries)
log-ids l q = parted_joined ids_of refl (map-append (λ (e : Entry). e.id)) (lengths_of l) (held l.entries) (sound l q).add_up

pub begins_logs : (l m : Log) (r : Bool) → Decides r (BeginsByParts l m) →
    adds_up l ≡ true → adds_up m ≡ true → Decides r (BeginsLog l m)
begins_logs l m r d p q =
    let a = (sound l p).add_up in
    let b = (sound m q).add_up in
    Decides-like r (λ s. begins_whole _ _ _ _ a b s.0 s.1) (λ s. begins_parts _ _ _ _ a b s) d

-- Appending

module _ (l : Log) (d : List Entry) where
  pub is_appended : (es : Entries) → es ≡ with_part d l.entries →
      ◌≡◌ {A = Log} (record { entries = es; lengths = set l.lengths l.decided (length d); decided = l.decided + 1 }) (appended d l)
  is_appended es e = λ i. record { entries = e i; lengths = set l.lengths l.decided (length d); decided = l.decided + 1 }

  pub takes_it : adds_up l ≡ true → l.decided < 105 → 0 < length d → l.entries.count + length d ≤ 105 → takes l d ≡ true
  takes_it q a b c =
      let a' = lt-ltb l.decided 105 a in
      let b' = lt-ltb 0 (length d) b in
      let c' = le-leb (l.entries.count + length d) 105 c in
      rw (q, a', b', c')

  module _ (room_left : l.decided < length l.lengths) where
    lengths_after : lengths_of (appended d l) ≡ lengths_of l ++ length d ∷ []
    lengths_after = take_more_set l.lengths l.decided (length d) room_left

    entries_after : held (appended d l).entries ≡ held l.entries ++ d
    entries_after = held_holding (held l.entries ++ d) l.entries

    pub log_after : adds_up l ≡ true → log_of (appended d l) ≡ log_of l ++ d ∷ []
    log_after q =
        ap₂ parted lengths_after entries_after ∙ parted_append (lengths_of l) (length d ∷ []) (held l.entries) d (sound l q).add_up
        ∙ ap (λ x. log_of l ++ x ∷ []) (take_all (length d) d (omega arith))
