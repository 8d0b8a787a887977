-- A log takes each one of decisions that fit.
use Rattle.std.proofs.Common.{◌≡◌, ◌+◌, ◌<◌, ◌≤◌, true, List, [], ◌∷◌, ◌++◌, length, ap, ◌∙◌, subst, sym, arith}
use Rattle.std.specs.List.{flat_map, AllByRecursion}
use Rattle.std.proofs.lemmas.List.{length-map, length-append}
use Rattle.frames.specs.declared.Entry.{Entry}
use Rattle.frames.specs.Contents.{ids_of}
use Rattle.lists.specs.Tables.{room, held}
use Rattle.logs.specs.declared.Log.{Log}
use Rattle.logs.specs.Logs.{takes}
use Rattle.logs.proofs.Sound.{log-ids, takes_it}
use Rattle.received.specs.Unpacking.{Loggable, Logged}

-- one of them after others
pub record RoomAfter (done : List (List Entry)) (d : List Entry) : Type 0 where
  pub some : 0 < length d
  pub decisions : length done < room
  pub entries : length (flat_map ids_of done) + length d ≤ room

pub room_after : (ds done left : List (List Entry)) (d : List Entry) (rest : List (List Entry)) → done ++ left ≡ ds → left ≡ d ∷ rest → Loggable ds → RoomAfter done d
room_after ds done left d rest e next g =
    let g' : Loggable (done ++ d ∷ rest) = subst (λ x. Loggable x) (sym e ∙ ap (λ x. done ++ x) next) g in
    let few = g'.few in
    let n = go done g'.some in
    record { some = n.0; decisions = omega (arith, n.1, n.2, n.0); entries = omega (arith, n.2) }
  where
    -- there are no more decisions than entries
    go : (done : List (List Entry)) → AllByRecursion (λ (x : List Entry). 0 < length x) (done ++ d ∷ rest) →
        (0 < length d) × (length done ≤ length (flat_map ids_of done)) × (length (flat_map ids_of done) + length d ≤ length (flat_map ids_of (done ++ d ∷ rest)))
    go [] s = (s.0, omega arith, omega (arith, length-append (ids_of d) (flat_map ids_of rest), length-map d (λ (e : Entry). e.id)))
    go (x ∷ xs) s =
        let ih = go xs s.1 in
        let some = s.0 in
        let a = length-append (ids_of x) (flat_map ids_of xs) in
        let b = length-append (ids_of x) (flat_map ids_of (xs ++ d ∷ rest)) in
        let n = length-map x (λ (e : Entry). e.id) in
        (ih.0, omega arith, omega arith)

pub takes_with_room : (done : List (List Entry)) (d : List Entry) (l : Log) → RoomAfter done d → Logged done l → l.decided ≡ length done → l.entries.count ≡ length (held l.entries) → takes l d ≡ true
takes_with_room done d l f g decided counted =
    let ids = ap length (ap (flat_map ids_of) (sym g.decisions) ∙ log-ids l g.sound) in
    let n = length-map (held l.entries) (λ (e : Entry). e.id) in
    takes_it l d g.sound (omega (arith, f.decisions)) f.some (omega (arith, f.entries))
