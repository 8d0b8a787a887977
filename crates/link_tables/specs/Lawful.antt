-- Every frame that waits is lawful, since a table holds no others: the law of a link.
use Rattle.std.specs.Prelude.{ℕ, zero, suc, List, [], ◌∷◌, map, filter, nat_eq, slice_index_or}
use Rattle.std.specs.List.{AllByRecursion}
use Rattle.std.proofs.ByRecursion.{All-map}
use Rattle.links.specs.Mail.{Lawful}
use Rattle.link_tables.specs.declared.slots.Addressed.{Addressed}
use Rattle.link_tables.specs.declared.slots.Held.{Held}
use Rattle.link_tables.specs.declared.slots.Line.{Line}
use Rattle.link_tables.specs.Stores.{bytes_of, frame_of, frames_for, line_frames}

pub all_everywhere : {X : Type 0} (P : X → Type 0) → ((x : X) → P x) → (xs : List X) → AllByRecursion P xs
all_everywhere P h [] = tt
all_everywhere P h (x ∷ xs) = (h x, all_everywhere P h xs)

pub held_lawful : (h : Held) → Lawful (bytes_of h)
held_lawful h = (h.some, h.fits)

pub tray_lawful : (slots : List Addressed) (b : ℕ) → AllByRecursion Lawful (frames_for b slots)
tray_lawful slots b =
    let own = filter (λ (a : Addressed). nat_eq a.to b) slots in
    All-map Lawful frame_of own (all_everywhere (λ a. Lawful (frame_of a)) (λ a. held_lawful a.held) own)

pub lines_lawful : (lines : List Line) (b : ℕ) → AllByRecursion Lawful (slice_index_or (map line_frames lines) b [])
lines_lawful [] b = tt
lines_lawful (l ∷ lines) zero = All-map Lawful bytes_of l.slots.items (all_everywhere (λ h. Lawful (bytes_of h)) held_lawful l.slots.items)
lines_lawful (l ∷ lines) (suc b) = lines_lawful lines b
