-- The frames for one box among the slots of a tray.
use Rattle.std.proofs.Common.{◌≡◌, ℕ, zero, suc, ◌+◌, ◌<◌, ◌≤◌, Bool, true, false, cond, ◌≢◌, List, [], ◌∷◌, ◌++◌, map, length, get_or, take, drop, filter, Some, None, Ok, Option, nat_eq, nat_le, nat_lt, ◌==◌, refl, sym, ap, ap₂, subst, ◌∙◌, ⊎_elim, arith}
use Rattle.std.specs.List.{remove, slice_get, enumerate_from}
use Rattle.std.specs.Option.{option_map, ok_or}
use Rattle.std.proofs.lemmas.Option.{none-some, some_pair_parts, slice_get_cases}
use denote.Ref.{Bor}
use Rattle.std.proofs.lemmas.List.Elements.{filter-append}
use Rattle.std.proofs.lemmas.List.{get_or_at, map-append, append-nil, length-append}
use Rattle.std.proofs.lemmas.Bool.Decides.{nat_tests}
use Rattle.std.proofs.lemmas.Bool.{eq-eqb, eqb-true, ne_eqb, cond-true, cond-false}
use Rattle.links.specs.Mail.{Mail, boxes}
use Rattle.links.specs.declared.LinkFault.TheVariants as fault
use Rattle.links.specs.Calls.{Appended, Taken, Posted}
use Rattle.link_tables.specs.declared.slots.Addressed.{Addressed}
use Rattle.link_tables.specs.declared.slots.Tray.{Tray}
use Rattle.link_tables.specs.Taking.{TakesPost}
use Rattle.link_tables.specs.Finding.{Stands, Finds}
use Rattle.link_tables.specs.Sizes.{tray_limit}
use Rattle.link_tables.specs.Stores.{frame_of, frames_for, tray_mail, in_all}
use Rattle.link_tables.proofs.Places.{removed_at, around_item}

frames_append : (b : ℕ) (xs ys : List Addressed) → frames_for b (xs ++ ys) ≡ frames_for b xs ++ frames_for b ys
frames_append b xs ys =
    let p : Addressed → Bool = λ a. nat_eq a.to b in
    ap (map frame_of) (filter-append p xs ys) ∙ map-append frame_of (filter p xs) (filter p ys)

one_hit : (b : ℕ) (a : Addressed) → a.to ≡ b → frames_for b (a ∷ []) ≡ frame_of a ∷ []
one_hit b a e = ap (map frame_of) (cond-true (a.to == b) (a ∷ []) [] (eq-eqb a.to b e))

one_miss : (b : ℕ) (a : Addressed) → (a.to ≢ b) → frames_for b (a ∷ []) ≡ []
one_miss b a e = ap (map frame_of) (cond-false (a.to == b) (a ∷ []) [] (ne_eqb a.to b e))

-- a slot more at the end
module _ (b : ℕ) (xs : List Addressed) (a : Addressed) where
  pub push_own : a.to ≡ b → frames_for b (xs ++ a ∷ []) ≡ frames_for b xs ++ frame_of a ∷ []
  push_own e = frames_append b xs (a ∷ []) ∙ ap (λ l. frames_for b xs ++ l) (one_hit b a e)

  pub push_other : (a.to ≢ b) → frames_for b (xs ++ a ∷ []) ≡ frames_for b xs
  push_other e = frames_append b xs (a ∷ []) ∙ ap (λ l. frames_for b xs ++ l) (one_miss b a e) ∙ append-nil (frames_for b xs)

-- what a tray with these slots means
abbrev pub slots_mail : List Addressed → Mail
slots_mail xs = record { waiting = λ b. frames_for b xs; full = λ b. nat_le tray_limit (length xs) }

slot_appended : (xs ys : List Addressed) (a : Addressed) (to : ℕ) (frame : List ℕ) → a.to ≡ to → frame_of a ≡ frame → ys ≡ xs ++ a ∷ [] → Appended (slots_mail xs) to frame (slots_mail ys)
slot_appended xs ys a to frame own written more = record {
  own = ap (frames_for to) more ∙ push_own to xs a own ∙ ap (λ f. frames_for to xs ++ f ∷ []) written;
  others = λ b ne. ap (frames_for b) more ∙ push_other b xs a (λ e. ne (sym e ∙ own));
  frees_none = λ b full. let size = ap length more ∙ length-append xs (a ∷ []) in grind (arith, nat_tests);
}

-- the frame at a place
module _ (xs : List Addressed) (to place k : ℕ) (a : Addressed) (found : Stands xs to place k a) where
  parts : xs ≡ take k xs ++ (a ∷ drop (suc k) xs)
  parts = around_item xs k a found.inside

  around : (b : ℕ) → frames_for b xs ≡ frames_for b (take k xs) ++ (frames_for b (a ∷ []) ++ frames_for b (drop (suc k) xs))
  around b = ap (frames_for b) parts ∙ frames_append b (take k xs) (a ∷ drop (suc k) xs) ∙ ap (λ l. frames_for b (take k xs) ++ l) (frames_append b (a ∷ []) (drop (suc k) xs))

  frames : frames_for to xs ≡ frames_for to (take k xs) ++ (frame_of a ∷ frames_for to (drop (suc k) xs))
  frames = around to ∙ ap (λ l. frames_for to (take k xs) ++ (l ++ frames_for to (drop (suc k) xs))) (one_hit to a found.own)

  pub stands_there : place < length (frames_for to xs)
  stands_there = omega (arith, ap length frames, length-append (frames_for to (take k xs)) (frame_of a ∷ frames_for to (drop (suc k) xs)), found.before)

  pub stands_frame : get_or (frames_for to xs) place [] ≡ frame_of a
  stands_frame = ap (λ l. get_or l place []) frames ∙ get_or_at (frames_for to (take k xs)) (frame_of a) (frames_for to (drop (suc k) xs)) [] place found.before

  pub removed_own : frames_for to (remove xs k) ≡ remove (frames_for to xs) place
  removed_own = frames_append to (take k xs) (drop (suc k) xs) ∙ sym (removed_at (frames_for to (take k xs)) (frame_of a) (frames_for to (drop (suc k) xs))) ∙ ap₂ remove (sym frames) found.before

  pub removed_other : (b : ℕ) → b ≢ to → frames_for b (remove xs k) ≡ frames_for b xs
  removed_other b ne = frames_append b (take k xs) (drop (suc k) xs) ∙ sym (around b ∙ ap (λ l. frames_for b (take k xs) ++ (l ++ frames_for b (drop (suc k) xs))) (one_miss b a (λ e. ne (sym e ∙ found.own))))

pub slot_taken : (xs ys : List Addressed) (to place k : ℕ) (a : Addressed) → Stands xs to place k a → length xs ≤ tray_limit → ys ≡ remove xs k → length ys + 1 ≡ length xs → Taken (slots_mail xs) to place (slots_mail ys)
slot_taken xs ys to place k a found few less size = record {
  own = ap (frames_for to) less ∙ removed_own xs to place k a found;
  others = λ b ne. ap (frames_for b) less ∙ removed_other xs to place k a found b ne;
  freed = grind (arith, nat_tests);
  fills_none = λ b full. grind (arith, nat_tests);
}

-- a slot more at the front
count_one : (b : ℕ) (a : Addressed) (xs : List Addressed) → length (frames_for b (a ∷ xs)) ≡ cond (a.to == b) 1 0 + length (frames_for b xs)
count_one b a xs = by (a.to == b)
  where
    by : (t : Bool) → length (map frame_of (cond t (a ∷ filter (λ x. nat_eq x.to b) xs) (filter (λ x. nat_eq x.to b) xs))) ≡ cond t 1 0 + length (frames_for b xs)
    by true = omega arith
    by false = omega arith

-- the slots of a box, each with its number, where slots are numbered from i
abbrev pub slots_for : ℕ → ℕ → List Addressed → List (ℕ × Addressed)
slots_for i b xs = filter (λ e. nat_eq e.1.to b) (enumerate_from i xs)

-- the slot numbered k stands there
abbrev Found : ℕ → ℕ → List Addressed → ℕ → ℕ → Addressed → Type 0
Found i b xs place k a = (j : ℕ) × (k ≡ i + j) × Stands xs b place j a

module _ (i b : ℕ) (x : Addressed) (xs : List Addressed) (k : ℕ) (a : Addressed) where
  found_first : (t : Bool) → nat_eq x.to b ≡ t → ((p : ℕ) → slice_get (slots_for (i + 1) b xs) p ≡ Some (k, a) → Found (i + 1) b xs p k a) → (place : ℕ) → slice_get (cond t ((i, x) ∷ slots_for (i + 1) b xs) (slots_for (i + 1) b xs)) place ≡ Some (k, a) → Found i b (x ∷ xs) place k a
  found_first true hit later zero e =
      let same = some_pair_parts i k x a e in
      (0, omega (arith, same.0), record { inside = ap Some same.1; before = refl; own = ap (λ (y : Addressed). y.to) (sym same.1) ∙ eqb-true x.to b hit })
  found_first true hit later (suc p) e =
      let f = later p e in
      (suc f.0, omega (arith, f.1), record { inside = f.2.inside; before = count_one b x (take f.0 xs) ∙ ap (λ t. cond t 1 0 + length (frames_for b (take f.0 xs))) hit ∙ omega (arith, f.2.before); own = f.2.own })
  found_first false miss later place e =
      let f = later place e in
      (suc f.0, omega (arith, f.1), record { inside = f.2.inside; before = count_one b x (take f.0 xs) ∙ ap (λ t. cond t 1 0 + length (frames_for b (take f.0 xs))) miss ∙ omega (arith, f.2.before); own = f.2.own })

found_from : (i b : ℕ) (xs : List Addressed) (place k : ℕ) (a : Addressed) → slice_get (slots_for i b xs) place ≡ Some (k, a) → Found i b xs place k a
found_from i b [] place k a e = absurd (none-some (k, a) e)
found_from i b (x ∷ xs) place k a e = found_first i b x xs k a (nat_eq x.to b) refl (λ p. found_from (i + 1) b xs p k a) place e

slots_length : (i b : ℕ) (xs : List Addressed) → length (slots_for i b xs) ≡ length (frames_for b xs)
slots_length i b [] = refl
slots_length i b (x ∷ xs) =
    let rest = slots_length (i + 1) b xs in
    let f = filter (λ (y : Addressed). nat_eq y.to b) xs in
    elim (nat_eq x.to b) as (λ t. length (cond t ((i, x) ∷ slots_for (i + 1) b xs) (slots_for (i + 1) b xs)) ≡ length (map frame_of (cond t (x ∷ f) f))) [ true ↦ ap suc rest | false ↦ rest ]

missed : (b : ℕ) (xs : List Addressed) (place : ℕ) → slice_get (slots_for 0 b xs) place ≡ None → length (frames_for b xs) ≤ place
missed b xs place e =
    ⊎_elim (λ h. absurd (none-some h.0 (sym e ∙ h.2))) (λ h. omega (arith, h.0, slots_length 0 b xs)) (slice_get_cases (slots_for 0 b xs) place).1

pub finds : (t : Tray) (to place : ℕ) (r : Option (ℕ × Bor Addressed)) → to < boxes → option_map (λ (e : ℕ × Bor Addressed). (e.0, e.1.now)) r ≡ slice_get (slots_for 0 to t.slots.items) place → Finds t to place (ok_or r fault.Place)
finds t to place None known e =
    let past = missed to t.slots.items place (sym e) in
    grind (arith, nat_tests)
finds t to place (Some s) known e =
    let f = found_from 0 to t.slots.items place s.0 s.1.now (sym e) in
    let number : f.0 ≡ s.0 = omega (arith, f.1) in
    let stands : Stands t.slots.items to place s.0 s.1.now = subst (λ j. Stands t.slots.items to place j s.1.now) number f.2 in
    let there = stands_there t.slots.items to place s.0 s.1.now stands in
    (grind (arith, nat_tests), stands)

-- how many wait for the boxes below n
total : ℕ → List Addressed → ℕ
total zero xs = 0
total (suc n) xs = total n xs + length (frames_for n xs)

total_none : (n : ℕ) → total n [] ≡ 0
unfolding total
total_none zero = refl
total_none (suc n) = omega (arith, total_none n)

total_more : (n : ℕ) (a : Addressed) (xs : List Addressed) → total n (a ∷ xs) ≡ cond (nat_lt a.to n) 1 0 + total n xs
unfolding total
total_more zero a xs = grind (arith, nat_tests)
total_more (suc n) a xs =
    let before = total_more n a xs in
    let here = count_one n a xs in
    grind (arith, nat_tests)

-- every slot is for one of the boxes
total_all : (xs : List Addressed) → total boxes xs ≡ length xs
total_all [] = total_none boxes
total_all (a ∷ xs) =
    let rest = total_all xs in
    let more = total_more boxes a xs in
    let known : a.to < boxes = a.known in
    grind (arith, nat_tests)

-- as many wait in all as slots are in use
pub in-all : (t : Tray) → length t.slots.items ≡ in_all boxes (tray_mail t)
unfolding total
in-all t = sym (total_all t.slots.items)

-- what a post that is taken makes of a tray
pub tray_posted : (t t' : Tray) (a : Addressed) (to : ℕ) (full : Bool) (frame : List ℕ) → full ≡ nat_le tray_limit (length t.slots.items) → TakesPost to full frame (Ok a) → t'.slots.items ≡ t.slots.items ++ a ∷ [] → Posted tray_mail t to frame (Ok tt) t'
tray_posted t t' a to full frame said taken more = rw (rw said at taken.0) (refl, slot_appended t.slots.items t'.slots.items a to frame taken.1 taken.2 more)
