-- The frames of the lines.
use Rattle.std.proofs.Common.{◌≡◌, ℕ, zero, suc, ◌<◌, ◌≤◌, ◌≢◌, List, [], ◌∷◌, ◌++◌, map, length, get_or, nat_le, slice_index_or, slice_set, sym, ap, ap₂, ◌∙◌, arith}
use Rattle.std.specs.List.{remove}
use Rattle.std.proofs.lemmas.List.{map-append, map-set, get_or-map, get_or-set_same, get_or-set_other, length-map, length_push}
use Rattle.std.proofs.lemmas.List.Edits.{length-remove}
use Rattle.std.proofs.lemmas.Bool.{cases_eq}
use Rattle.std.proofs.lemmas.Bool.Decides.{nat_tests}
use Rattle.links.specs.Mail.{Mail}
use Rattle.links.specs.Calls.{Appended, Taken}
use Rattle.link_tables.specs.declared.slots.Held.{Held}
use Rattle.link_tables.specs.declared.slots.Line.{Line}
use Rattle.link_tables.specs.declared.slots.Lines.{Lines}
use Rattle.link_tables.specs.Sizes.{line_limit}
use Rattle.link_tables.specs.Stores.{bytes_of, line_frames, frames_on, lines_mail}
use Rattle.link_tables.proofs.Places.{map_removed}

few_on : (lines : List Line) (b : ℕ) → length (slice_index_or (map line_frames lines) b []) ≤ line_limit
few_on [] b = omega arith
few_on (line ∷ lines) zero = omega (arith, length-map line.slots.items bytes_of, line.few)
few_on (line ∷ lines) (suc b) = few_on lines b

-- four frames at most wait for a box, whatever the lines
pub frames_on_few : (l : Lines) (b : ℕ) → length (frames_on l b) ≤ line_limit
frames_on_few l b = few_on l.lines b

-- the line of a box
module _ (lines : List Line) (b : ℕ) (inside : b < length lines) where
  pub on_line : (d : Line) → slice_index_or (map line_frames lines) b [] ≡ line_frames (slice_index_or lines b d)
  on_line d = get_or-map line_frames lines b d [] inside

  pub changed_own : (l : Line) → slice_index_or (map line_frames (slice_set lines b l)) b [] ≡ line_frames l
  changed_own l = ap (λ x. get_or x b []) (map-set line_frames lines b l) ∙ get_or-set_same (map line_frames lines) b (line_frames l) [] (omega (arith, length-map lines line_frames))

  pub changed_other : (l : Line) (a : ℕ) → a ≢ b → slice_index_or (map line_frames (slice_set lines b l)) a [] ≡ slice_index_or (map line_frames lines) a []
  changed_other l a ne = ap (λ x. get_or x a []) (map-set line_frames lines b l) ∙ get_or-set_other (map line_frames lines) b a (line_frames l) [] ne

-- a box is full when its line is
abbrev pub lined : (ℕ → List (List ℕ)) → Mail
lined m = record { waiting = m; full = λ b. nat_le line_limit (length (m b)) }

module _ (m m' : ℕ → List (List ℕ)) (to : ℕ) (others : (b : ℕ) → b ≢ to → m' b ≡ m b) where
  pub lines_appended : (frame : List ℕ) → m' to ≡ m to ++ frame ∷ [] → Appended (lined m) to frame (lined m')
  lines_appended frame own =
      let size = ap length own ∙ length_push (m to) frame in
      record {
        own = own;
        others = others;
        frees_none = λ b full. let other = others b in grind (arith, nat_tests, cases_eq);
      }

  pub lines_taken : (place : ℕ) → place < length (m to) → length (m to) ≤ line_limit → m' to ≡ remove (m to) place → Taken (lined m) to place (lined m')
  lines_taken place there few own =
      let size = ap length own in
      let one_less = length-remove (m to) place there in
      record {
        own = own;
        others = others;
        freed = grind (arith, nat_tests);
        fills_none = λ b full. let other = others b in grind (arith, nat_tests, cases_eq);
      }

-- a frame more or less on the line of one box
module _ (l : Lines) (to : ℕ) (line : Line) (l' : Lines) (inside : to < length l.lines) (set : l'.lines ≡ slice_set l.lines to line) (old : Line) (was : old ≡ slice_index_or l.lines to old) where
  had : line_frames old ≡ frames_on l to
  had = ap line_frames was ∙ sym (on_line l.lines to inside old)

  has : frames_on l' to ≡ line_frames line
  has = ap (λ ls. get_or (map line_frames ls) to []) set ∙ changed_own l.lines to inside line

  others_stay : (b : ℕ) → b ≢ to → frames_on l' b ≡ frames_on l b
  others_stay b ne = ap (λ ls. get_or (map line_frames ls) b []) set ∙ changed_other l.lines to inside line b ne

  pub line_appended : (h : Held) (frame : List ℕ) → line.slots.items ≡ old.slots.items ++ h ∷ [] → bytes_of h ≡ frame → Appended (lines_mail l) to frame (lines_mail l')
  line_appended h frame more written =
      lines_appended (frames_on l) (frames_on l') to others_stay frame (has ∙ ap (map bytes_of) more ∙ map-append bytes_of old.slots.items (h ∷ []) ∙ ap₂ (λ fs f. fs ++ f ∷ []) had written)

  pub line_taken : (place : ℕ) → place < length (frames_on l to) → line.slots.items ≡ remove old.slots.items place → Taken (lines_mail l) to place (lines_mail l')
  line_taken place there less =
      lines_taken (frames_on l) (frames_on l') to others_stay place there (frames_on_few l to) (has ∙ ap (map bytes_of) less ∙ map_removed bytes_of old.slots.items place ∙ ap (λ fs. remove fs place) had)
