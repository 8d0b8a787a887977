-- What the tables mean.
use Rattle.std.specs.Prelude.{ℕ, zero, suc, ◌+◌, List, [], map, length, filter, nat_eq, nat_le, slice_index_or}
use Rattle.links.specs.Mail.{Mail}
use Rattle.link_tables.specs.declared.slots.Held.{Held}
use Rattle.link_tables.specs.declared.slots.Addressed.{Addressed}
use Rattle.link_tables.specs.declared.slots.Line.{Line}
use Rattle.link_tables.specs.declared.slots.Lines.{Lines}
use Rattle.link_tables.specs.declared.slots.Tray.{Tray}
use Rattle.link_tables.specs.Sizes.{tray_limit, line_limit}

abbrev pub bytes_of : Held → List ℕ
bytes_of h = h.bytes.items

abbrev pub frame_of : Addressed → List ℕ
frame_of a = bytes_of a.held

-- the frames for one box, in the order of the slots
abbrev pub frames_for : ℕ → List Addressed → List (List ℕ)
frames_for b slots = map frame_of (filter (λ a. nat_eq a.to b) slots)

-- a tray: every box is full when all its slots are in use
abbrev pub tray_mail : Tray → Mail
tray_mail t = record { waiting = λ b. frames_for b t.slots.items; full = λ b. nat_le tray_limit (length t.slots.items) }

-- how many frames wait for the boxes below n
abbrev pub in_all : ℕ → Mail → ℕ
in_all zero m = 0
in_all (suc n) m = in_all n m + length (m.waiting n)

abbrev pub line_frames : Line → List (List ℕ)
line_frames l = map bytes_of l.slots.items

-- none for a box that has no line
abbrev pub frames_on : Lines → ℕ → List (List ℕ)
frames_on l b = slice_index_or (map line_frames l.lines) b []

-- lines: a box is full when its own line is
abbrev pub lines_mail : Lines → Mail
lines_mail l = record { waiting = frames_on l; full = λ b. nat_le line_limit (length (frames_on l b)) }
