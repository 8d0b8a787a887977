-- The meaning of a link: for each box the frames that wait for it, oldest first, and whether it is full.
use Rattle.std.specs.Prelude.{◌≡◌, ℕ, ◌<◌, ◌≤◌, Bool, false, List, [], length}
use Rattle.std.specs.List.{AllByRecursion}
use Rattle.frames.specs.Contents.{frame_most}

-- the longest frame, in bytes
abbrev pub longest : ℕ
longest = frame_most

-- a link has the boxes below this number
abbrev pub boxes : ℕ
boxes = 7

pub record Mail : Type 0 where
  pub waiting : ℕ → List (List ℕ)
  pub full : ℕ → Bool

pub record Fresh (m : Mail) : Type 0 where
  pub none_waits : (b : ℕ) → m.waiting b ≡ []
  pub none_full : (b : ℕ) → m.full b ≡ false

-- a frame that a link takes
abbrev pub Lawful : List ℕ → Type 0
Lawful frame = (0 < length frame) × (length frame ≤ longest)

abbrev pub LawfulMail : Mail → Type 0
LawfulMail m = (b : ℕ) → AllByRecursion Lawful (m.waiting b)
