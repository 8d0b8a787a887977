-- What lines are to bytes and to frames.
use Rattle.std.specs.Prelude.{◌≡◌, ℕ, ◌<◌, ◌≤◌, List, length, Ok}
use Rattle.std.specs.List.{AllByRecursion}
use Rattle.frames.specs.declared.plan.Plan.{Plan}
use Rattle.frames.specs.Contents.{Content, Lawful, bytes_of}
use Rattle.lines.specs.Digits.{line_of}
use Rattle.lines.specs.Reads.{frame_room, line_bytes, line_as}

-- bytes written as a line read back as the same bytes
abbrev pub LineReadsBack : Type 0
LineReadsBack = (bs : List ℕ) → AllByRecursion (λ b. b < 256) bs → 0 < length bs → length bs ≤ frame_room → line_bytes (line_of bs) ≡ Ok bs

-- a line that is read, written again, is the same line, and what it holds are bytes
abbrev pub LineWritesBack : Type 0
LineWritesBack = (cs bs : List ℕ) → line_bytes cs ≡ Ok bs → (line_of bs ≡ cs) × AllByRecursion (λ b. b < 256) bs

-- no two lines hold the same bytes
abbrev pub OneLine : Type 0
OneLine = (cs ds bs : List ℕ) → line_bytes cs ≡ Ok bs → line_bytes ds ≡ Ok bs → cs ≡ ds

-- all lawful contents have a line
abbrev pub ContentsHaveLine : Type 0
ContentsHaveLine = (p : Plan) (c : Content) → Lawful p c → line_as p (line_of (bytes_of p c)) ≡ Ok c

-- and no two lines hold the same contents
abbrev pub OneLineForContents : Type 0
OneLineForContents = (p : Plan) (cs ds : List ℕ) (c : Content) → line_as p cs ≡ Ok c → line_as p ds ≡ Ok c → cs ≡ ds
