-- How many frames the tables hold.
use Rattle.std.specs.Prelude.{ℕ}

-- a tray, for all boxes together
abbrev pub tray_limit : ℕ
tray_limit = 24

-- a line, for its one box
abbrev pub line_limit : ℕ
line_limit = 4
