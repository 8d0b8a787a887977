-- What a set of ids holds.
use Rattle.std.specs.Prelude.{ℕ, List}
use Rattle.frames.specs.declared.ids.IdSet.{IdSet}
use Rattle.frames.specs.Contents.{Marks}

-- just these ids
abbrev pub Holds : IdSet → List ℕ → Type 0
Holds set ids = Marks set.flags ids
