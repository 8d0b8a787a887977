-- A table made to hold these entries holds them.
use Rattle.std.proofs.Common.{◌≡◌, List, length, refl, ap, ◌∙◌}
use Rattle.std.proofs.lemmas.List.{take_at}
use Rattle.frames.specs.declared.Entry.{Entry}
use Rattle.lists.specs.declared.Entries.{Entries}
use Rattle.lists.specs.Tables.{held, holding}

pub held_holding : (es : List Entry) (t : Entries) → held (holding es t) ≡ es
held_holding es t = take_at es _ (length es) refl

pub holds : (es : List Entry) (t t' : Entries) → t' ≡ holding es t → held t' ≡ es
holds es t t' e = ap held e ∙ held_holding es t
