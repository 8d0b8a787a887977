use Rattle.std.proofs.Common.{rules, eqb, ◌∙◌}
use borrow.Author.Tests.{tests}
use Rattle.std.proofs.lemmas.Iterator.{YieldsList-from_slice}
use Rattle.std.proofs.lemmas.Iterator.Search.{any_from_yields_List}
use Rattle.frames.specs.declared.Entry.{Entry}
use Rattle.lists.specs.Tables.{held}
use Rattle.lists.proofs.Flags.{any_has}
use Rattle.lists.proofs.Entries.has_id.Goals as goal

pub returns : goal.returns
returns c =
    any_from_yields_List (λ (e : Entry). eqb c.args.id e.id) _ _ c.any.result c.any.ensures.ran (YieldsList-from_slice (held c.args.self.now) cc) (λ x b q k. search (rules, tests))
    ∙ any_has c.args.id (held c.args.self.now)
