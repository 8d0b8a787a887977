use Rattle.std.proofs.Common.{◌≡◌, rules, ltb}
use borrow.Author.Tests.{tests}
use Rattle.std.specs.List.{position}
use Rattle.std.proofs.lemmas.Iterator.{YieldsList-from_slice}
use Rattle.std.proofs.lemmas.Iterator.Search.{position_from_yields_List}
use Rattle.frames.specs.declared.Entry.{Entry}
use Rattle.lists.proofs.Inserts.{place_found}
use Rattle.lists.proofs.place_of.Goals as goal

pub returns-clause-place : goal.returns-clause-place
returns-clause-place c =
    let found : c.position.result ≡ position (λ (x : Entry). ltb c.args.e.id x.id) c.args.entries.now =
    position_from_yields_List (λ (x : Entry). ltb c.args.e.id x.id) _ _ c.position.result c.position.ensures.ran (YieldsList-from_slice c.args.entries.now cc) (λ x b q k. search (rules, tests)) in
    rw c.unwrap_or.ensures (place_found c.args.e c.args.entries.now c.position.result found)
