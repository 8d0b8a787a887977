use Rattle.std.proofs.Common.{rules}
use borrow.Author.Tests.{tests}
use Rattle.std.proofs.lemmas.Iterator.{YieldsList-from_slice, YieldsList-from_zip}
use Rattle.std.proofs.lemmas.Iterator.Consumers.{YieldsList-at}
use Rattle.std.proofs.lemmas.Iterator.Search.{all_from_yields_List}
use Rattle.lists.proofs.Fronts.{pairs_decided}
use Rattle.lists.proofs.begins.Goals as goal

pub returns-then-short-long : goal.returns-then-short-long
returns-then-short-long g c =
    let short = c.args.short.now in
    let long = c.args.long.now in
    pairs_decided g.met.T.Exact.exact short long c.if-short-long.true c.all.result
    (all_from_yields_List _ c.all.new.self _ c.all.result c.all.ensures.ran (YieldsList-from_zip (YieldsList-at c.zip.ensures.first (YieldsList-from_slice short c.iter.ensures.rest)) (YieldsList-from_slice long cc)) (λ x b q k. search (rules, tests)))
