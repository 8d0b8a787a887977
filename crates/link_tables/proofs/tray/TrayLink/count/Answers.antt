use Rattle.std.proofs.Common.{◌≡◌, length, nat_eq, filter, sym, ◌∙◌, rules, tests, arith}
use Rattle.std.proofs.lemmas.Grind.{common_steps}
use Rattle.std.proofs.lemmas.Iterator.{YieldsList-from_slice}
use Rattle.std.proofs.lemmas.Iterator.Consumers.{YieldsList-from_filter, count_from_yields_List}
use Rattle.std.proofs.lemmas.List.{length-map}
use Rattle.link_tables.specs.declared.slots.Addressed.{Addressed}
use Rattle.link_tables.specs.Stores.{frame_of, frames_for}
use Rattle.link_tables.proofs.tray.TrayLink.count.Goals as goal

pub returns : goal.returns
returns c =
    let slots = c.args.self.now.slots.items in
    let own = λ (a : Addressed). nat_eq a.to c.args.to in
    let waiting : c.count.result ≡ length (frames_for c.args.to slots) =
    count_from_yields_List c.filter.result c.count.result c.count.ensures.ran (YieldsList-from_filter _ own (YieldsList-from_slice slots cc) c.filter.ensures.closure (λ x r q k. search (rules, tests)))
    ∙ sym (length-map (filter own slots) frame_of) in
    grind (arith, common_steps)
