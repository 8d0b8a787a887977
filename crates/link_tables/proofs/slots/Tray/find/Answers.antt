use Rattle.std.proofs.Common.{ℕ, ◌<◌, nat_eq, rules, tests, arith}
use Rattle.std.proofs.lemmas.Bool.Decides.{nat_tests}
use Rattle.std.proofs.lemmas.Iterator.{YieldsList-from_slice}
use Rattle.std.proofs.lemmas.Iterator.Consumers.{YieldsList-at, YieldsList-from_filter, YieldsList-from_enumerate, nth_from_yields_List}
use Rattle.links.specs.Mail.{boxes}
use Rattle.link_tables.specs.declared.slots.Addressed.{Addressed}
use Rattle.link_tables.proofs.Boxes.{finds}
use Rattle.link_tables.proofs.slots.Tray.find.Goals as goal

pub returns : goal.returns
returns c =
    let box = c.in_ok-check_box.ensures in
    let known : c.args.to < boxes = grind (arith, nat_tests) in
    rw c.ok_or.ensures.value
    (finds c.args.self.now c.args.to c.args.place c.nth.result known
    (nth_from_yields_List c.nth.result c.nth.new.self c.args.place c.nth.ensures.ran
    (YieldsList-from_filter _ (λ (e : ℕ × Addressed). nat_eq e.1.to c.args.to)
    (YieldsList-at c.filter.ensures.source (YieldsList-from_enumerate (YieldsList-at c.enumerate.ensures.source (YieldsList-from_slice c.args.self.now.slots.items cc)) c.enumerate.ensures.count)) c.filter.ensures.closure (λ x r q k. search (rules, tests)))))
