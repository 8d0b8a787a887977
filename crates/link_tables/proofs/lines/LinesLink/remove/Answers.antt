use Rattle.std.proofs.Common.{◌≡◌, ◌<◌, length, refl, arith, rules}
use Rattle.std.specs.List.{remove}
use Rattle.std.proofs.lemmas.Bool.Decides.{nat_tests}
use Rattle.link_tables.specs.Stores.{frames_on}
use Rattle.link_tables.proofs.Lined.{line_taken}
use Rattle.link_tables.proofs.lines.LinesLink.remove.Goals as goal

pub returns : goal.returns
returns c =
    let l = c.args.self.now in
    let line = c.index-self-to.result in
    let known : c.args.to < length l.lines = search rules in
    let found = c.in_ok-held.ensures.0 in
    let there : c.args.place < length (frames_on l c.args.to) = grind (arith, nat_tests) in
    let less : c.remove.new.self.items ≡ remove line.slots.items c.args.place = search rules in
    record { removed = rw found (refl, line_taken l c.args.to _ _ known refl line c.index-self-to.is c.args.place there less) }
