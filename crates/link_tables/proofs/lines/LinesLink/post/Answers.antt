use Rattle.std.proofs.Common.{◌≡◌, ◌<◌, [], ◌∷◌, ◌++◌, length, nat_le, refl, rules}
use Rattle.link_tables.specs.Sizes.{line_limit}
use Rattle.link_tables.specs.Stores.{frames_on}
use Rattle.link_tables.proofs.Lined.{line_appended}
use Rattle.link_tables.proofs.lines.LinesLink.post.Goals as goal

pub returns : goal.returns
returns c =
    let l = c.args.self.now in
    let held = c.in_ok-post.post.held in
    let known : c.args.to < length l.lines = search rules in
    let full : nat_le line_limit (length (frames_on l c.args.to)) ≡ c.is_full.result = search rules in
    let more : c.push.new.self.items ≡ c.index-self-to.result.slots.items ++ held ∷ [] = rw (← c.index-self-to.is) at c.push.ensures.items in
    record { posted = rw (full, c.in_ok-post.ensures.0) (refl, line_appended l c.args.to _ _ known refl c.index-self-to.result c.index-self-to.is held c.args.frame.now more c.in_ok-post.ensures.2) }
