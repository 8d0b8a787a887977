use Rattle.std.proofs.Common.{◌≡◌, true, refl, subst}
use Rattle.records.specs.Records.{box_of, turn_fits}
use Rattle.records.proofs.Drafts.{fitting}
use Rattle.records.proofs.Rules.{with_turn, without_turn}
use Rattle.records.proofs.BoxRecord.turn_keeps.Goals as goal

pub open_keeps-requires : goal.open_keeps-requires
open_keeps-requires c =
    let fits = fitting c.args.self.now c.requires in
    (fits.log, subst (λ z. turn_fits z ≡ true) c.in-Some.is fits.turn)

pub returns-in-Some : goal.returns-in-Some
returns-in-Some c = with_turn c.args.plan.now (box_of c.args.self.now) c.args.self.now.turn c.in-Some.turn c.open_keeps.result c.in-Some.is refl c.open_keeps.ensures

pub returns-in-None : goal.returns-in-None
returns-in-None c = (λ _. without_turn c.args.plan.now (box_of c.args.self.now) c.args.self.now.turn c.in-None.is refl, λ _. refl)
