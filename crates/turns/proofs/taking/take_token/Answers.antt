use Rattle.std.proofs.Common.{Ok, sym, ap, ◌∙◌}
use Rattle.received.specs.Received.{token_of}
use Rattle.turns.proofs.Takes.{idle_learning}
use Rattle.turns.proofs.taking.take_token.Goals as goal

pub learn-requires : goal.learn-requires
learn-requires c =
    record {
      keeps = c.requires.keeps;
      fits = c.requires.fits;
      idle = idle_learning c.plan-plan.result.now c.args.row.now (token_of c.args.token.now) _ (sym c.in_ok-outcome.ensures ∙ ap Ok c.in-Learned.is);
    }
