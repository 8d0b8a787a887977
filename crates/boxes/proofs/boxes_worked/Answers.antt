use Rattle.std.proofs.Common.{refl}
use Rattle.boxes.proofs.boxes_worked.Goals as goal

pub returns : goal.returns
returns c = record {
  kept = refl;
  opened = refl;
  puts_forward = refl;
  round-one = refl;
  awaits = refl;
  waits = refl;
  decides = refl;
  decided = refl;
  proposes_none = refl;
  known = refl;
  stale = refl;
  trusting = refl;
  doubtful = refl;
  takes_over = refl;
  leaves = refl;
  learned = refl;
  not_given = refl;
  not_meant = refl;
  busy = refl;
  apart = refl;
  over = refl;
}
