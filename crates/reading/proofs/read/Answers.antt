use Rattle.std.proofs.Common.{ℕ, ◌<◌, get_or, arith}
use Rattle.std.proofs.ByRecursion.{All-from_get_or}
use Rattle.frames.proofs.Shown.{shows}
use Rattle.frames.proofs.Back.{one}
use Rattle.reading.proofs.read.Goals as goal

pub returns : goal.returns
returns c =
    let small : (i : ℕ) → get_or c.args.bytes.now i 0 < 256 = λ i. omega (arith, c.type_inv.bytes i) in
    record {
      answer = c.read_kind.ensures;
      lawful = shows c.args.plan.now c.args.bytes.now _ (All-from_get_or (λ b. b < 256) c.args.bytes.now 0 (λ i _. small i)) c.read_kind.ensures;
      alone = one;
    }
