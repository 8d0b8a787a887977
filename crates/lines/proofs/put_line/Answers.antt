use Rattle.std.proofs.Common.{get_or, ap, arith}
use Rattle.lines.proofs.Steps.{line_more, line_all}
use Rattle.lines.proofs.put_line.Goals as goal

pub loop-i-preserved : goal.loop-i-preserved
loop-i-preserved c =
    let two = c.two_digits.ensures in
    line_more c.args.bytes.now c.args.out.now c.loop-i.out c.loop-i.i c.loop-i-test.true (omega arith)
    _ _ (ap (λ z. get_or z 0 0) two) (ap (λ z. get_or z 1 0) two) c.loop-i.invariant

pub returns : goal.returns
returns c = let x = line_all c.args.bytes.now c.args.out.now c.loop-i.out c.loop-i.i (omega arith) (omega arith) c.loop-i.invariant in record { buffer = x.0; front = x.1 }
