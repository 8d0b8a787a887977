use Rattle.std.proofs.Common.{◌+◌, ◌*◌, arith}
use Rattle.lines.proofs.Steps.{byte_more, bytes_all}
use Rattle.lines.proofs.put_bytes.Goals as goal

pub loop-i-preserved : goal.loop-i-preserved
loop-i-preserved c =
    let high = c.value.ensures.is in
    let low = c.value-in-loop-i.ensures.is in
    byte_more c.as_chunks.result.0.now c.args.out.now c.loop-i.out c.loop-i.i _ c.loop-i-test.true (omega (arith, c.as_chunks.ensures.front_len)) (λ k. 16 * high k + low k) c.loop-i.invariant

pub returns : goal.returns
returns c =
    let chunks = c.as_chunks.ensures in
    let x = bytes_all c.args.line.now c.args.out.now c.loop-i.out c.as_chunks.result.0.now c.loop-i.i chunks.front c.loop-i-test.false (omega (arith, chunks.front_len)) c.loop-i.invariant in
    record { buffer = x.0; front = x.1 }
